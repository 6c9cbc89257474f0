use Rattle.std.proofs.Common.{arith, ℕ, List, Option, None, ◌≡◌, ◌*◌, false, length, drop, subst, sym, ◌∙◌}
use Rattle.std.specs.List.{All}
use Rattle.std.proofs.lemmas.List.{get_or_read, length-drop}
use Rattle.timerfd.specs.DueTree.{node}
use Rattle.timerfd.specs.Dues.{is_due}
use Rattle.timerfd.proofs.Settled.{root_not_due}
use Rattle.timerfd.proofs.due_tree.DueTree.due_by.Goals as goal
use Rattle.timerfd.proofs.due_tree.DueTree.due_by.Goals.{then-self-eq0-via-then-self-eq0, then-self-eq0-via-else-self-eq0+then-not-is_due}

pub returns-then-self-eq0 : goal.returns-then-self-eq0
returns-then-self-eq0 c =
    let tree : List (Option ℕ) = c.self.inside.nodes.items in
    let half : ℕ = c.self.inside.leaves in
    let even : length tree ≡ 2 * half = c.self.invariant.0 in
    let view : drop half tree ≡ c.args.self.now = c.self.view_is in
    let P : List (Option ℕ) → Type 0 = λ times. All (λ time. is_due c.args.now time ≡ false) times in
    subst P view (elim c.then-self-eq0.branch [
      | then-self-eq0-via-then-self-eq0 w ↦ λ k d within. absurd (omega (arith, length-drop half tree, w.if-self-eq0.true))
      | then-self-eq0-via-else-self-eq0+then-not-is_due w ↦
          let root : w.index.result.now ≡ node tree 1 = get_or_read tree 1 w.index.result.now (omega (arith, w.if-self-eq0.false)) w.index.ensures None in
          root_not_due tree half c.args.now even c.self.invariant.1 (omega (arith, w.if-self-eq0.false)) (rw (← root) (sym w.is_due.ensures ∙ w.if-not-is_due.true))
    ])
