use Rattle.std.proofs.Common.{arith, ℕ, List, Option, None, ◌≡◌, ◌*◌, length, drop}
use Rattle.std.proofs.lemmas.List.{get_or_read}
use Rattle.timerfd.specs.DueTree.{node}
use Rattle.timerfd.proofs.Settled.{root_is_first}
use Rattle.timerfd.proofs.due_tree.DueTree.first.Goals as goal

pub returns : goal.returns
returns c =
    let tree : List (Option ℕ) = c.self.inside.nodes.items in
    let half : ℕ = c.self.inside.leaves in
    let even : length tree ≡ 2 * half = c.self.invariant.0 in
    let view : drop half tree ≡ c.args.self.now = c.self.view_is in
    let root : c.index.result.now ≡ node tree 1 = get_or_read tree 1 c.index.result.now (omega arith) c.index.ensures None in
    rw (root, ← view) (root_is_first tree half even c.self.invariant.1 (omega arith))
