use Rattle.std.proofs.Common.{arith, ℕ, List, Option, None, ◌≡◌, ◌+◌, ◌*◌, ◌/◌, length, set, drop, ◌∙◌, ap}
use Rattle.std.proofs.lemmas.List.{get_or_read, length-set, drop-set-lt, drop-set-add}
use Rattle.timerfd.proofs.Settled.{settled_upwards}
use Rattle.timerfd.specs.DueTree.{node, earlier}
use Rattle.timerfd.proofs.due_tree.DueTree.set.Goals as goal

pub loop-node-preserved : goal.loop-node-preserved
loop-node-preserved c =
    let tree : List (Option ℕ) = c.loop-node.self-inside.nodes.items in
    let n : ℕ = c.loop-node.node / 2 in
    let even : length tree ≡ 2 * c.loop-node.self-inside.leaves = c.loop-node.invariant.even in
    let first : c.index.result.now ≡ node tree (2 * n) = get_or_read tree (2 * n) c.index.result.now (omega arith) c.index.ensures None in
    let second : c.index-in-loop-node.result.now ≡ node tree (2 * n + 1) = get_or_read tree (2 * n + 1) c.index-in-loop-node.result.now (omega arith) c.index-in-loop-node.ensures None in
    let is : c.earlier.result ≡ earlier (node tree (2 * n)) (node tree (2 * n + 1)) = rw (← first, ← second) c.earlier.ensures in
    record {
      same_leaves = c.loop-node.invariant.same_leaves;
      even = rw (length-set tree n c.earlier.result) even;
      above = omega arith;
      within = rw (length-set tree n c.earlier.result) (omega arith);
      view = rw (drop-set-lt c.loop-node.self-inside.leaves tree n c.earlier.result (omega arith)) c.loop-node.invariant.view;
      settled = settled_upwards tree n c.earlier.result (omega arith) (omega arith) c.loop-node.invariant.settled is;
    }

pub returns : goal.returns
returns c =
    let index : ℕ = c.args.index in
    let view : drop c.self.inside.leaves c.self.inside.nodes.items ≡ c.args.self.now = c.self.view_is in
    let put : drop c.self.inside.leaves (set c.self.inside.nodes.items (c.self.inside.leaves + index) c.args.time) ≡ set (drop c.self.inside.leaves c.self.inside.nodes.items) index c.args.time =
    drop-set-add c.self.inside.leaves c.self.inside.nodes.items index c.args.time in
    c.loop-node.invariant.view ∙ put ∙ ap (λ (times : List (Option ℕ)). set times index c.args.time) view
