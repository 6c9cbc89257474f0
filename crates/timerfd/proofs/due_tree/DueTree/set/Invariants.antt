use Rattle.std.proofs.Common.{◌≡◌, ◌<◌, ◌*◌, ◌/◌, ◌-◌, length, drop}
use Rattle.timerfd.specs.DueTree.{IsSettledBut}
use Rattle.timerfd.proofs.due_tree.DueTree.set.Given as goal

-- but for the node above the one that was written, each inner node has the earlier of the two below it
abbrev pub invariant-loop-node : goal.invariant-loop-node
invariant-loop-node l = record {
  same_leaves : l.self-inside.leaves ≡ l.initial.self-inside.leaves;
  even : length l.self-inside.nodes.items ≡ 2 * l.self-inside.leaves;
  above : 0 < l.node;
  within : l.node < length l.self-inside.nodes.items;
  view : drop l.self-inside.leaves l.self-inside.nodes.items ≡ drop l.initial.self-inside.leaves l.initial.self-inside.nodes.items;
  settled : IsSettledBut (l.node / 2) l.self-inside.nodes.items;
}

abbrev pub decreases-loop-node : goal.decreases-loop-node
decreases-loop-node l = l.node - 1
