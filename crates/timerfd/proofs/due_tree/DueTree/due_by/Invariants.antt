use Rattle.std.proofs.Common.{◌≡◌, ◌<◌, ◌-◌, true, length}
use Rattle.timerfd.specs.DueTree.{node}
use Rattle.timerfd.specs.Dues.{is_due}
use Rattle.timerfd.proofs.due_tree.DueTree.due_by.Given as goal

-- the node is due
abbrev pub invariant-loop-node : goal.invariant-loop-node
invariant-loop-node l = record {
  above : 0 < l.node;
  within : l.node < length l.self-inside.nodes.items;
  due : is_due l.now (node l.self-inside.nodes.items l.node) ≡ true;
}

abbrev pub decreases-loop-node : goal.decreases-loop-node
decreases-loop-node l = l.self-inside.leaves - l.node
