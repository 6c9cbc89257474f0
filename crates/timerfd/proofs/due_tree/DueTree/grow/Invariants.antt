use Rattle.std.proofs.Common.{◌≡◌, ◌-◌, ◌++◌, take, drop, None}
use Rattle.std.specs.Prelude.{replicate}
use Rattle.timerfd.proofs.due_tree.DueTree.grow.Given as goal

-- the times up to the index, and behind them places that are never
abbrev pub invariant-loop-index : goal.invariant-loop-index
invariant-loop-index l = l.grown ≡ take l.index (drop l.self-inside.leaves l.self-inside.nodes.items) ++ replicate (l.leaves - l.index) None
