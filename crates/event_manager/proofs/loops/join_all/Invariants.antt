use Rattle.std.proofs.Common.{map}
use Rattle.std.specs.List.{AllZip}
use Rattle.event_manager.proofs.loops.join_all.Given as goal

abbrev pub invariant-loop-thread : goal.invariant-loop-thread
invariant-loop-thread g l = AllZip g.L.ThreadLoop.gives (map (λ thread. thread.promise.of.value) l.yielded) l.outputs.items
