use Rattle.std.proofs.Common.{◌≡◌, ◌++◌, map}
use Rattle.event_manager.proofs.loops.start_all.Given as goal

abbrev pub invariant-loop-it : goal.invariant-loop-it
invariant-loop-it g l = map (λ thread. thread.promise.of.value) l.threads.items ++ l.it-iterator.rest.items ≡ l.fn.loops.items
