use Rattle.std.proofs.Common.{◌≡◌, take}
use Rattle.event_loop.proofs.subscribers.ids_of.Given as goal

abbrev pub invariant-loop-number : goal.invariant-loop-number
invariant-loop-number g l = l.ids.items ≡ take l.number-index l.number-items
