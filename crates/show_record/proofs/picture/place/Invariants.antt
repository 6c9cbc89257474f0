use Rattle.std.proofs.Common.{◌≡◌, ◌++◌, map}
use Rattle.show_record.proofs.picture.place.Given as goal

abbrev pub invariant-loop-step : goal.invariant-loop-step
invariant-loop-step l = map (λ it. it.step) l.placed.items ++ l.step-iterator.rest.items ≡ l.fn.steps.items
