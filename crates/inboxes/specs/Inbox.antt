-- What is seen of an inbox.
use Rattle.std.specs.Prelude.{Bool, List, Result}
use Rattle.event_loop.specs.declared.error.Error.{Error}
use Rattle.event_loop.specs.declared.events.Events.{Events}

-- the event that it asks for; what its receiver has returned, and what of that is still to be taken from it, both in order; whether
-- nothing more will come; and what its first request, or its last take, answered
pub record Gathered (M : Type 0) : Type 0 where
  pub ready : Events
  pub received : List M
  pub arrived : List M
  pub is_over : Bool
  pub went : Result (Unit {0}) Error
