-- What an actor asks for.
use Rattle.std.specs.Prelude.{◌≡◌, Bool, not, Option, Some, None, if◌then◌else◌}
use Rattle.event_loop.specs.CounterEvents.{event_on, new_counter}
use Rattle.event_loop.specs.declared.boxed_subscriber.StepInput.{StepInput}
use Rattle.event_loop.specs.declared.boxed_subscriber.StepInput.TheVariants.{Init, Event, Answer}
use Rattle.event_loop.specs.declared.events.Events.{Events}
use Rattle.event_loop.specs.declared.events.Request.{Request}
use Rattle.event_loop.specs.declared.events.Request.TheVariants.{Add, Remove}
use Rattle.vmm_sys.specs.declared.eventfd.EventFd.{EventFd}

-- when it is added, the addition of its counter for IN with data 0; then nothing
abbrev pub wanted_on : EventFd → StepInput → Option Request
wanted_on counter Init = Some (Add (event_on (new_counter counter) 0))
wanted_on counter (Event e) = None
wanted_on counter (Answer answer) = None

-- it waits for room exactly while it keeps a name
abbrev pub is_settled : Bool → Bool → Bool
is_settled waits keeps = if waits then keeps else not keeps

module _ (names_ready room_ready : Events) where
  -- the event that it waits for
  abbrev pub awaited : Bool → Events
  awaited waits = if waits then room_ready else names_ready

  -- when it is added, the addition of the names' event; then, where it isn't settled, the removal of what it waited for, and upon the
  -- answer the addition of the other
  abbrev pub IsWanted : StepInput → Bool → Bool → Option Request → Bool → Type 0
  IsWanted Init waited keeps wanted waits = (waits ≡ waited) × (wanted ≡ Some (Add names_ready))
  IsWanted (Event e) waited keeps wanted waits = (waits ≡ waited) × (wanted ≡ if is_settled waited keeps then None else Some (Remove (awaited waited)))
  IsWanted (Answer answer) waited keeps wanted waits = (waits ≡ keeps) × (wanted ≡ if is_settled waited keeps then None else Some (Add (awaited keeps)))
