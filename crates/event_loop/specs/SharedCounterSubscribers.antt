-- What a subscriber that is shared while it counts asks for, a row a line. Of its numbers nothing is claimed.
use Rattle.std.specs.Prelude.{◌≡◌, [], ◌∷◌, unsigned_abs}
use Rattle.dispatch_tables.specs.Event.{Event}
use Rattle.event_loop.specs.Exchange.{Answer, Exchanges}
use Rattle.event_loop.specs.CounterEvents.{kind_of}
use Rattle.event_loop.specs.declared.events.Request.TheVariants.{Add, Remove}
use Rattle.event_loop.specs.declared.utilities.subscribers.event_kind.EventKind.{EventKind}
use Rattle.event_loop.specs.declared.utilities.subscribers.event_kind.EventKind.TheVariants.{Input, Error, HangUp, Other}
use Rattle.event_loop.specs.declared.utilities.subscribers.inner_mut.CounterInnerMutSubscriber.{CounterInnerMutSubscriber}
use Rattle.vmm_sys.specs.EventFd.{descriptor_of}
use Rattle.vmm_sys.specs.declared.eventfd.EventFd.{EventFd}

abbrev pub event_fd_of : CounterInnerMutSubscriber → EventFd
event_fd_of subscriber = subscriber.event_fd

abbrev pub shared_begins : CounterInnerMutSubscriber → Exchanges → Type 0
shared_begins v exchanges = (answer : Answer) × (exchanges ≡ (Add (record { fd = unsigned_abs (descriptor_of v.event_fd); payload = 0; set = 1 }), answer) ∷ [])

abbrev pub shared_row : EventKind → Event → Exchanges → Type 0
shared_row Input event exchanges = exchanges ≡ []
shared_row Error event exchanges = exchanges ≡ []
shared_row HangUp event exchanges = (answer : Answer) × (exchanges ≡ (Remove event, answer) ∷ [])
shared_row Other event exchanges = exchanges ≡ []

abbrev pub shared_serves : CounterInnerMutSubscriber → Event → Exchanges → Type 0
shared_serves v event exchanges = shared_row (kind_of event.set) event exchanges
