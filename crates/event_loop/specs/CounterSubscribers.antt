-- What the counting subscribers do, a row a line.
use Rattle.std.specs.Prelude.{◌≡◌, [], ◌∷◌}
use Rattle.dispatch_tables.specs.Event.{Event}
use Rattle.event_loop.specs.Exchange.{Answer, Exchanges}
use Rattle.event_loop.specs.CounterEvents.{kind_of, new_counter, one_more, event_on, nothing_observed, with_error, with_spurious, with_fault, with_hang_up}
use Rattle.event_loop.specs.declared.events.Request.TheVariants.{Add, Remove}
use Rattle.event_loop.specs.declared.utilities.subscribers.counter.Counter.{Counter}
use Rattle.event_loop.specs.declared.utilities.subscribers.counter_subscriber.CounterSubscriber.{CounterSubscriber}
use Rattle.event_loop.specs.declared.utilities.subscribers.event_kind.EventKind.{EventKind}
use Rattle.event_loop.specs.declared.utilities.subscribers.event_kind.EventKind.TheVariants.{Input, Error, HangUp, Other}
use Rattle.event_loop.specs.declared.utilities.subscribers.observations.Observations.{Observations}
use Rattle.vmm_sys.specs.declared.eventfd.EventFd.{EventFd}

-- a subscriber with one counter
abbrev pub made_counter : EventFd → CounterSubscriber
made_counter event_fd = record { counter = new_counter event_fd; observations = nothing_observed }

abbrev pub counter_in : CounterSubscriber → Counter
counter_in subscriber = subscriber.counter

abbrev pub with_counter : CounterSubscriber → Counter → CounterSubscriber
with_counter subscriber counter = record subscriber { counter = counter }

abbrev pub observed_by_counter : CounterSubscriber → Observations
observed_by_counter subscriber = subscriber.observations

abbrev pub counter_begins : CounterSubscriber → Exchanges → CounterSubscriber → Type 0
counter_begins v exchanges w = (answer : Answer) × (exchanges ≡ (Add (event_on v.counter 0), answer) ∷ []) × (w ≡ record v { observations = with_fault answer v.observations })

abbrev pub counter_row : EventKind → CounterSubscriber → Event → Exchanges → CounterSubscriber → Type 0
counter_row Input v event exchanges w = (exchanges ≡ []) × (w ≡ record v { counter = one_more v.counter })
counter_row Error v event exchanges w = (exchanges ≡ []) × (w ≡ record v { observations = with_error v.observations })
counter_row HangUp v event exchanges w = (answer : Answer) × (exchanges ≡ (Remove event, answer) ∷ []) × (w ≡ record v { observations = with_hang_up answer v.observations })
counter_row Other v event exchanges w = (exchanges ≡ []) × (w ≡ record v { observations = with_spurious v.observations })

abbrev pub counter_serves : CounterSubscriber → Event → Exchanges → CounterSubscriber → Type 0
counter_serves v event exchanges w = counter_row (kind_of event.set) v event exchanges w
