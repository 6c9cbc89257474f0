-- What a subscriber with three counters does, a row a line.
use Rattle.std.specs.Prelude.{◌≡◌, ℕ, ◌+◌, ◌==◌, Bool, false, List, [], ◌∷◌, ◌++◌, map, if◌then◌else◌}
use Rattle.dispatch_tables.specs.Event.{Event}
use Rattle.event_loop.specs.Exchange.{Answer, Exchanges, requests_of, answers_of, first_refusal}
use Rattle.event_loop.specs.CounterEvents.{kind_of, count_of, one_more, event_on, with_error, with_spurious, with_first_fault, with_hang_up}
use Rattle.event_loop.specs.declared.events.Request.{Request}
use Rattle.event_loop.specs.declared.events.Request.TheVariants.{Add, Remove}
use Rattle.event_loop.specs.declared.utilities.subscribers.event_kind.EventKind.{EventKind}
use Rattle.event_loop.specs.declared.utilities.subscribers.event_kind.EventKind.TheVariants.{Input, Error, HangUp, Other}
use Rattle.event_loop.specs.declared.utilities.subscribers.observations.Observations.{Observations}
use Rattle.event_loop.specs.declared.utilities.subscribers.with_data.CounterSubscriberWithData.{CounterSubscriberWithData}
use Rattle.vmm_sys.specs.declared.eventfd.EventFd.{EventFd}

abbrev pub observed_with_data : CounterSubscriberWithData → Observations
observed_with_data subscriber = subscriber.observations

abbrev pub event_fds_of : CounterSubscriberWithData → List EventFd
event_fds_of v = v.first.event_fd ∷ v.second.event_fd ∷ v.third.event_fd ∷ []

abbrev pub first_data_of : CounterSubscriberWithData → ℕ
first_data_of v = v.first_data

abbrev pub is_toggled : CounterSubscriberWithData → Bool
is_toggled v = v.toggle_registry

abbrev pub counts_of : CounterSubscriberWithData → List ℕ
counts_of v = count_of v.first ∷ count_of v.second ∷ count_of v.third ∷ []

abbrev pub with_toggle : Bool → CounterSubscriberWithData → CounterSubscriberWithData
with_toggle toggle v = record v { toggle_registry = toggle }

-- what each counter wants, with its data
abbrev pub events_wanted : CounterSubscriberWithData → List Event
events_wanted v = event_on v.first v.first_data ∷ event_on v.second (v.first_data + 1) ∷ event_on v.third (v.first_data + 2) ∷ []

-- with the toggle set, all three are removed and added again
abbrev pub renewal : CounterSubscriberWithData → List Request
renewal v = if v.toggle_registry then map Remove (events_wanted v) ++ map Add (events_wanted v) else []

abbrev pub with_renewal : Exchanges → CounterSubscriberWithData → CounterSubscriberWithData
with_renewal exchanges v = record v { toggle_registry = false; observations = with_first_fault (first_refusal (answers_of exchanges)) v.observations }

-- one event more of the counter that has this data
abbrev pub with_event_counted : ℕ → CounterSubscriberWithData → CounterSubscriberWithData
with_event_counted payload v =
    if payload == v.first_data then record v { first = one_more v.first }
    else (if payload == v.first_data + 1 then record v { second = one_more v.second }
    else (if payload == v.first_data + 2 then record v { third = one_more v.third }
    else record v { observations = with_spurious v.observations }))

abbrev pub data_begins : CounterSubscriberWithData → Exchanges → CounterSubscriberWithData → Type 0
data_begins v exchanges w = (requests_of exchanges ≡ map Add (events_wanted v)) × (w ≡ record v { observations = with_first_fault (first_refusal (answers_of exchanges)) v.observations })

abbrev pub data_row : EventKind → CounterSubscriberWithData → Event → Exchanges → CounterSubscriberWithData → Type 0
data_row Input v event exchanges w = (exchanges ≡ []) × (w ≡ with_event_counted event.payload v)
data_row Error v event exchanges w = (exchanges ≡ []) × (w ≡ record v { observations = with_error v.observations })
data_row HangUp v event exchanges w = (answer : Answer) × (exchanges ≡ (Remove event, answer) ∷ []) × (w ≡ record v { observations = with_hang_up answer v.observations })
data_row Other v event exchanges w = (exchanges ≡ []) × (w ≡ v)

-- first the renewal, where the toggle is set; then the event's row
abbrev pub data_serves : CounterSubscriberWithData → Event → Exchanges → CounterSubscriberWithData → Type 0
data_serves v event exchanges w =
    (renewing : Exchanges) × (serving : Exchanges) × (exchanges ≡ renewing ++ serving)
    × (requests_of renewing ≡ renewal v) × data_row (kind_of event.set) (with_renewal renewing v) event serving w
