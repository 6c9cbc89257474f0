-- A registry of the program, seen by the definitions, and one position of its ready list.
use Rattle.std.specs.Prelude.{◌≡◌, ℕ, ℤ, ◌==◌, List, Bool, false, [], ◌∷◌, ◌⊎◌, Result, Ok, Err}
use Rattle.dispatch_tables.specs.Event.{Event}
use Rattle.event_loop.specs.PollerCall.{Wait, Controls, Waits, Leads}
use Rattle.event_loop.specs.Exchange.{Serves}
use Rattle.event_loop.specs.Registry as model
use Rattle.event_loop.specs.RegistrationState.{registrations_of, not_cancelled, cancel_removed}
use Rattle.event_loop.specs.Dispatch.{Delivery, Position, exchanges_of, events_of, with_pending, IsDelivery, AreDispatched}
use Rattle.vmm_sys.specs.declared.errno.Errno.{Errno}
use Rattle.event_loop.specs.Iteration.{calls_of_delivery, calls_of_positions, run_answer, is_reported}
use Rattle.event_loop.specs.LoopState.{LoopState, IsDispatchedAfter, new_loop}
use Rattle.event_loop.specs.declared.error.Error.{Error}
use Rattle.event_loop.specs.declared.error.Error.TheVariants.{OutOfMemory, Epoll}
use Rattle.vmm_sys.specs.declared.entries.ControlOperation.TheVariants as operation
use Rattle.event_loop.specs.declared.registry.Batch.{Batch}
use Rattle.event_loop.specs.declared.registry.Registry.{Registry}

module _ {S P : Type 0} where
  -- in the middle of a batch: the pending events are the entries of the ready list that aren't cancelled
  abbrev pub registry_of : Registry S P → model.Registry S
  registry_of r = record { values = r.subscribers.by_id; next = r.subscribers.next; registrations = registrations_of r.ops.epoll.registrations }

  -- between two batches nothing is pending: the next wait writes over the ready list; a registry alone takes no jobs
  abbrev pub loop_state : Registry S P → LoopState S P
  loop_state r = record { registry = with_pending [] (registry_of r); taken = 0; poller = r.ops.epoll.poller; capacity = r.ops.epoll.registrations.capacity }

  module _ (serves : Serves S) where
    -- one position was taken; `is_endpoint` says whether its event was on the endpoint's descriptor
    pub record TakesPosition (controls : Controls P) (waits : Waits P) (before : Registry S P) (is_endpoint : Bool) (after : Registry S P) : Type 0 where
      pub event : Event
      pub cancelled : Bool
      pub later : List (Event × Bool)
      pub delivery : Delivery S
      pub was : before.ops.epoll.registrations.ready ≡ (event, cancelled) ∷ later
      pub had : IsDelivery serves (with_pending (not_cancelled later) (registry_of before)) cancelled event delivery (registry_of after)
      pub ready : after.ops.epoll.registrations.ready ≡ cancel_removed (exchanges_of delivery) later
      pub led : Leads controls waits before.ops.epoll.poller (calls_of_delivery delivery) after.ops.epoll.poller
      pub same_capacity : after.ops.epoll.registrations.capacity ≡ before.ops.epoll.registrations.capacity
      pub same_endpoint : after.ops.epoll.registrations.endpoint ≡ before.ops.epoll.registrations.endpoint
      pub noticed : is_endpoint ≡ (event.fd == before.ops.epoll.registrations.endpoint)

    -- the events of a batch were dispatched in this order; `endpoint_ready` says whether one of them was on the endpoint's descriptor
    pub record IsDispatched (controls : Controls P) (waits : Waits P) (before after : Registry S P) (ordered : List Event) (endpoint_ready : Bool) : Type 0 where
      pub positions : List (Position S)
      pub events : events_of positions ≡ ordered
      pub dispatched : AreDispatched serves (registry_of before) [] positions (registry_of after)
      pub led : Leads controls waits before.ops.epoll.poller (calls_of_positions positions) after.ops.epoll.poller
      pub same_capacity : after.ops.epoll.registrations.capacity ≡ before.ops.epoll.registrations.capacity
      pub over : after.ops.epoll.registrations.ready ≡ []
      pub noticed : endpoint_ready ≡ is_reported before.ops.epoll.registrations.endpoint ordered

-- the count of a batch, or the refusal
abbrev pub batch_count : Result Batch Error → Result ℕ Error
batch_count (Ok batch) = Ok batch.count
batch_count (Err error) = Err error

-- an event was on the endpoint's descriptor exactly if one of the report was
abbrev pub Notices : ℕ → Result (List Event) Errno → Result Batch Error → Type 0
Notices endpoint (Ok report) (Ok batch) = batch.endpoint_ready ≡ is_reported endpoint report
Notices endpoint (Err errno) (Ok batch) = batch.endpoint_ready ≡ false
Notices endpoint waited (Err error) = Unit {0}

-- one wait with the capacity, and the dispatch of what that wait reported
pub record IsBatch {S P : Type 0} (serves : Serves S) (controls : Controls P) (waits : Waits P)
    (before : LoopState S P) (ms : ℤ) (result : Result Batch Error) (after : LoopState S P) : Type 0 where
  pub waited : Result (List Event) Errno
  pub positions : List (Position S)
  pub answer : batch_count result ≡ run_answer waited
  pub noticed : Notices before.registry.registrations.endpoint waited result
  pub dispatched : IsDispatchedAfter serves waited positions before.registry after.registry
  pub led : Leads controls waits before.poller (Wait ms before.capacity waited ∷ calls_of_positions positions) after.poller
  pub same_capacity : after.capacity ≡ before.capacity

module _ {S P : Type 0} (controls : Controls P) (poller : P) (endpoint : Event) (capacity : ℕ) where
  -- a new registry, whose poller agreed to add the endpoint's descriptor; or no memory; or what the poller answered
  abbrev pub IsNew : Result (Registry S P) Error → Type 0
  IsNew (Ok registry) = (after : P) × controls poller operation.Add endpoint.fd endpoint (Ok tt) after × (loop_state registry ≡ new_loop endpoint.fd after capacity)
  IsNew (Err error) = (error ≡ OutOfMemory) ⊎ ((errno : Errno) × (after : P) × (error ≡ Epoll errno) × controls poller operation.Add endpoint.fd endpoint (Err errno) after)
