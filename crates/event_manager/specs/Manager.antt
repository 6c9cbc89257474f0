-- A manager, seen by the definitions, and how one is made.
use Rattle.std.specs.Prelude.{◌≡◌, ℕ, ◌<◌, ◌≤◌, ℤ, unsigned_abs, Result, Ok, Err}
use Rattle.vmm_sys.specs.declared.entries.ControlOperation.TheVariants as operation
use Rattle.event_loop.specs.Prelude.{Event, Controls, LoopState, new_loop}
use Rattle.event_loop.specs.declared.error.Error.{Error}
use Rattle.event_loop.specs.Subscribers.{loop_state}
use Rattle.event_loop.specs.EventLoop.{max_capacity}
use Rattle.event_loop.specs.declared.error.Error.TheVariants.{ChannelSend, ChannelRecv, Epoll, FdAlreadyRegistered, InvalidId, InvalidCapacity, OutOfMemory, IdsUsedUp, TicketsUsedUp}
use Rattle.event_loop.specs.declared.error.Error.TheVariants as error
use Rattle.event_manager.specs.declared.manager.EventManager.{EventManager}

abbrev pub state_of : {S J N P R : Type 0} → EventManager S J N P R → LoopState S P
state_of m = record (loop_state m.registry) { taken = m.channel }

-- the number of the endpoint's descriptor, which is the counter's
abbrev pub endpoint_of : {N : Type 0} → (N → ℤ) → N → ℕ
endpoint_of descriptor counter = unsigned_abs (descriptor counter)

-- the event with which the endpoint's descriptor is added to the poller
abbrev pub endpoint_event : ℕ → Event
endpoint_event endpoint = record { fd = endpoint; payload = 0; set = 1 }

module _ {P : Type 0} (controls : Controls P) (poller : P) (endpoint capacity : ℕ) where
  -- when each refusal comes; no other is answered
  abbrev pub IsMakingRefused : Error → Type 0
  IsMakingRefused InvalidCapacity = max_capacity < capacity
  IsMakingRefused OutOfMemory = capacity ≤ max_capacity
  IsMakingRefused (Epoll errno) = (capacity ≤ max_capacity) × (after : P) × controls poller operation.Add endpoint (endpoint_event endpoint) (Err errno) after
  IsMakingRefused ChannelSend = ⊥
  IsMakingRefused ChannelRecv = ⊥
  IsMakingRefused (error.EventFd errno) = ⊥
  IsMakingRefused FdAlreadyRegistered = ⊥
  IsMakingRefused InvalidId = ⊥
  IsMakingRefused IdsUsedUp = ⊥
  IsMakingRefused TicketsUsedUp = ⊥

  -- a new manager, whose poller agreed to add the endpoint's descriptor; or a refusal
  abbrev pub IsMade : {S M : Type 0} → (M → LoopState S P) → Result M Error → Type 0
  IsMade state (Ok manager) =
      (capacity ≤ max_capacity) × (after : P) × controls poller operation.Add endpoint (endpoint_event endpoint) (Ok tt) after × (state manager ≡ new_loop endpoint after capacity)
  IsMade state (Err error) = IsMakingRefused error
