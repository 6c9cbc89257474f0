-- Which refusals the calls of an endpoint may answer, and what is left of a manager that was closed.
use Rattle.std.specs.Prelude.{◌≡◌, ◌⊎◌, ℕ, Result, Err}
use Rattle.std.specs.Arc.{arc_value}
use Rattle.vmm_sys.specs.declared.errno.Errno.{Errno}
use Rattle.event_loop.specs.declared.error.Error.{Error}
use Rattle.event_loop.specs.declared.error.Error.TheVariants.{ChannelSend, ChannelRecv, EventFd, OutOfMemory, TicketsUsedUp}
use Rattle.event_manager.specs.declared.endpoint.RemoteEndpoint.{RemoteEndpoint}

-- the counter that an endpoint rings
abbrev pub counter_of_endpoint : {S J N R : Type 0} → RemoteEndpoint S J N R → N
counter_of_endpoint endpoint = (arc_value endpoint.channel).counter

module _ (rings : Result (Unit {0}) Errno → Type 0) where
  -- of a ring: what the counter may refuse it with
  abbrev pub IsRingRefusal : Error → Type 0
  IsRingRefusal e = (errno : Errno) × (e ≡ EventFd errno) × rings (Err errno)

  -- of a send: closed, no ticket left, no memory, or the ring's
  abbrev pub IsSendRefusal : Error → Type 0
  IsSendRefusal e = (e ≡ ChannelSend) ⊎ (e ≡ TicketsUsedUp) ⊎ (e ≡ OutOfMemory) ⊎ IsRingRefusal e

  -- of a call: those of a send, or closed before the job ran
  abbrev pub IsCallRefusal : Error → Type 0
  IsCallRefusal e = (e ≡ ChannelRecv) ⊎ IsSendRefusal e

-- how many tickets were issued, and how many jobs were taken and run
pub record ClosedState : Type 0 where
  pub issued : ℕ
  pub taken : ℕ
