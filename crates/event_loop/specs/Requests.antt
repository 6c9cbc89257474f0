-- What was asked for through an `EventOps`.
use Rattle.std.specs.Prelude.{◌≡◌, ℕ, List, []}
use Rattle.event_loop.specs.PollerCall.{PollerCall, Controls, Waits, Leads}
use Rattle.event_loop.specs.Exchange.{Exchanges, ExchangesFit}
use Rattle.event_loop.specs.RegistrationState.{registrations_of, cancel_removed}
use Rattle.event_loop.specs.LoopState.{LoopState}
use Rattle.event_loop.specs.declared.epoll.EpollWrapper.{EpollWrapper}
use Rattle.event_loop.specs.declared.ops.EventOps.{EventOps}

module _ {P : Type 0} (controls : Controls P) (waits : Waits P) where
  -- the exchanges of id i take the registrations and the poller from the state before to the state after
  pub record AreMade (before after : EpollWrapper P) (i : ℕ) (exchanges : Exchanges) (calls : List PollerCall) : Type 0 where
    pub fits : ExchangesFit i (registrations_of before.registrations) exchanges calls (registrations_of after.registrations)
    pub ready : after.registrations.ready ≡ cancel_removed exchanges before.registrations.ready
    pub led : Leads controls waits before.poller calls after.poller
    pub same_capacity : after.registrations.capacity ≡ before.registrations.capacity

  -- the exchanges were made through this `EventOps`, under its id
  pub record AreMadeThrough (before after : EventOps P) (exchanges : Exchanges) (calls : List PollerCall) : Type 0 where
    pub same_id : after.id ≡ before.id
    pub made : AreMade before.epoll after.epoll before.id exchanges calls

-- an `EventOps` of this id, outside a batch
pub record StandsFor {S P : Type 0} (ops : EventOps P) (id : ℕ) (state : LoopState S P) : Type 0 where
  pub same_id : ops.id ≡ id
  pub registrations : record (registrations_of ops.epoll.registrations) { pending = [] } ≡ state.registry.registrations
  pub poller : ops.epoll.poller ≡ state.poller
  pub capacity : ops.epoll.registrations.capacity ≡ state.capacity

-- with the registrations and the poller of this `EventOps`, outside a batch
abbrev pub with_ops : {S P : Type 0} → LoopState S P → EventOps P → LoopState S P
with_ops state ops = record {
  registry = record state.registry { registrations = record (registrations_of ops.epoll.registrations) { pending = [] } };
  taken = state.taken;
  poller = ops.epoll.poller;
  capacity = ops.epoll.registrations.capacity;
}
