-- Who gets which event of a batch.
use Rattle.std.specs.Prelude.{◌≡◌, ℕ, Bool, false, not, List, [], ◌∷◌, ◌++◌, map, filter}
use Rattle.std.specs.List.{list_any}
use Rattle.std.specs.FinMap as finite
use Rattle.dispatch_tables.specs.Event.{Event}
use Rattle.event_loop.specs.Registrations.{Registrations, Owns}
use Rattle.event_loop.specs.DispatchOrder.{IsDispatchOrder}
use Rattle.event_loop.specs.PollerCall.{PollerCall}
use Rattle.event_loop.specs.Exchange.{Exchanges, ExchangesFit, has_removal, Serves}
use Rattle.event_loop.specs.Registry.{Registry, HasId}

-- what became of an event: nobody got it; or this id did, with its exchanges, their poller calls, and its value after
pub data Delivery (V : Type 0) : Type 0 where
  Nobody : Delivery V
  To : (id : ℕ) (exchanges : Exchanges) (calls : List PollerCall) (after : V) → Delivery V

-- a position of the batch, in the order of dispatch: the event as it was reported, and its delivery
pub record Position (V : Type 0) : Type 0 where
  pub event : Event
  pub delivery : Delivery V

abbrev pub exchanges_of : {V : Type 0} → Delivery V → Exchanges
exchanges_of Nobody = []
exchanges_of (To id exchanges calls after) = exchanges

-- whether the exchanges of one of these positions hold an agreed Remove of the descriptor
abbrev pub is_removed : {V : Type 0} → ℕ → List (Position V) → Bool
is_removed fd positions = list_any (λ position. has_removal fd (exchanges_of position.delivery)) positions

-- the later events whose descriptor no exchange of the earlier positions removed
abbrev pub still_pending : {V : Type 0} → List (Position V) → List Event → List Event
still_pending earlier later = filter (λ e. not (is_removed e.fd earlier)) later

abbrev pub events_of : {V : Type 0} → List (Position V) → List Event
events_of positions = map (λ position. position.event) positions

-- the registry in which these events are pending
abbrev pub with_pending : {V : Type 0} → List Event → Registry V → Registry V
with_pending events registry = record registry { registrations = record registry.registrations { pending = events } }

-- the event, whose descriptor was removed or not since the wait, is for id i, which holds this value: i owns its descriptor now
abbrev pub IsFor : {V : Type 0} → Registry V → Bool → Event → ℕ → V → Type 0
IsFor registry removed event i value = Owns i registry.registrations event.fd × (removed ≡ false) × HasId registry i value

module _ {V : Type 0} (serves : Serves V) where
  -- what became of an event whose descriptor was removed or not since the wait
  abbrev pub IsDelivery : Registry V → Bool → Event → Delivery V → Registry V → Type 0
  IsDelivery before removed event Nobody after = ((i : ℕ) (value : V) → ¬ IsFor before removed event i value) × (after ≡ before)
  IsDelivery before removed event (To i exchanges calls held) after =
      (value : V) × (registrations : Registrations) × IsFor before removed event i value × serves value event exchanges held
      × ExchangesFit i before.registrations exchanges calls registrations
      × (after ≡ record before { values = finite.insert before.values i held; registrations = registrations })

  -- the positions, in the order in which they are dispatched, each after the earlier ones; at the end nothing is pending
  abbrev pub AreDispatched : Registry V → List (Position V) → List (Position V) → Registry V → Type 0
  AreDispatched before earlier [] after = after ≡ with_pending [] before
  AreDispatched before earlier (position ∷ later) after =
      (mid : Registry V) × IsDelivery (with_pending (still_pending earlier (events_of later)) before) (is_removed position.event.fd earlier) position.event position.delivery mid
      × AreDispatched mid (earlier ++ position ∷ []) later after

  -- a dispatch of the report: a delivery for each of its events, which come by the classes that they have before it
  abbrev pub IsDispatch : Registry V → List Event → List (Position V) → Registry V → Type 0
  IsDispatch before report positions after = IsDispatchOrder before.registrations report (events_of positions) × AreDispatched before [] positions after
