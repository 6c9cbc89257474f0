-- What happens to one id in a history, whatever else the registry holds: its life, by the subscriber's own relations alone.
use Rattle.std.specs.Prelude.{◌≡◌, ℕ, ◌==◌, List, [], ◌∷◌, Option, Some, None, if◌then◌else◌}
use Rattle.std.specs.List.{flat_map}
use Rattle.event_loop.specs.Prelude.{Event, Exchanges, Begins, Serves, LoopStep, Joined, Left, Replaced, Delivery, Nobody, To}
use Rattle.event_manager.specs.History.{Turn, Made, Waited}

-- it joins, with the requests of its init; an event is delivered to it; it is given another value; it leaves
pub data LifeStep (V : Type 0) : Type 0 where
  Begun : (value : V) (exchanges : Exchanges) (after : V) → LifeStep V
  Served : (event : Event) (exchanges : Exchanges) (after : V) → LifeStep V
  Changed : (old new : V) → LifeStep V
  Ended : (value : V) → LifeStep V

module _ {V : Type 0} (begins : Begins V) (serves : Serves V) where
  -- the life leads from the value that is held, if one is, to the value that is held after
  abbrev pub Lives : Option V → List (LifeStep V) → Option V → Type 0
  Lives before [] after = after ≡ before
  Lives before (Begun value exchanges held ∷ life) after = begins value exchanges held × Lives (Some held) life after
  Lives before (Served event exchanges held ∷ life) after = (value : V) × (before ≡ Some value) × serves value event exchanges held × Lives (Some held) life after
  Lives before (Changed old new ∷ life) after = (before ≡ Some old) × Lives (Some new) life after
  Lives before (Ended value ∷ life) after = (before ≡ Some value) × Lives None life after

-- what of a step, of a delivery, of a turn, of a history happens to id i
abbrev pub life_of_step : {V : Type 0} → ℕ → LoopStep V → List (LifeStep V)
life_of_step i (Joined value id exchanges calls held) = if id == i then Begun value exchanges held ∷ [] else []
life_of_step i (Left id value calls) = if id == i then Ended value ∷ [] else []
life_of_step i (Replaced id old new) = if id == i then Changed old new ∷ [] else []
life_of_step i step = []

abbrev pub life_of_delivery : {V : Type 0} → ℕ → Event → Delivery V → List (LifeStep V)
life_of_delivery i event Nobody = []
life_of_delivery i event (To id exchanges calls held) = if id == i then Served event exchanges held ∷ [] else []

abbrev pub life_of_turn : {V : Type 0} → ℕ → Turn V → List (LifeStep V)
life_of_turn i (Made step) = life_of_step i step
life_of_turn i (Waited ms waited positions) = flat_map (λ position. life_of_delivery i position.event position.delivery) positions

abbrev pub life_of : {V : Type 0} → ℕ → List (Turn V) → List (LifeStep V)
life_of i history = flat_map (life_of_turn i) history
