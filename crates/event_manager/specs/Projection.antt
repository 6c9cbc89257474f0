-- The projection of a history to one id: all that belongs to other ids is taken out.
use Rattle.std.specs.Prelude.{◌≡◌, ◌≢◌, ℕ, ◌+◌, nat_lt, ◌==◌, Bool, false, List, [], ◌∷◌, filter, All, Option, Some, None, IfSome, is_ok, IsTrue, ◌⊎◌, if◌then◌else◌, is_some, ◌&&◌}
use Rattle.std.specs.List.{list_any, flat_map}
use Rattle.std.specs.FinMap as finite
use Rattle.std.specs.Ordering.{nat_cmp}
use Rattle.event_loop.specs.Prelude.{Event, OwnerMap, owner_of, Registrations, Owns, Exchanges, event_of, priority_asked, Begins, Serves, Registry, Joined, Requested, is_id, id_of, Delivery, Nobody, To, exchanges_of}
use Rattle.event_loop.specs.declared.events.Request.{Request}
use Rattle.event_manager.specs.History.{Turn, Made, Waited, IsHistory}

-- only the descriptors of id i
abbrev pub owned_by : ℕ → OwnerMap → OwnerMap
owned_by i owners = finite.retain_keys owners (λ fd. is_id i (owner_of owners fd))

-- only the value of id i
abbrev pub only_values : {V : Type 0} → ℕ → finite.FinMap nat_cmp V → finite.FinMap nat_cmp V
only_values i values = finite.retain_keys values (λ j. j == i)

abbrev pub projected_registrations : ℕ → List Event → Registrations → Registrations
projected_registrations i pending registrations = record registrations { owners = owned_by i registrations.owners; pending = pending }

-- the next id where nobody joins but i: i itself, until i is given
abbrev pub next_for : ℕ → ℕ → ℕ
next_for i next = if nat_lt i next then i + 1 else i

-- the registry without the values and descriptors of other ids; nothing is pending
abbrev pub projected_registry : {V : Type 0} → ℕ → Registry V → Registry V
projected_registry i registry = record { values = only_values i registry.values; next = next_for i registry.next; registrations = projected_registrations i [] registry.registrations }

-- the id that got the event, if one did
abbrev pub receiver_of : {V : Type 0} → Delivery V → Option ℕ
receiver_of Nobody = None
receiver_of (To id exchanges calls after) = Some id

-- what i sees of a turn: a step that names it, or the join that gave it; of a wait what it gave, and the positions that i got
abbrev pub seen : {V : Type 0} → ℕ → Turn V → List (Turn V)
seen i (Made step) = if is_id i (id_of step) then Made step ∷ [] else []
seen i (Waited ms waited positions) = Waited ms waited (filter (λ position. is_id i (receiver_of position.delivery)) positions) ∷ []

-- nobody but i has part in the turn
abbrev pub IsOnly : {V : Type 0} → ℕ → Turn V → Type 0
IsOnly i (Made step) = id_of step ≡ Some i
IsOnly i (Waited ms waited positions) = All (λ position. IfSome (receiver_of position.delivery) (λ j. j ≡ i)) positions

-- A projection of a history to i: i sees the same in it, and nobody else has part in it. Its positions come in the order that i's own registrations give.
abbrev pub IsProjection : {V : Type 0} → ℕ → List (Turn V) → List (Turn V) → Type 0
IsProjection i history projected = (flat_map (seen i) projected ≡ flat_map (seen i) history) × All (IsOnly i) projected

-- the exchanges of id i in a turn, and in a history, in order
abbrev pub turn_exchanges : {V : Type 0} → ℕ → Turn V → Exchanges
turn_exchanges i (Made (Joined value id exchanges calls held)) = if id == i then exchanges else []
turn_exchanges i (Made (Requested id exchanges calls)) = if id == i then exchanges else []
turn_exchanges i (Made step) = []
turn_exchanges i (Waited ms waited positions) = flat_map (λ position. if is_id i (receiver_of position.delivery) then exchanges_of position.delivery else []) positions

abbrev pub exchanges_in : {V : Type 0} → ℕ → List (Turn V) → Exchanges
exchanges_in i history = flat_map (turn_exchanges i) history

-- whether an Add of the descriptor is asked; whether one is agreed
abbrev pub is_add : ℕ → Request → Bool
is_add fd request = is_some (priority_asked request) && ((event_of request).fd == fd)

abbrev pub asks_to_add : ℕ → Exchanges → Bool
asks_to_add fd exchanges = list_any (λ exchange. is_add fd exchange.0) exchanges

abbrev pub has_addition : ℕ → Exchanges → Bool
has_addition fd exchanges = list_any (λ exchange. if is_ok exchange.1 then is_add fd exchange.0 else false) exchanges

-- No other id owns at the start, or has in the history an agreed Add of, a descriptor
-- that i asks to add in the history or owns at the start.
abbrev pub IsApart : {V : Type 0} → ℕ → Registry V → List (Turn V) → Type 0
IsApart i before history =
    (fd : ℕ) (j : ℕ) → j ≢ i → Owns i before.registrations fd ⊎ IsTrue (asks_to_add fd (exchanges_in i history))
    → ¬ Owns j before.registrations fd × (has_addition fd (exchanges_in j history) ≡ false)

-- id i is as if the others were not there: a projection of the history to it is itself a history
abbrev pub IsAsIfAlone : {V : Type 0} → Begins V → Serves V → ℕ → Registry V → List (Turn V) → Registry V → Type 0
IsAsIfAlone {V} begins serves i before history after =
    (projected : List (Turn V)) × IsProjection i history projected × IsHistory begins serves (projected_registry i before) projected (projected_registry i after)

-- Non-interference: each i that is apart is as if the others were not there.
abbrev pub NonInterference : {V : Type 0} → Begins V → Serves V → Registry V → List (Turn V) → Registry V → Type 0
NonInterference begins serves before history after = (i : ℕ) → IsApart i before history → IsAsIfAlone begins serves i before history after
