-- Who owns which descriptor and at which priority, and which events of the current batch are pending.
use Rattle.std.specs.Prelude.{◌≡◌, ℕ, ◌==◌, Bool, false, List, Option, Some, None}
use Rattle.std.specs.FinMap as map
use Rattle.dispatch_tables.specs.Event.{Event}
use Rattle.dispatch_tables.specs.Ownership.{OwnerMap, owner_of}

-- Which id owns each descriptor, and at which priority; the endpoint's descriptor;
-- the events of the current batch that are still to come and aren't cancelled (none outside a loop iteration).
pub record Registrations : Type 0 where
  pub owners : OwnerMap
  pub endpoint : ℕ
  pub pending : List Event

-- id i owns the descriptor
abbrev pub Owns : ℕ → Registrations → ℕ → Type 0
Owns i registrations fd = owner_of registrations.owners fd ≡ Some i

-- nobody owns the descriptor
abbrev pub IsFree : Registrations → ℕ → Type 0
IsFree registrations fd = map.get registrations.owners fd ≡ None

-- is the owner id i?
abbrev pub is_id : ℕ → Option ℕ → Bool
is_id i None = false
is_id i (Some j) = j == i
