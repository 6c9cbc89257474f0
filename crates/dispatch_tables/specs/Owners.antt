-- The owners of the descriptors, as the code keeps them: those of the low descriptors in a vector, by descriptor, those of the others in a map.
use Rattle.std.specs.Prelude.{◌≡◌, ℕ, ◌+◌, ◌<◌, ◌≤◌, ◌==◌, nat_lt, if◌then◌else◌, List, [], ◌∷◌, ◌++◌, map, length, Option, Some, None, option_map, slice_index_or}
use Rattle.std.specs.FinMap as finite
use Rattle.std.specs.Map.{lookup}
use Rattle.dispatch_tables.specs.Ownership.{Ownership, OwnerMap, class_in}
use Rattle.dispatch_tables.specs.declared.owners.Owner.{Owner}
use Rattle.dispatch_tables.specs.declared.owners.OwnerSlot.{OwnerSlot}
use Rattle.dispatch_tables.specs.declared.owners.OwnerSlot.TheVariants.{Vacant, Owned}

-- an owner without where it is looked for
abbrev pub ownership_of : Owner → Ownership
ownership_of owner = record { id = owner.id; priority = owner.priority }

-- a slot of the vector as well
abbrev pub slot_ownership : OwnerSlot → Option Ownership
slot_ownership Vacant = None
slot_ownership (Owned priority place id index) = Some (record { id = id; priority = priority })

-- what the vector has at a descriptor; what the map has
abbrev pub ownership_at : List OwnerSlot → ℕ → Option Ownership
ownership_at low fd = slot_ownership (slice_index_or low fd Vacant)

abbrev pub owner_in : List (ℕ × Owner) → ℕ → Option Owner
owner_in high fd = lookup (λ q. fd == q) high

abbrev pub ownership_in : List (ℕ × Owner) → ℕ → Option Ownership
ownership_in high fd = option_map ownership_of (owner_in high fd)

-- the descriptors of a vector that begins at the descriptor k, each with its ownership; those of a map
abbrev pub low_entries : ℕ → List OwnerSlot → List (ℕ × Ownership)
low_entries k [] = []
low_entries k (Vacant ∷ low) = low_entries (k + 1) low
low_entries k (Owned priority place id index ∷ low) = (k, record { id = id; priority = priority }) ∷ low_entries (k + 1) low

abbrev pub high_entries : List (ℕ × Owner) → List (ℕ × Ownership)
high_entries high = map (λ entry. (entry.0, ownership_of entry.1)) high

abbrev pub owners_in : List OwnerSlot → List (ℕ × Owner) → OwnerMap
owners_in low high = finite.from_entries (low_entries 0 low ++ high_entries high)

-- whether this is the owner of the descriptor, if it has one
abbrev pub IsOwnerAt : OwnerMap → ℕ → Option Owner → Type 0
IsOwnerAt owners fd owner = option_map ownership_of owner ≡ finite.get owners fd

-- the owners whose priority is above the lowest
abbrev pub raised_in : OwnerMap → OwnerMap
raised_in owners = finite.retain_keys owners (λ fd. nat_lt 0 (class_in owners fd))

-- how many descriptors have an owner, and how many of these a priority above the lowest
abbrev pub AreCounted : OwnerMap → ℕ → ℕ → Type 0
AreCounted owners owned raised = (owned ≡ finite.len owners) × (raised ≡ finite.len (raised_in owners))

-- the vector has low descriptors alone, and the map none
pub record AreApart (low : List OwnerSlot) (high : List (ℕ × Owner)) : Type 0 where
  pub low_alone : length low ≤ 1048576
  pub none_low : (fd : ℕ) → fd < 1048576 → owner_in high fd ≡ None

-- another owner, or none, at one descriptor
abbrev pub HasOwnerAt : List OwnerSlot → ℕ → Option Ownership → List OwnerSlot → Type 0
HasOwnerAt before at owner after = (fd : ℕ) → ownership_at after fd ≡ if at == fd then owner else ownership_at before fd

-- each descriptor has the same owner, wherever it is looked for
abbrev pub HaveSameOwners : (ℕ → Option Ownership) → (ℕ → Option Ownership) → Type 0
HaveSameOwners before after = (fd : ℕ) → after fd ≡ before fd
