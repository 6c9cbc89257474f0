-- The descriptors that were removed since the last wait: an ascending list.
use Rattle.std.specs.Prelude.{◌≡◌, ℕ, ◌<◌, ◌≤◌, ◌==◌, ◌||◌, Bool, true, false, List, AllPairs, length, slice_index_or}
use Rattle.std.specs.List.{list_any}

-- each entry is below those after it
abbrev pub IsAscending : List ℕ → Type 0
IsAscending list = AllPairs (λ a b. a < b) list

-- whether the descriptor stands in the list
abbrev pub is_among : ℕ → List ℕ → Bool
is_among fd list = list_any (λ entry. entry == fd) list

-- the descriptor stands at the place, or else nowhere, and then the entries before the place are below it and the others above it
abbrev pub IsPlaceOf : List ℕ → ℕ → Bool → ℕ → Type 0
IsPlaceOf list fd true at = (at < length list) × (slice_index_or list at fd ≡ fd)
IsPlaceOf list fd false at =
    (at ≤ length list) × ((k : ℕ) → k < at → slice_index_or list k fd < fd) × ((k : ℕ) → at ≤ k → k < length list → fd < slice_index_or list k fd)

-- the list has the descriptor and what it had
abbrev pub HasEntered : List ℕ → ℕ → List ℕ → Type 0
HasEntered before fd after = (q : ℕ) → is_among q after ≡ is_among q before || fd == q
