-- The places of the subscribers, as the code keeps them.
use Rattle.std.specs.Prelude.{◌≡◌, ◌↔◌, ℕ, zero, suc, ◌≤◌, Bool, true, false, List, [], ◌∷◌, map, Option, Some, None, count_by, slice_get, slice_index_or}
use Rattle.std.specs.Ordering.{nat_cmp}
use Rattle.std.specs.FinMap.{FinMap, from_entries}
use Rattle.dispatch_tables.specs.declared.places.Place.{Place}
use Rattle.dispatch_tables.specs.declared.places.Place.TheVariants.{Held, Vacant}

-- no id from the next one on has a place
abbrev pub ArePlacedBelow : ℕ → (ℕ → Option ℕ) → Type 0
ArePlacedBelow next index = (id : ℕ) → next ≤ id → index id ≡ None

module _ {S : Type 0} where
  -- the id that a place holds, and its subscriber
  abbrev pub held_id : Place S → Option ℕ
  held_id (Held id subscriber) = Some id
  held_id (Vacant next) = None

  abbrev pub subscriber_of : Place S → Option S
  subscriber_of (Held id subscriber) = Some subscriber
  subscriber_of (Vacant next) = None

  abbrev pub is_vacant : Place S → Bool
  is_vacant (Held id subscriber) = false
  is_vacant (Vacant next) = true

  -- with another subscriber of the same id
  abbrev pub with_subscriber : Place S → S → Place S
  with_subscriber (Held id old) subscriber = Held id subscriber
  with_subscriber (Vacant next) subscriber = Vacant next

  -- by the number of a place
  abbrev pub id_at : List (Place S) → ℕ → Option ℕ
  id_at places place = slice_index_or (map held_id places) place None

  abbrev pub subscriber_at : List (Place S) → ℕ → Option S
  subscriber_at places place = slice_index_or (map subscriber_of places) place None

  -- the subscribers by id
  abbrev pub held_entries : List (Place S) → List (ℕ × S)
  held_entries [] = []
  held_entries (Held id subscriber ∷ places) = (id, subscriber) ∷ held_entries places
  held_entries (Vacant next ∷ places) = held_entries places

  abbrev pub values_of : List (Place S) → FinMap nat_cmp S
  values_of places = from_entries (held_entries places)

  -- the index has exactly the ids that are held, each with its place
  abbrev pub AreIndexed : List (Place S) → (ℕ → Option ℕ) → Type 0
  AreIndexed places index = (id place : ℕ) → (index id ≡ Some place) ↔ (id_at places place ≡ Some id)

  -- this many vacant places stand on the list: each names the next, and the last names none
  abbrev pub IsVacantList : List (Place S) → ℕ → Option ℕ → Type 0
  IsVacantList places zero first = first ≡ None
  IsVacantList places (suc count) first = (place : ℕ) × (next : Option ℕ) × (first ≡ Some place) × (slice_get places place ≡ Some (Vacant next)) × IsVacantList places count next

  -- all vacant places stand on the list
  abbrev pub AreLinked : List (Place S) → Option ℕ → Type 0
  AreLinked places first = IsVacantList places (count_by is_vacant places) first

  -- the index names the held places, and the list the vacant ones
  pub record AreSound (places : List (Place S)) (first : Option ℕ) (index : ℕ → Option ℕ) : Type 0 where
    pub indexed : AreIndexed places index
    pub linked : AreLinked places first

  -- the same subscribers in the same places
  pub record HaveSameHolders (before after : List (Place S)) : Type 0 where
    pub ids : (place : ℕ) → id_at after place ≡ id_at before place
    pub values : values_of after ≡ values_of before
