-- The list of the vacant places, and what each change of a place does to it.
use Rattle.std.proofs.Common.{◌≡◌, ◌≢◌, ℕ, zero, suc, ◌+◌, ◌<◌, List, [], ◌∷◌, ◌++◌, length, get_or, set, Option, Some, None, cond, count_by, slice_get, refl, sym, ap, subst, ◌∙◌, arith, length-set}
use Rattle.std.proofs.lemmas.List.{length_push, get_or-set_same, get_or-set_other, get_or_push}
use Rattle.std.proofs.lemmas.List.Sums.{sum_by-set, sum_by_push}
use Rattle.std.proofs.lemmas.Option.{slice_get_within, slice_get-get_or, get_or_from_slice_get}
use Rattle.dispatch_tables.specs.declared.places.Place.{Place}
use Rattle.dispatch_tables.specs.declared.places.Place.TheVariants.{Held, Vacant}
use Rattle.dispatch_tables.specs.Places.{is_vacant, IsVacantList, AreLinked}

pub none_some : {A : Type 0} (x : A) → None ≡ Some x → ⊥
none_some x e = cc

pub same_some : {A : Type 0} (x y : A) → Some x ≡ Some y → x ≡ y
same_some x y e = cc

module _ {S : Type 0} where
  IsVacantList-count : (places : List (Place S)) (m n : ℕ) (first : Option ℕ) → IsVacantList places m first → IsVacantList places n first → m ≡ n
  IsVacantList-count places zero zero first p q = refl
  IsVacantList-count places zero (suc n) first p q = absurd (none_some q.0 (sym p ∙ q.2))
  IsVacantList-count places (suc m) zero first p q = absurd (none_some p.0 (sym q ∙ p.2))
  IsVacantList-count places (suc m) (suc n) first p q =
      let at = p.2 in
      let other = q.2 in
      let here = p.3 in
      let there = q.3 in
      let same_place : q.0 ≡ p.0 = cc in
      let same : q.1 ≡ p.1 = next_is places p.0 q.1 p.1 (subst (λ k. slice_get places k ≡ Some (Vacant q.1)) same_place there) here in
      ap suc (IsVacantList-count places m n p.1 p.4 (subst (IsVacantList places n) same q.4))
    where
      next_is : (places : List (Place S)) (k : ℕ) (a b : Option ℕ) → slice_get places k ≡ Some (Vacant a) → slice_get places k ≡ Some (Vacant b) → a ≡ b
      next_is places k a b is also = cc

  -- a write at a place that isn't on the list keeps the list
  IsVacantList-set : (places : List (Place S)) (place : ℕ) (e : Place S) (n : ℕ) (first : Option ℕ) → ((m : ℕ) → m < n → IsVacantList places (suc m) (Some place) → ⊥) → IsVacantList places n first → IsVacantList (set places place e) n first
  IsVacantList-set places place e zero first off p = p
  IsVacantList-set places place e (suc n) first off p =
      let other : p.0 ≢ place = λ same. off n (omega arith) (subst (λ o. IsVacantList places (suc n) o) (p.2 ∙ ap Some same) p) in
      let within = slice_get_within places p.0 _ p.3 in
      let kept : slice_get (set places place e) p.0 ≡ Some (Vacant p.1) =
      slice_get-get_or (set places place e) p.0 e (omega (arith, length-set places place e))
      ∙ ap Some (get_or-set_other places place p.0 e e other ∙ get_or_from_slice_get places p.0 _ e p.3) in
      (p.0, p.1, p.2, kept, IsVacantList-set places place e n p.1 (λ m below. off m (omega arith)) p.4)

  held_is_off_list : (places : List (Place S)) (place id : ℕ) (subscriber : S) → slice_get places place ≡ Some (Held id subscriber) → (m : ℕ) → IsVacantList places (suc m) (Some place) → ⊥
  held_is_off_list places place id subscriber found m p = apart places place id subscriber p.1 found (subst (λ k. slice_get places k ≡ Some (Vacant p.1)) (same_some p.0 place (sym p.2)) p.3)
    where
      apart : (places : List (Place S)) (place id : ℕ) (subscriber : S) (next : Option ℕ) → slice_get places place ≡ Some (Held id subscriber) → slice_get places place ≡ Some (Vacant next) → ⊥
      apart places place id subscriber next held vacant = cc

  -- how many are vacant after a write
  vacant_count : (places : List (Place S)) (place : ℕ) (old new : Place S) → slice_get places place ≡ Some old
      → count_by is_vacant (set places place new) + cond (is_vacant old) 1 0 ≡ count_by is_vacant places + cond (is_vacant new) 1 0
  vacant_count places place old new found =
      let within = slice_get_within places place old found in
      rw (get_or_from_slice_get places place old old found) at (sum_by-set (λ x. cond (is_vacant x) 1 0) places place new old within)

  -- the first vacant place is filled
  pub linked_fill : (places : List (Place S)) (place : ℕ) (next : Option ℕ) (id : ℕ) (subscriber : S) → AreLinked places (Some place) → slice_get places place ≡ Some (Vacant next) → AreLinked (set places place (Held id subscriber)) next
  linked_fill places place next id subscriber linked found = by_count (count_by is_vacant places) refl linked
    where
      by_count : (n : ℕ) → count_by is_vacant places ≡ n → IsVacantList places n (Some place) → AreLinked (set places place (Held id subscriber)) next
      by_count zero is p = absurd (none_some place (sym p))
      by_count (suc n) is p =
          let counted = vacant_count places place (Vacant next) (Held id subscriber) found in
          let fewer : n ≡ count_by is_vacant (set places place (Held id subscriber)) = omega arith in
          let same : p.1 ≡ next = next_is (subst (λ k. slice_get places k ≡ Some (Vacant p.1)) (same_some p.0 place (sym p.2)) p.3) in
          let off : (m : ℕ) → m < n → IsVacantList places (suc m) (Some place) → ⊥ = λ m below q. omega (arith, IsVacantList-count places (suc m) (suc n) (Some place) q p) in
          subst (λ count. IsVacantList (set places place (Held id subscriber)) count next) fewer (IsVacantList-set places place (Held id subscriber) n next off (subst (IsVacantList places n) same p.4))
        where
          next_is : {a : Option ℕ} → slice_get places place ≡ Some (Vacant a) → a ≡ next
          next_is is = cc

  -- a held place falls vacant, and is the first then
  pub linked_vacate : (places : List (Place S)) (place : ℕ) (first : Option ℕ) (id : ℕ) (subscriber : S) → AreLinked places first → slice_get places place ≡ Some (Held id subscriber) → AreLinked (set places place (Vacant first)) (Some place)
  linked_vacate places place first id subscriber linked found =
      let within = slice_get_within places place _ found in
      let counted = vacant_count places place (Held id subscriber) (Vacant first) found in
      let more : suc (count_by is_vacant places) ≡ count_by is_vacant (set places place (Vacant first)) = omega arith in
      let written : slice_get (set places place (Vacant first)) place ≡ Some (Vacant first) =
      slice_get-get_or _ place (Vacant first) (omega (arith, length-set places place (Vacant first))) ∙ ap Some (get_or-set_same places place (Vacant first) (Vacant first) within) in
      subst (λ count. IsVacantList (set places place (Vacant first)) count (Some place)) more
      (place, first, refl, written, IsVacantList-set places place (Vacant first) (count_by is_vacant places) first (λ m _. held_is_off_list places place id subscriber found m) linked)

  -- a held place has another subscriber
  pub linked_rewrite : (places : List (Place S)) (place : ℕ) (first : Option ℕ) (id : ℕ) (old new : S) → AreLinked places first → slice_get places place ≡ Some (Held id old) → AreLinked (set places place (Held id new)) first
  linked_rewrite places place first id old new linked found =
      let counted = vacant_count places place (Held id old) (Held id new) found in
      let same : count_by is_vacant places ≡ count_by is_vacant (set places place (Held id new)) = omega arith in
      subst (λ count. IsVacantList (set places place (Held id new)) count first) same
      (IsVacantList-set places place (Held id new) (count_by is_vacant places) first (λ m _. held_is_off_list places place id old found m) linked)

  -- one more place, where none is vacant
  pub linked_push : (places : List (Place S)) (place : ℕ) → place ≡ length places → AreLinked places None → AreLinked (places ++ Vacant None ∷ []) (Some place)
  linked_push places place last linked = subst (λ k. AreLinked (places ++ Vacant None ∷ []) (Some k)) (sym last) (by_count (count_by is_vacant places) refl linked)
    where
      by_count : (n : ℕ) → count_by is_vacant places ≡ n → IsVacantList places n None → AreLinked (places ++ Vacant None ∷ []) (Some (length places))
      by_count zero is p =
          let counted = sum_by_push (λ x. cond (is_vacant x) 1 0) places (Vacant None) in
          let one : 1 ≡ count_by is_vacant (places ++ Vacant None ∷ []) = omega arith in
          let there : slice_get (places ++ Vacant None ∷ []) (length places) ≡ Some (Vacant None) =
          slice_get-get_or _ (length places) (Vacant None) (omega (arith, length_push places (Vacant None))) ∙ ap Some (get_or_push places (Vacant None) (Vacant None) (length places) refl) in
          subst (λ count. IsVacantList (places ++ Vacant None ∷ []) count (Some (length places))) one (length places, None, refl, there, refl)
      by_count (suc n) is p = absurd (none_some p.0 p.2)

  -- the first place of the list is vacant
  pub first_is_vacant : (places : List (Place S)) (place : ℕ) → AreLinked places (Some place) → (next : Option ℕ) × (slice_get places place ≡ Some (Vacant next))
  first_is_vacant places place linked = by_count (count_by is_vacant places) linked
    where
      by_count : (n : ℕ) → IsVacantList places n (Some place) → (next : Option ℕ) × (slice_get places place ≡ Some (Vacant next))
      by_count zero p = absurd (none_some place (sym p))
      by_count (suc n) p = (p.1, subst (λ k. slice_get places k ≡ Some (Vacant p.1)) (same_some p.0 place (sym p.2)) p.3)

  pub read_vacant : (places : List (Place S)) (place : ℕ) (e : Place S) → AreLinked places (Some place) → e ≡ get_or places place e → slice_get places place ≡ Some e
  read_vacant places place e linked read =
      let there = first_is_vacant places place linked in
      there.1 ∙ ap Some (sym (read ∙ get_or_from_slice_get places place _ e there.1))

  pub vacant_is_not_held : (places : List (Place S)) (place id : ℕ) (subscriber : S) → AreLinked places (Some place) → slice_get places place ≡ Some (Held id subscriber) → ⊥
  vacant_is_not_held places place id subscriber linked found =
      let there = first_is_vacant places place linked in
      apart there.0 there.1
    where
      apart : (next : Option ℕ) → slice_get places place ≡ Some (Vacant next) → ⊥
      apart next vacant = cc
