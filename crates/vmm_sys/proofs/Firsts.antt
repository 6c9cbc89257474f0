-- The first element that passes a test: where `position` finds it, `find` gives it and `without_first` leaves it out.
use Rattle.vmm_sys.proofs.Prelude.{◌≡◌, ℕ, suc, ◌<◌, ◌≤◌, Bool, true, false, cond, List, [], ◌∷◌, length, get_or, refl, ap, arith, Some, None, ltb, find, remove, position, ltb-true, ltb-false, without_first}
use Rattle.std.proofs.Math.Numerals.{one-add}
use Rattle.std.specs.List.{position_or_len}

module _ {A : Type 0} (p : A → Bool) where
  -- the first one that passes is at k
  abbrev IsFirst : List A → ℕ → A → Type 0
  IsFirst xs k d = (find p xs ≡ Some (get_or xs k d)) × (without_first p xs 1 ≡ remove xs k)

  -- none passes
  abbrev HasNone : List A → Type 0
  HasNone xs = (find p xs ≡ None) × (without_first p xs 1 ≡ xs)

  -- one more element in front, by whether it passes
  first-cons : (b : Bool) (x : A) (xs : List A) (d : A) → p x ≡ b →
      (position_or_len p xs < length xs → IsFirst xs (position_or_len p xs) d) →
      position_or_len p (x ∷ xs) < length (x ∷ xs) → IsFirst (x ∷ xs) (position_or_len p (x ∷ xs)) d
  first-cons true x xs d e ih h = (simp e, simp e)
  first-cons false x xs d e ih h =
      let n : position_or_len p (x ∷ xs) ≡ suc (position_or_len p xs) = simp (e, one-add) in
      let r = ih (omega arith) in
      (simp (e, one-add) r.0, simp (e, one-add) (ap (λ l. x ∷ l) r.1))

  -- a position in the list is that of the first one that passes
  first : (xs : List A) (d : A) → position_or_len p xs < length xs → IsFirst xs (position_or_len p xs) d
  first [] d h = absurd (omega (arith, h))
  first (x ∷ xs) d h = first-cons (p x) x xs d refl (first xs d) h

  none-cons : (b : Bool) (x : A) (xs : List A) → p x ≡ b → (length xs ≤ position_or_len p xs → HasNone xs) →
      length (x ∷ xs) ≤ position_or_len p (x ∷ xs) → HasNone (x ∷ xs)
  none-cons true x xs e ih h =
      let n : position_or_len p (x ∷ xs) ≡ 0 = simp e in
      absurd (omega arith)
  none-cons false x xs e ih h =
      let n : position_or_len p (x ∷ xs) ≡ suc (position_or_len p xs) = simp (e, one-add) in
      let r = ih (omega arith) in
      (simp e r.0, simp e (ap (λ l. x ∷ l) r.1))

  -- a position past the list says that none passes
  none : (xs : List A) → length xs ≤ position_or_len p xs → HasNone xs
  none [] h = (refl, refl)
  none (x ∷ xs) h = none-cons (p x) x xs refl (none xs) h

  -- what `position` answers says how its test came out
  some-from_cond : (b : Bool) (k n : ℕ) → cond b (Some n) None ≡ Some k → (b ≡ true) × (n ≡ k)
  some-from_cond true k n e = (refl, cc)
  some-from_cond false k n e = cc

  none-from_cond : (b : Bool) (n : ℕ) → cond b (Some n) None ≡ None → b ≡ false
  none-from_cond true n e = cc
  none-from_cond false n e = refl

  -- where `position` answers a place, `find` gives the element there, and `without_first` removes it
  pub find-from_position : (xs : List A) (k : ℕ) (d : A) → position p xs ≡ Some k → (find p xs ≡ Some (get_or xs k d)) × (without_first p xs 1 ≡ remove xs k)
  find-from_position xs k d e =
      let s = some-from_cond (ltb (position_or_len p xs) (length xs)) k (position_or_len p xs) e in
      rw s.1 at (first xs d (ltb-true (position_or_len p xs) (length xs) s.0))

  -- where it answers none, `find` gives none, and `without_first` removes nothing
  pub find-from_none : (xs : List A) → position p xs ≡ None → (find p xs ≡ None) × (without_first p xs 1 ≡ xs)
  find-from_none xs e = none xs (ltb-false (position_or_len p xs) (length xs) (none-from_cond (ltb (position_or_len p xs) (length xs)) (position_or_len p xs) e))
