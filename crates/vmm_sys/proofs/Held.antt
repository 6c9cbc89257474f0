-- What a row of slots holds.
use Rattle.vmm_sys.proofs.Prelude.{◌≡◌, ℕ, zero, suc, ◌+◌, ◌<◌, ◌≤◌, inl, inr, List, [], ◌∷◌, ◌++◌, length, get_or, set, take, map, replicate, refl, ap, ◌∙◌, sym, arith, Option, Some, None, IsSome, is_some, cases_lt, false≢true, get_or_past, set_at, set-append_left, length-set, none-some, held}

module _ {A : Type 0} where
  pub held-append : (xs ys : List (Option A)) → held (xs ++ ys) ≡ held xs ++ held ys
  held-append [] ys = refl
  held-append (None ∷ xs) ys = held-append xs ys
  held-append (Some x ∷ xs) ys = ap (λ l. x ∷ l) (held-append xs ys)

  pub held-full : (xs : List A) → held (map Some xs) ≡ xs
  held-full [] = refl
  held-full (x ∷ xs) = ap (λ l. x ∷ l) (held-full xs)

  -- a slot that holds something is within the row
  pub slot-within : (slots : List (Option A)) (s : ℕ) (x : A) → get_or slots s None ≡ Some x → s < length slots
  slot-within slots s x e = elim (cases_lt s (length slots)) [ inl lt ↦ lt | inr ge ↦ absurd (none-some x (sym (get_or_past slots s None ge) ∙ e)) ]

  -- the row around a slot
  pub split-at : (slots : List (Option A)) (s : ℕ) (o : Option A) → s < length slots → get_or slots s None ≡ o → (xs ys : List (Option A)) × (slots ≡ xs ++ o ∷ ys) × (length xs ≡ s)
  split-at [] s o lt e = absurd (omega (arith, lt))
  split-at (x ∷ slots) zero o lt e = ([], slots, ap (λ y. y ∷ slots) e, refl)
  split-at (x ∷ slots) (suc s) o lt e = let r = split-at slots s o (omega arith) e in (x ∷ r.0, r.1, ap (λ l. x ∷ l) r.2, ap suc r.3)

  -- an empty slot more leaves all others
  pub slot-grown : (slots : List (Option A)) (s : ℕ) → get_or (slots ++ None ∷ []) s None ≡ get_or slots s None
  slot-grown [] zero = refl
  slot-grown [] (suc s) = refl
  slot-grown (x ∷ slots) zero = refl
  slot-grown (x ∷ slots) (suc s) = slot-grown slots s

  -- so do empty ones that are cut off
  pub slot-cut : (xs : List (Option A)) (k s : ℕ) → get_or (xs ++ replicate k None) s None ≡ get_or xs s None
  slot-cut [] zero s = refl
  slot-cut [] (suc k) zero = refl
  slot-cut [] (suc k) (suc s) = slot-cut [] k s
  slot-cut (x ∷ xs) k zero = refl
  slot-cut (x ∷ xs) k (suc s) = slot-cut xs k s

  pub some-within : (slots : List (Option A)) (s : ℕ) → IsSome (get_or slots s None) → s < length slots
  some-within slots s h = elim (cases_lt s (length slots)) [ inl lt ↦ lt | inr ge ↦ absurd (false≢true (sym (ap is_some (get_or_past slots s None ge)) ∙ h)) ]

  -- what a slot holds is moved to one behind the row
  pub slot-moved : (slots : List (Option A)) (s : ℕ) → IsSome (get_or slots s None) →
      set (set (slots ++ None ∷ []) s None) (length slots) (get_or (slots ++ None ∷ []) s None) ≡ set slots s None ++ get_or slots s None ∷ []
  slot-moved slots s h =
      ap (λ l. set l (length slots) (get_or (slots ++ None ∷ []) s None)) (set-append_left slots (None ∷ []) s None (some-within slots s h))
      ∙ set_at (set slots s None) None [] (get_or (slots ++ None ∷ []) s None) (length slots) (length-set slots s None) ∙ ap (λ o. set slots s None ++ o ∷ []) (slot-grown slots s)

  -- an empty last slot may be cut off

  pub slot-last : (slots : List (Option A)) (s t : ℕ) → length slots ≤ s + 1 → get_or slots s None ≡ None → get_or (take s slots) t None ≡ get_or slots t None
  slot-last [] zero t le e = refl
  slot-last [] (suc s) t le e = refl
  slot-last (x ∷ []) zero zero le e = sym e
  slot-last (x ∷ []) zero (suc t) le e = refl
  slot-last (x ∷ y ∷ slots) zero t le e = absurd (omega (arith, le))
  slot-last (x ∷ slots) (suc s) zero le e = refl
  slot-last (x ∷ slots) (suc s) (suc t) le e = slot-last slots s t (omega (arith, le)) e

  pub held-cut : (slots : List (Option A)) (s : ℕ) → length slots ≤ s + 1 → get_or slots s None ≡ None → held (take s slots) ≡ held slots
  held-cut [] zero le e = refl
  held-cut [] (suc s) le e = refl
  held-cut (x ∷ []) zero le e = sym (ap (λ o. held (o ∷ [])) e)
  held-cut (x ∷ y ∷ slots) zero le e = absurd (omega (arith, le))
  held-cut (None ∷ slots) (suc s) le e = held-cut slots s (omega (arith, le)) e
  held-cut (Some x ∷ slots) (suc s) le e = ap (λ l. x ∷ l) (held-cut slots s (omega (arith, le)) e)
