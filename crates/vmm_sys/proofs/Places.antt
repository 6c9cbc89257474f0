-- The place of the first element that passes, and what the changes of a list do to it.
use Rattle.vmm_sys.proofs.Prelude.{◌≡◌, ℕ, zero, suc, ◌+◌, ◌<◌, ◌≤◌, Bool, true, false, cond, ◌⊎◌, inl, inr, List, [], ◌∷◌, ◌++◌, length, get_or, take, set, filter, refl, sym, ap, ◌∙◌, arith, Some, None, ltb, find, remove, position, Any, ltb-true, lt-ltb, false≢true, without_first}
use Rattle.std.proofs.Math.Numerals.{one-add}
use Rattle.std.specs.List.{position_or_len}

module _ {A : Type 0} (p : A → Bool) where
  -- the first element that passes is the one at place a
  abbrev pub At : List A → ℕ → Type 0
  At [] a = ⊥
  At (x ∷ xs) zero = p x ≡ true
  At (x ∷ xs) (suc a) = (p x ≡ false) × At xs a

  -- the position of the first one that passes, by whether the element in front does
  at_by : (b : Bool) (x : A) (xs : List A) → p x ≡ b → (position_or_len p xs < length xs → At xs (position_or_len p xs)) → position_or_len p (x ∷ xs) < length (x ∷ xs) → At (x ∷ xs) (position_or_len p (x ∷ xs))
  at_by true x xs e ih h = simp e
  at_by false x xs e ih h =
      let n : position_or_len p (x ∷ xs) ≡ suc (position_or_len p xs) = simp (e, one-add) in
      rw n (e, ih (omega arith))

  -- a position in the list is that place
  at_len : (xs : List A) → position_or_len p xs < length xs → At xs (position_or_len p xs)
  at_len [] h = absurd (omega (arith, h))
  at_len (x ∷ xs) h = at_by (p x) x xs refl (at_len xs) h

  -- what `position` answers says how its test came out
  some_is : (b : Bool) (k n : ℕ) → cond b (Some n) None ≡ Some k → (b ≡ true) × (n ≡ k)
  some_is true k n e = (refl, cc)
  some_is false k n e = cc

  -- `position` answers that place
  pub At-from_position : (xs : List A) (a : ℕ) → position p xs ≡ Some a → At xs a
  At-from_position xs a e =
      let s = some_is (ltb (position_or_len p xs) (length xs)) a (position_or_len p xs) e in
      rw s.1 at (at_len xs (ltb-true (position_or_len p xs) (length xs) s.0))

  -- and that place is what it answers
  len_at : (xs : List A) (a : ℕ) → At xs a → (position_or_len p xs ≡ a) × (a < length xs)
  len_at [] a h = absurd h
  len_at (x ∷ xs) zero h = (simp h, omega arith)
  len_at (x ∷ xs) (suc a) h = let r = len_at xs a h.1 in (simp (h.0, one-add) (ap suc r.0), omega arith)

  pub position-from_At : (xs : List A) (a : ℕ) → At xs a → position p xs ≡ Some a
  position-from_At xs a h =
      let r = len_at xs a h in
      let t : ltb (position_or_len p xs) (length xs) ≡ true = lt-ltb (position_or_len p xs) (length xs) (omega arith) in
      rw (t, r.0) refl

  -- the element at that place passes
  pub at-passes : (xs : List A) (k : ℕ) (d : A) → At xs k → (p (get_or xs k d) ≡ true) × (k < length xs)
  at-passes [] k d h = absurd h
  at-passes (x ∷ xs) zero d h = (h, omega arith)
  at-passes (x ∷ xs) (suc k) d h = let r = at-passes xs k d h.1 in (r.0, omega arith)

  -- more elements behind it leave the place
  pub At-append : (xs ys : List A) (a : ℕ) → At xs a → At (xs ++ ys) a
  At-append [] ys a h = absurd h
  At-append (x ∷ xs) ys zero h = h
  At-append (x ∷ xs) ys (suc a) h = (h.0, At-append xs ys a h.1)

  -- a change of one element that passes where the old one did
  pub At-set : (xs : List A) (k a : ℕ) (y d : A) → p y ≡ p (get_or xs k d) → At xs a → At (set xs k y) a
  At-set [] k a y d e h = absurd h
  At-set (x ∷ xs) zero zero y d e h = e ∙ h
  At-set (x ∷ xs) zero (suc a) y d e h = (e ∙ h.0, h.1)
  At-set (x ∷ xs) (suc k) zero y d e h = h
  At-set (x ∷ xs) (suc k) (suc a) y d e h = (h.0, At-set xs k a y d e h.1)

  -- a removal of one that doesn't pass
  pub At-remove : (xs : List A) (k a : ℕ) (d : A) → k < length xs → p (get_or xs k d) ≡ false → At xs a → (b : ℕ) × At (remove xs k) b × (b ≤ a)
  At-remove [] k a d lt e h = absurd h
  At-remove (x ∷ xs) zero zero d lt e h = absurd (false≢true (sym e ∙ h))
  At-remove (x ∷ xs) zero (suc a) d lt e h = (a, h.1, omega arith)
  At-remove (x ∷ xs) (suc k) zero d lt e h = (0, h, omega arith)
  At-remove (x ∷ xs) (suc k) (suc a) d lt e h =
      let r = At-remove xs k a d (omega arith) e h.1 in
      (suc r.0, (h.0, r.1), (let le = r.2 in omega arith))

  -- what find gives passes a test: so does the element at that place
  abbrev pub Here : (A → Bool) → List A → ℕ → Type 0
  Here q [] a = ⊥
  Here q (x ∷ xs) zero = q x ≡ true
  Here q (x ∷ xs) (suc a) = Here q xs a

  -- a test that `find`'s element passes is passed at that place
  pub Here-from_find : (q : A → Bool) (xs : List A) (a : ℕ) (x : A) → At xs a → find p xs ≡ Some x → q x ≡ true → Here q xs a
  Here-from_find q [] a x h e t = absurd h
  Here-from_find q (y ∷ xs) zero x h e t = let s : Some y ≡ Some x = simp h at e in let u : y ≡ x = cc in rw u t
  Here-from_find q (y ∷ xs) (suc a) x h e t = Here-from_find q xs a x h.1 (simp h.0 at e) t

  -- the first one that passes p is among the first c that pass q, or stays the first one in what is left of xs, no later, and earlier by c where it passes q
  abbrev Left : (A → Bool) → List A → ℕ → ℕ → Type 0
  Left q xs a c = Any (λ x. p x ≡ true) (take c (filter q xs)) ⊎ ((b : ℕ) × At (without_first q xs c) b × (b ≤ a) × (Here q xs a → b + c ≤ a))

  -- the cases of an element in front, by whether it passes q and whether it passes p
  any_more : (x : A) (xs : List A) → Any (λ y. p y ≡ true) xs → Any (λ y. p y ≡ true) (x ∷ xs)
  any_more x xs r = (suc r.0, r.1, (let lt = r.2 in omega arith), r.3, r.4)

  walk_yes : (q : A → Bool) (x : A) (xs : List A) (a c : ℕ) → q x ≡ true → p x ≡ false → Left q xs a c → Left q (x ∷ xs) (suc a) (suc c)
  walk_yes q x xs a c e pn (inl r) = inl (simp e (any_more x (take c (filter q xs)) r))
  walk_yes q x xs a c e pn (inr r) = inr (r.0, simp e r.1, (let le = r.2 in omega arith), (λ h. let le = r.3 h in omega arith))

  walk_no : (q : A → Bool) (x : A) (xs : List A) (a c : ℕ) → q x ≡ false → p x ≡ false → Left q xs a (suc c) → Left q (x ∷ xs) (suc a) (suc c)
  walk_no q x xs a c e pn (inl r) = inl (simp e r)
  walk_no q x xs a c e pn (inr r) = inr (suc r.0, simp e (pn, r.1), (let le = r.2 in omega arith), (λ h. let le = r.3 h in omega arith))

  walk_first : (b : Bool) (q : A → Bool) (x : A) (xs : List A) (c : ℕ) → q x ≡ b → p x ≡ true → Left q (x ∷ xs) 0 (suc c)
  walk_first true q x xs c e py = inl (simp e (0, x, omega arith, refl, py))
  walk_first false q x xs c e py = inr (0, simp e py, omega arith, (λ h. absurd (false≢true (sym e ∙ h))))

  walk_on : (b : Bool) (q : A → Bool) (x : A) (xs : List A) (a c : ℕ) → q x ≡ b → p x ≡ false → ((d : ℕ) → Left q xs a d) → Left q (x ∷ xs) (suc a) (suc c)
  walk_on true q x xs a c e pn ih = walk_yes q x xs a c e pn (ih c)
  walk_on false q x xs a c e pn ih = walk_no q x xs a c e pn (ih (suc c))

  -- taking the first c that pass q out of a list
  pub without_first-At : (q : A → Bool) (xs : List A) (a c : ℕ) → At xs a → Left q xs a c
  without_first-At q [] a c h = absurd h
  without_first-At q (x ∷ xs) a zero h = inr (a, h, omega arith, (λ k. omega arith))
  without_first-At q (x ∷ xs) zero (suc c) h = walk_first (q x) q x xs c refl h
  without_first-At q (x ∷ xs) (suc a) (suc c) h = walk_on (q x) q x xs a c refl h.0 (λ d. without_first-At q xs a d h.1)
