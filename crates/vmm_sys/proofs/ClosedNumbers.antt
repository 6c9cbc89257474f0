-- What opens and closes do to the sources and to the marks of closed numbers; and the lowest of these.
use Rattle.vmm_sys.proofs.Prelude.{◌≡◌, ◌≢◌, ℕ, zero, suc, ◌<◌, ◌≤◌, Bool, true, false, not, inl, inr, List, [], ◌∷◌, ◌++◌, length, get_or, set, replicate, refl, ap, ◌∙◌, sym, subst, arith, Option, Some, None, MatchOption, position, cases_eq, cases_Bool, eq-eqb, eqb-true, false≢true, none-some, get_or-set_same, get_or-set_other, slice_get, get_or_from_slice_get, NoneFrom, IsFirstFrom, IsMarked}
use Rattle.std.proofs.lemmas.Option.{slice_get_past}
use Rattle.vmm_sys.specs.declared.table.source.Source.{Source}
use Rattle.vmm_sys.specs.declared.table.interests.Interest.{Interest}
use Rattle.vmm_sys.specs.Table.{IsOpen, is_open, is_closed, is_of}
use Rattle.vmm_sys.specs.ClosedNumbers.{was_closed, AreMarkedClosed}
use Rattle.vmm_sys.proofs.Places.{At, At-from_position, position-from_At, at-passes}
use Rattle.vmm_sys.proofs.Readiness.{get-set, get-push}
use Rattle.vmm_sys.proofs.Slots.{none_by}
use Rattle.vmm_sys.proofs.Walked.{get_marked}
use Rattle.std.specs.Prelude.{IfSome}
use Rattle.std.specs.List.{All}
use Rattle.vmm_sys.specs.EventSet.{with_bits}
use Rattle.vmm_sys.specs.EpollEvent.{event}

-- an open source leaves open what is
pub open-set : (xs : List Source) (n m : ℕ) (s : Source) → is_closed s ≡ false → IsOpen xs m → IsOpen (set xs n s) m
open-set [] n m s c h = h
open-set (x ∷ xs) zero zero s c h = ap not c
open-set (x ∷ xs) zero (suc m) s c h = h
open-set (x ∷ xs) (suc n) zero s c h = h
open-set (x ∷ xs) (suc n) (suc m) s c h = open-set xs n m s c h

pub open-push : (xs : List Source) (m : ℕ) (s : Source) → IsOpen xs m → IsOpen (xs ++ s ∷ []) m
open-push [] zero s h = absurd (false≢true h)
open-push [] (suc m) s h = absurd (false≢true h)
open-push (x ∷ xs) zero s h = h
open-push (x ∷ xs) (suc m) s h = open-push xs m s h

-- an open descriptor was opened
pub open-within : (xs : List Source) (m : ℕ) → IsOpen xs m → m < length xs
open-within [] zero h = absurd (false≢true h)
open-within [] (suc m) h = absurd (false≢true h)
open-within (x ∷ xs) zero h = omega arith
open-within (x ∷ xs) (suc m) h = let lt = open-within xs m h in omega arith

-- and not closed
open-not_closed : (o : Option Source) → is_open o ≡ true → was_closed o ≡ false
open-not_closed None h = absurd (false≢true h)
open-not_closed (Some s) h = elim (cases_Bool (is_closed s)) [ inl c ↦ absurd (false≢true (sym (ap not c) ∙ h)) | inr c ↦ c ]

pub closed-within : (xs : List Source) (m : ℕ) → was_closed (slice_get xs m) ≡ true → m < length xs
closed-within [] zero h = absurd (false≢true h)
closed-within [] (suc m) h = absurd (false≢true h)
closed-within (x ∷ xs) zero h = omega arith
closed-within (x ∷ xs) (suc m) h = let lt = closed-within xs m h in omega arith

-- an element that passes isn't there where no position is found
passes-at : {A : Type 0} (p : A → Bool) (xs : List A) (k : ℕ) (d : A) → k < length xs → p (get_or xs k d) ≡ true → (j : ℕ) × At p xs j
passes-at p [] k d lt e = absurd (omega (arith, lt))
passes-at p (x ∷ xs) zero d lt e = (0, e)
passes-at p (x ∷ xs) (suc k) d lt e = elim (cases_Bool (p x)) [
  | inl e1 ↦ (0, e1)
  | inr e0 ↦ let r = passes-at p xs k d (omega (arith, lt)) e in (suc r.0, (e0, r.1))
]

pub absent : (xs : List Interest) (n : ℕ) → position (is_of n) xs ≡ None → (k : ℕ) (d : Interest) → k < length xs → (get_or xs k d).descriptor ≢ n
absent xs n none k d lt e =
    let r = passes-at (is_of n) xs k d lt (eq-eqb (get_or xs k d).descriptor n e) in
    none-some r.0 (sym none ∙ position-from_At (is_of n) xs r.0 r.1)

-- a closed number has no interest
pub closed-bare : (sources : List Source) (xs : List Interest) (n : ℕ) → All (λ (i : Interest). IsOpen sources i.descriptor) xs → was_closed (slice_get sources n) ≡ true → position (is_of n) xs ≡ None
closed-bare sources xs n all closed = none_by (position (is_of n) xs) (λ k e. (
    let d : Interest = record { descriptor = n; event = event (with_bits 0) 0 } in
    let r = at-passes (is_of n) xs k d (At-from_position (is_of n) xs k e) in
    let is = subst (λ m. IsOpen sources m) (eqb-true (get_or xs k d).descriptor n r.0) (all k d r.1) in
    false≢true (sym (open-not_closed (slice_get sources n) is) ∙ closed)))

-- The lowest closed number

at-first : (xs : List Source) (n : ℕ) → was_closed (slice_get xs n) ≡ true → ((m : ℕ) → m < n → was_closed (slice_get xs m) ≡ false) → At is_closed xs n
at-first [] zero e h = absurd (false≢true e)
at-first [] (suc n) e h = absurd (false≢true e)
at-first (x ∷ xs) zero e h = e
at-first (x ∷ xs) (suc n) e h = (h 0 (omega arith), at-first xs n e (λ m lt. h (suc m) (omega (arith, lt))))

pub at-closed : (xs : List Source) (n : ℕ) → At is_closed xs n → was_closed (slice_get xs n) ≡ true
at-closed [] n a = absurd a
at-closed (x ∷ xs) zero a = a
at-closed (x ∷ xs) (suc n) a = at-closed xs n a.1

get-at : (xs : List Source) (n : ℕ) (s : Source) → n < length xs → slice_get (set xs n s) n ≡ Some s
get-at [] n s lt = absurd (omega (arith, lt))
get-at (x ∷ xs) zero s lt = refl
get-at (x ∷ xs) (suc n) s lt = get-at xs n s (omega (arith, lt))

get-last : (xs : List Source) (s : Source) → slice_get (xs ++ s ∷ []) (length xs) ≡ Some s
get-last [] s = refl
get-last (x ∷ xs) s = get-last xs s

past : (xs : List Source) → was_closed (slice_get xs (length xs)) ≡ false
past xs = ap was_closed (slice_get_past xs (length xs) (omega arith))

-- marks that aren't set may be added
pub same-marks : (marks : List Bool) (k n : ℕ) → get_or (marks ++ replicate k false) n false ≡ get_or marks n false
same-marks [] zero n = refl
same-marks [] (suc k) zero = refl
same-marks [] (suc k) (suc n) = same-marks [] k n
same-marks (b ∷ marks) k zero = refl
same-marks (b ∷ marks) k (suc n) = same-marks marks k n

module _ (sources : List Source) (marks : List Bool) (are : AreMarkedClosed sources marks) where
  unmarked : (n : ℕ) → ¬ IsMarked marks n → was_closed (slice_get sources n) ≡ false
  unmarked n bare = elim (cases_Bool (was_closed (slice_get sources n))) [ inl c ↦ absurd (bare (get_marked marks n (are n ∙ c))) | inr c ↦ c ]

  lowest-some : (n : ℕ) → IsFirstFrom marks 0 n → position is_closed sources ≡ Some n
  lowest-some n h = position-from_At is_closed sources n (at-first sources n (sym (are n) ∙ get_or_from_slice_get marks n true false h.marked) (λ m lt. unmarked m (h.first m (omega arith) lt)))

  lowest-none : NoneFrom marks 0 → position is_closed sources ≡ None
  lowest-none h = none_by (position is_closed sources) (λ k e. false≢true (sym (unmarked k (h k (omega arith))) ∙ at-closed sources k (At-from_position is_closed sources k e)))

  lowest-within : (n : ℕ) → IsFirstFrom marks 0 n → n < length sources
  lowest-within n h = closed-within sources n (sym (are n) ∙ get_or_from_slice_get marks n true false h.marked)

  -- the first marked number is the lowest closed one
  pub lowest : (o : Option ℕ) → MatchOption o (NoneFrom marks 0) (λ n. IsFirstFrom marks 0 n) → o ≡ position is_closed sources
  lowest None h = sym (lowest-none h)
  lowest (Some n) h = sym (lowest-some n h)

  -- which was opened
  pub lowest-below : (o : Option ℕ) (limit : ℕ) → MatchOption o (NoneFrom marks 0) (λ n. IsFirstFrom marks 0 n) → length sources ≤ limit → limit ≤ 2147483648 → IfSome o (λ n. n < 2147483648)
  lowest-below None limit h le most = tt
  lowest-below (Some n) limit h le most = let lt = lowest-within n h in omega arith

  -- a mark follows its source
  pub marked-set : (n : ℕ) (s : Source) (b : Bool) → is_closed s ≡ b → n < length sources → n < length marks → AreMarkedClosed (set sources n s) (set marks n b)
  marked-set n s b e within room m = elim (cases_eq m n) [
    | inl d ↦ ap (λ k. get_or (set marks n b) k false) d ∙ get_or-set_same marks n b false room ∙ sym e ∙ sym (ap was_closed (ap (slice_get (set sources n s)) d ∙ get-at sources n s within))
    | inr d ↦ get_or-set_other marks n m b false d ∙ are m ∙ ap was_closed (sym (get-set sources n m s d))
  ]

  -- where an open one is followed by an open one, no mark changes
  pub marked-same : (n : ℕ) (s : Source) → is_closed s ≡ false → IsOpen sources n → AreMarkedClosed (set sources n s) marks
  marked-same n s e is m = elim (cases_eq m n) [
    | inl d ↦ are m ∙ ap (λ k. was_closed (slice_get sources k)) d ∙ open-not_closed (slice_get sources n) is ∙ sym e ∙ sym (ap was_closed (ap (slice_get (set sources n s)) d ∙ get-at sources n s (open-within sources n is)))
    | inr d ↦ are m ∙ ap was_closed (sym (get-set sources n m s d))
  ]

  -- one more, open, with more marks that aren't set
  pub marked-push : (s : Source) (ms : List Bool) → is_closed s ≡ false → ((m : ℕ) → get_or ms m false ≡ get_or marks m false) → AreMarkedClosed (sources ++ s ∷ []) ms
  marked-push s ms e same m = elim (cases_eq m (length sources)) [
    | inl d ↦ same m ∙ are m ∙ ap (λ k. was_closed (slice_get sources k)) d ∙ past sources ∙ sym e ∙ sym (ap was_closed (ap (slice_get (sources ++ s ∷ [])) d ∙ get-last sources s))
    | inr d ↦ same m ∙ are m ∙ ap was_closed (sym (get-push sources m s d))
  ]
