-- What calls of a table keep: allowed values, and interests of open descriptors, one of each at most, without modes.
use Rattle.vmm_sys.proofs.Prelude.{◌≡◌, ℕ, zero, suc, ◌+◌, ◌≤◌, Bool, true, false, cond, eqb, List, [], ◌∷◌, ◌++◌, take, set, filter, get_or, refl, sym, ap, ◌∙◌, subst, arith, Some, None, remove, if◌then◌else◌, eqb-true, none-some, append-nil, get_or_default, without_first}
use Rattle.std.specs.List.{All, count_by}
use Rattle.std.specs.List.Sorted.{IsPermutation}
use Rattle.std.proofs.lemmas.List.Elements.{All-push, All-set, All-weaker, All-tail}
use Rattle.std.proofs.lemmas.List.Sorted.{IsPermutation-refl, IsPermutation-sym, IsPermutation-cons, IsPermutation-trans, IsPermutation-middle, IsPermutation-remove, All-permutation, sum_by-IsPermutation}
use Rattle.std.proofs.lemmas.List.Sums.{sum_by-cons, sum_by-append, sum_by-set, sum_by-remove}
use Rattle.vmm_sys.specs.declared.entries.ControlOperation.TheVariants.{Add}
use Rattle.vmm_sys.specs.declared.table.source.Source.{Source}
use Rattle.vmm_sys.specs.declared.table.source.Source.TheVariants.{Closed}
use Rattle.vmm_sys.specs.declared.table.interests.Interest.{Interest}
use Rattle.vmm_sys.specs.Table.{TableState, IsReachable, HasAllowedValue, IsOpen, is_open, is_closed, is_of, is_ready, has_mode, place_of, moved_back}
use Rattle.vmm_sys.proofs.Places.{At, At-from_position, position-from_At, at-passes}
use Rattle.vmm_sys.proofs.Readiness.{get-set}
use Rattle.vmm_sys.proofs.ClosedNumbers.{open-set, open-push, absent}

-- a wait moves elements, and loses or doubles none
module _ {A : Type 0} (p : A → Bool) where
  pub moved-permutation : (xs : List A) (c : ℕ) → IsPermutation xs (without_first p xs c ++ take c (filter p xs))
  moved-permutation xs zero = subst (IsPermutation xs) (sym (append-nil xs)) (IsPermutation-refl xs)
  moved-permutation [] (suc c) = IsPermutation-refl []
  moved-permutation (x ∷ xs) (suc c) =
      elim (p x) as (λ b. IsPermutation (x ∷ xs) ((if b then without_first p xs c else x ∷ without_first p xs (suc c)) ++ take (suc c) (if b then x ∷ filter p xs else filter p xs))) [
        | true ↦
            IsPermutation-trans (x ∷ xs) (x ∷ (without_first p xs c ++ take c (filter p xs))) (without_first p xs c ++ x ∷ take c (filter p xs))
            (IsPermutation-cons x xs (without_first p xs c ++ take c (filter p xs)) (moved-permutation xs c))
            (IsPermutation-sym (without_first p xs c ++ x ∷ take c (filter p xs)) (x ∷ (without_first p xs c ++ take c (filter p xs))) (IsPermutation-middle (without_first p xs c) x (take c (filter p xs))))
        | false ↦ IsPermutation-cons x xs (without_first p xs (suc c) ++ take (suc c) (filter p xs)) (moved-permutation xs (suc c))
      ]

  -- none passes where none stands at a place
  pub count-none : (xs : List A) → ((k : ℕ) → At p xs k → ⊥) → count_by p xs ≡ 0
  count-none [] h = refl
  count-none (x ∷ xs) h = sum_by-cons (λ y. cond (p y) 1 0) x xs ∙ elim (p x) as (λ b. p x ≡ b → cond b 1 0 + count_by p xs ≡ 0) [
    | true ↦ λ e. absurd (h 0 e)
    | false ↦ λ e. (let none = count-none xs (λ k a. h (suc k) (e, a)) in omega arith)
  ] refl

-- a descriptor more
pub reachable-open : (t : TableState) (s : Source) → IsReachable t → HasAllowedValue s → IsReachable (record t { sources = t.sources ++ s ∷ [] })
reachable-open t s h allowed = record {
  values = All-push HasAllowedValue t.sources s h.values allowed;
  descriptors = All-weaker (λ (i : Interest). IsOpen t.sources i.descriptor) (λ i. IsOpen (t.sources ++ s ∷ []) i.descriptor) (λ i. open-push t.sources i.descriptor s) t.interests h.descriptors;
  one_each = h.one_each;
  without_modes = h.without_modes;
}

-- another source, which is open
pub reachable-set : (t : TableState) (n : ℕ) (s : Source) → IsReachable t → HasAllowedValue s → is_closed s ≡ false → IsReachable (record t { sources = set t.sources n s })
reachable-set t n s h allowed is = record {
  values = All-set HasAllowedValue t.sources n s allowed h.values;
  descriptors = All-weaker (λ (i : Interest). IsOpen t.sources i.descriptor) (λ i. IsOpen (set t.sources n s) i.descriptor) (λ i. open-set t.sources n i.descriptor s is) t.interests h.descriptors;
  one_each = h.one_each;
  without_modes = h.without_modes;
}

-- one that is closed, where it has no interest
pub reachable-close : (t : TableState) (n : ℕ) → IsReachable t → place_of t n ≡ None → IsReachable (record t { sources = set t.sources n Closed })
reachable-close t n h bare = record {
  values = All-set HasAllowedValue t.sources n Closed tt h.values;
  descriptors = λ k d within.
      let other = absent t.interests n bare k d within in
      subst (λ o. is_open o ≡ true) (sym (get-set t.sources n (get_or t.interests k d).descriptor Closed other)) (h.descriptors k d within);
  one_each = h.one_each;
  without_modes = h.without_modes;
}

-- the interests in another order
pub reachable-moved : (t : TableState) (c : ℕ) → IsReachable t → IsReachable (moved_back t c)
reachable-moved t c h =
    let moved = moved-permutation (is_ready t.sources) t.interests c in record {
      values = h.values;
      descriptors = All-permutation (λ (i : Interest). IsOpen t.sources i.descriptor) t.interests (moved_back t c).interests moved h.descriptors;
      one_each = λ n. (let one = h.one_each n in let same = sum_by-IsPermutation (λ i. cond (is_of n i) 1 0) t.interests (moved_back t c).interests moved in omega arith);
      without_modes = All-permutation (λ (i : Interest). has_mode Add i.event ≡ false) t.interests (moved_back t c).interests moved h.without_modes;
    }

-- at most one of n where each list has at most one
below_two : (b : Bool) (n : ℕ) → n ≤ 1 → (b ≡ true → n ≡ 0) → n + cond b 1 0 ≤ 1
below_two true n le none = (let zero = none refl in omega arith)
below_two false n le none = omega arith

-- one interest more, of a descriptor that has none
pub reachable-add : (t : TableState) (i : Interest) → IsReachable t → IsOpen t.sources i.descriptor → place_of t i.descriptor ≡ None → has_mode Add i.event ≡ false → IsReachable (record t { interests = t.interests ++ i ∷ [] })
reachable-add t i h there none mode = record {
  values = h.values;
  descriptors = All-push (λ (j : Interest). IsOpen t.sources j.descriptor) t.interests i h.descriptors there;
  one_each = λ n.
      let sum = sum_by-append (λ (j : Interest). cond (is_of n j) 1 0) t.interests (i ∷ []) in
      let empty : is_of n i ≡ true → count_by (is_of n) t.interests ≡ 0 = λ e.
      count-none (is_of n) t.interests (λ k a. none-some k (sym (subst (λ m. place_of t m ≡ None) (eqb-true i.descriptor n e) none) ∙ position-from_At (is_of n) t.interests k a)) in
      let two = below_two (is_of n i) (count_by (is_of n) t.interests) (h.one_each n) empty in
      omega arith;
  without_modes = All-push (λ (j : Interest). has_mode Add j.event ≡ false) t.interests i h.without_modes mode;
}

-- another interest of the same descriptor in its place
pub reachable-modify : (t : TableState) (i : Interest) (k : ℕ) → IsReachable t → IsOpen t.sources i.descriptor → place_of t i.descriptor ≡ Some k → has_mode Add i.event ≡ false → IsReachable (record t { interests = set t.interests k i })
reachable-modify t i k h there at mode =
    let here = at-passes (is_of i.descriptor) t.interests k i (At-from_position (is_of i.descriptor) t.interests k at) in
    let same : (get_or t.interests k i).descriptor ≡ i.descriptor = eqb-true (get_or t.interests k i).descriptor i.descriptor here.0 in record {
      values = h.values;
      descriptors = All-set (λ (j : Interest). IsOpen t.sources j.descriptor) t.interests k i there h.descriptors;
      one_each = λ n.
          let sum = sum_by-set (λ (j : Interest). cond (is_of n j) 1 0) t.interests k i i here.1 in
          let alike : cond {A = ℕ} (is_of n (get_or t.interests k i)) 1 0 ≡ cond (is_of n i) 1 0 = ap (λ m. cond (eqb m n) 1 0) same in
          let one = h.one_each n in
          omega arith;
      without_modes = All-set (λ (j : Interest). has_mode Add j.event ≡ false) t.interests k i mode h.without_modes;
    }

-- one interest less
pub reachable-delete : (t : TableState) (d : Interest) (k : ℕ) → IsReachable t → place_of t d.descriptor ≡ Some k → IsReachable (record t { interests = remove t.interests k })
reachable-delete t d k h at =
    let here = at-passes (is_of d.descriptor) t.interests k d (At-from_position (is_of d.descriptor) t.interests k at) in
    let x = get_or t.interests k d in
    let moved = IsPermutation-remove t.interests k x here.1 (get_or_default t.interests k d x here.1) in
    let kept : (P : Interest → Type 0) → All P t.interests → All P (remove t.interests k) = λ P all. All-tail P x (remove t.interests k) (All-permutation P t.interests (x ∷ remove t.interests k) moved all) in record {
      values = h.values;
      descriptors = kept (λ j. IsOpen t.sources j.descriptor) h.descriptors;
      one_each = λ n. (let sum = sum_by-remove (λ (j : Interest). cond (is_of n j) 1 0) t.interests k d here.1 in let one = h.one_each n in omega arith);
      without_modes = kept (λ j. has_mode Add j.event ≡ false) h.without_modes;
    }
