-- What two waits report of an interest that is ready at the first.
use Rattle.std.proofs.Common.{ℕ, zero, suc, ◌+◌, ◌<◌, ◌≤◌, ◌≡◌, ◌==◌, Bool, true, false, cond, ◌⊎◌, inl, inr, List, [], ◌∷◌, length, get_or, map, filter, Result, Ok, Err, Some, refl, sym, ap, ◌∙◌, arith}
use Rattle.std.specs.Prelude.{find, position, slice_get}
use Rattle.std.specs.List.{All, Contains, count_by}
use Rattle.std.proofs.lemmas.Bool.{false≢true}
use Rattle.std.proofs.lemmas.List.{get_or-map, length-map, take_at}
use Rattle.std.proofs.lemmas.List.Elements.{All-nil, All-cons, All-take, All-filter, All-weaker}
use Rattle.std.proofs.lemmas.List.Sorted.{All-permutation}
use Rattle.std.proofs.lemmas.List.Sums.{sum_by-cons}
use Rattle.std.proofs.lemmas.Option.{get_or_from_slice_get, slice_get_within}
use Rattle.vmm_sys.specs.declared.entries.EpollEvent.{EpollEvent}
use Rattle.vmm_sys.specs.declared.errno.Errno.{Errno}
use Rattle.vmm_sys.specs.declared.table.interests.Interest.{Interest}
use Rattle.vmm_sys.specs.Poller.{reported}
use Rattle.vmm_sys.specs.ServiceBound.{Wait, IsReadyFor, Reports, EachStepMovesForward, ReportedWithinRooms, after, left_by}
use Rattle.vmm_sys.specs.Table.{TableState, Answers, chosen, counted, entry_of, filled, is_of, is_ready, moved_back, wait_of}
use Rattle.vmm_sys.proofs.Firsts.{find-from_position}
use Rattle.vmm_sys.proofs.Places.{At, At-from_position, position-from_At, at-passes}
use Rattle.vmm_sys.proofs.Reachable.{moved-permutation}

-- where one passes at most
module _ {A : Type 0} (p : A → Bool) where
  abbrev pub Is : A → A → Type 0
  Is x y = p y ≡ true → y ≡ x

  -- each one that passes is x
  abbrev pub IsAlone : A → List A → Type 0
  IsAlone x xs = All (Is x) xs

  abbrev Fails : A → Type 0
  Fails y = p y ≡ false

  -- where none is counted, each fails
  none : (xs : List A) → count_by p xs ≡ 0 → All Fails xs
  none [] e = All-nil Fails
  none (y ∷ xs) e =
      elim (p y) as (λ b. p y ≡ b → cond b 1 0 + count_by p xs ≡ 0 → All Fails (y ∷ xs)) [
        | true ↦ λ is sum. absurd (omega arith)
        | false ↦ λ is sum. All-cons Fails y xs is (none xs (omega arith))
      ] refl (sym (sum_by-cons (λ z. cond (p z) 1 0) y xs) ∙ e)

  -- x stands where the first one does, and is the only one
  pub alone : (xs : List A) (k : ℕ) (x : A) → count_by p xs ≤ 1 → slice_get xs k ≡ Some x → p x ≡ true → At p xs k × IsAlone x xs
  alone [] k x one at is = absurd cc
  alone (y ∷ xs) zero x one at is =
      let same : y ≡ x = cc in
      let first : p y ≡ true = ap p same ∙ is in
      let sum : count_by p (y ∷ xs) ≡ cond true 1 0 + count_by p xs = sum_by-cons (λ z. cond (p z) 1 0) y xs ∙ ap (λ b. cond b 1 0 + count_by p xs) first in
      (first, All-cons (Is x) y xs (λ _. same) (All-weaker Fails (Is x) (λ z no yes. absurd (false≢true (sym no ∙ yes))) xs (none xs (omega (arith, sum, one)))))
  alone (y ∷ xs) (suc k) x one at is =
      elim (p y) as (λ b. p y ≡ b → count_by p (y ∷ xs) ≡ cond b 1 0 + count_by p xs → At p (y ∷ xs) (suc k) × IsAlone x (y ∷ xs)) [
        | true ↦ λ first sum.
            let no = none xs (omega (arith, sum, one)) k x (slice_get_within xs k x at) in
            absurd (false≢true (sym no ∙ ap p (get_or_from_slice_get xs k x x at) ∙ is))
        | false ↦ λ other sum.
            let more = alone xs k x (omega (arith, sum, one)) at is in
            ((other, more.0), All-cons (Is x) y xs (λ yes. absurd (false≢true (sym other ∙ yes))) more.1)
      ] refl (sum_by-cons (λ z. cond (p z) 1 0) y xs)

  -- so it is what `find` finds
  found : (xs : List A) (k : ℕ) (x : A) → IsAlone x xs → position p xs ≡ Some k → find p xs ≡ Some x
  found xs k x only at =
      let here = at-passes p xs k x (At-from_position p xs k at) in
      (find-from_position p xs k x at).0 ∙ ap Some (only k x here.1 here.0)

-- a wait leaves the sources, and of the interests what holds of each
pub waited : (P : Interest → Type 0) (t : TableState) (c : ℕ) → All P t.interests → ((after t (Wait c)).sources ≡ t.sources) × All P (after t (Wait c)).interests
waited P t zero all = (refl, all)
waited P t (suc c) all =
    let some : (suc c == 0) ≡ false = grind arith in
    rw some (refl, All-permutation P t.interests (moved_back t (suc c)).interests (moved-permutation (is_ready t.sources) t.interests (suc c)) all)

-- a wait leaves the table that its definition says
pub left : (r : Result (List EpollEvent × TableState) Errno) (t u : TableState) (result : Result ℕ Errno) → Answers (counted r) t result u → u ≡ left_by t r
left (Ok (entries, then)) t u result h = h.1
left (Err errno) t u result h = h.1

module _ (t : TableState) (i : Interest) (only : IsAlone (is_of i.descriptor) i t.interests) where
  -- a wait that reports the interest has its entry in the buffer
  pub stands : (u : TableState) (c : ℕ) (result : Result ℕ Errno) (before now : List EpollEvent) → Answers (counted (wait_of t c)) t result u →
      now ≡ filled (wait_of t c) before → Reports i.descriptor t (Wait c) → Contains (reported result now) (entry_of t.sources i)
  stands u zero result before now answer is r = absurd (omega (arith, r.2))
  stands u (suc c) result before now answer is (k, x, within, at, passes) =
      let some : (suc c == 0) ≡ false = grind arith in
      let xs = chosen t (suc c) in
      let f = entry_of t.sources in
      let here = All-take (Is (is_of i.descriptor) i) (suc c) (filter (is_ready t.sources) t.interests) (All-filter (is_ready t.sources) (Is (is_of i.descriptor) i) t.interests only) k x within in
      let same : get_or xs k x ≡ i = here (ap (is_of i.descriptor) at ∙ passes) in
      let stood : Contains (map f xs) (f i) = (k, rw length-map within, get_or-map f xs k x (f i) within ∙ ap f same) in
      let answer_is = rw some at answer in
      let now_is = rw some at is in
      rw (answer_is.0, now_is, take_at (map f xs) _ (length (map f xs)) refl) stood

  -- so does one of two waits that have room for more than stand before it
  pub reported_by_two : EachStepMovesForward → ReportedWithinRooms → (k c d : ℕ) → At (is_of i.descriptor) t.interests k → is_ready t.sources i ≡ true → k < c + d →
      Reports i.descriptor t (Wait c) ⊎ Reports i.descriptor (after t (Wait c)) (Wait d)
  reported_by_two forward within k c d at ready below =
      let n = i.descriptor in
      let u = after t (Wait c) in
      let place = position-from_At (is_of n) t.interests k at in
      elim (forward t (Wait c) n k place tt) [
        | inl r ↦ inl r
        | inr r ↦
            let same = waited (Is (is_of n) i) t c only in
            let stays : IsReadyFor n u (Wait d) = (i, found (is_of n) u.interests r.0 i same.1 r.1, rw same.0 ready) in
            elim (within n k t (Wait c ∷ Wait d ∷ []) place (tt, (i, found (is_of n) t.interests k i only place, ready), (tt, stays, tt)) (omega (arith, below))) [
              | inl s ↦ inl s
              | inr (inl s) ↦ inr s
              | inr (inr s) ↦ absurd s
            ]
      ]
