-- There are at most as many owners as descriptors.
use Rattle.std.proofs.Common.{◌≡◌, ℕ, zero, suc, ◌-◌, ◌<◌, ◌≤◌, ◌^◌, refl, sym, ap, subst, ◌∙◌, Bool, true, false, Option, Some, None, IsSome, arith, cond, inl, inr}
use Rattle.std.proofs.lemmas.Bool.{false≢true, cases_lt}
use Rattle.std.specs.Ordering.{eq_by_cmp, nat_cmp}
use Rattle.std.specs.Cmp.{nat_cmp_total}
use Rattle.std.specs.FinMap.{get, remove, len, empty, contains_key, get-remove, get-empty, len-remove, len-empty, same_map, nat_cmp-IsAntisymmetric}
use Rattle.dispatch_tables.specs.Ownership.{Ownership, OwnerMap}
use Rattle.dispatch_tables.proofs.NumberTests.{same_tests}
use Rattle.event_loop.specs.Consistency.{AreDescriptors}

nobody : (o : Option Ownership) → (IsSome o → ⊥) → o ≡ None
nobody None none = refl
nobody (Some one) none = absurd (none refl)

-- what is below n + 1, and isn't n, is below n
left_below : (b : Bool) (o : Option Ownership) (q n : ℕ) → (q ≡ n → b ≡ true) → (IsSome o → q < suc n) → IsSome (cond b None o) → q < n
left_below true o q n tied below some = absurd (false≢true some)
left_below false o q n tied below some = elim (cases_lt q n) [
  | inl l ↦ l
  | inr l ↦ absurd (false≢true (tied (omega (arith, below some, l))))
]

one_more_at_most : (b : Bool) (long n : ℕ) → cond b (long - 1) long ≤ n → long ≤ suc n
one_more_at_most true long n h = omega (arith, h)
one_more_at_most false long n h = omega (arith, h)

tied_to : (q n : ℕ) → q ≡ n → eq_by_cmp nat_cmp q n ≡ true
tied_to q n e = same_tests q n ∙ grind (arith, e)

len_below : (n : ℕ) (owners : OwnerMap) → ((q : ℕ) → IsSome (get owners q) → q < n) → len owners ≤ n
len_below zero owners below =
    let none : owners ≡ empty = same_map nat_cmp_total nat_cmp-IsAntisymmetric owners empty (λ q. nobody (get owners q) (λ some. omega (arith, below q some)) ∙ sym (get-empty nat_cmp q)) in
    omega (arith, ap len none, len-empty nat_cmp Ownership)
len_below (suc n) owners below =
    let left : (q : ℕ) → IsSome (get (remove owners n) q) → q < n = λ q some.
    left_below (eq_by_cmp nat_cmp q n) (get owners q) q n (tied_to q n) (below q) (subst (λ (o : Option Ownership). IsSome o) (get-remove nat_cmp_total owners n q) some) in
    one_more_at_most (contains_key owners n) (len owners) n (omega (arith, len_below n (remove owners n) left, len-remove nat_cmp_total owners n))

pub owners_at_most : (owners : OwnerMap) → AreDescriptors owners → len owners ≤ 2 ^ 31
owners_at_most owners are = len_below (2 ^ 31) owners are
