-- The owners in a vector and a map, as one finite map.
use Rattle.std.proofs.Common.{◌≡◌, ℕ, zero, suc, ◌+◌, ◌==◌, ◌<◌, ◌≤◌, refl, sym, ap, ◌∙◌, List, [], ◌∷◌, ◌++◌, Bool, true, false, cond, Option, Some, None, option_map, arith, length, nat_cmp, inl, inr}
use Rattle.std.specs.Option.{option_or}
use Rattle.std.proofs.lemmas.Bool.Decides.{nat_tests, eqb_tells}
use Rattle.std.specs.Ordering.{eq_by_cmp}
use Rattle.std.specs.Cmp.{nat_cmp_total}
use Rattle.std.specs.FinMap.{get, insert, remove, find, get-from_entries, get-insert, get-remove, same_map, nat_cmp-IsAntisymmetric}
use Rattle.std.specs.Map.{lookup}
use Rattle.dispatch_tables.specs.Ownership.{Ownership}
use Rattle.dispatch_tables.specs.Owners.{ownership_of, ownership_at, owner_in, ownership_in, low_entries, high_entries, owners_in, AreApart, HasOwnerAt, HaveSameOwners, IsOwnerAt}
use Rattle.dispatch_tables.specs.declared.owners.OwnerSlot.{OwnerSlot}
use Rattle.dispatch_tables.specs.declared.owners.OwnerSlot.TheVariants.{Vacant, Owned}
use Rattle.dispatch_tables.specs.declared.owners.Owner.{Owner}
use Rattle.dispatch_tables.specs.declared.priority.Priority.{Priority}
use Rattle.dispatch_tables.proofs.NumberTests.{same_tests}
use Rattle.dispatch_tables.proofs.TimesListed.{flipped}

found : (q k : ℕ) (x : Ownership) (entries : List (ℕ × Ownership)) → find nat_cmp q ((k, x) ∷ entries) ≡ cond (q == k) (Some x) (find nat_cmp q entries)
found q k x entries = ap (λ b. cond b (Some x) (find nat_cmp q entries)) (same_tests q k)

first_of_cond : (b : Bool) (x : Ownership) (o p : Option Ownership) → option_or (cond b (Some x) o) p ≡ cond b (Some x) (option_or o p)
first_of_cond true x o p = refl
first_of_cond false x o p = refl

find_append : (q : ℕ) (xs ys : List (ℕ × Ownership)) → find nat_cmp q (xs ++ ys) ≡ option_or (find nat_cmp q xs) (find nat_cmp q ys)
find_append q [] ys = refl
find_append q (x ∷ xs) ys =
    ap (λ o. cond (eq_by_cmp nat_cmp q x.0) (Some x.1) o) (find_append q xs ys) ∙ sym (first_of_cond (eq_by_cmp nat_cmp q x.0) x.1 (find nat_cmp q xs) (find nat_cmp q ys))

one_on : (k q : ℕ) → k + suc q ≡ (k + 1) + q
one_on k q = omega arith

apart_from : (k q : ℕ) → (k + suc q == k) ≡ false
apart_from k q = grind (arith, nat_tests)

from_0 : (q : ℕ) → q ≡ 0 + q
from_0 q = omega arith

first_alone : (o : Option Ownership) → option_or o None ≡ o
first_alone None = refl
first_alone (Some x) = refl

first_taken : (b : Bool) (o p : Option Ownership) → (b ≡ true → p ≡ None) → option_or (cond b None o) p ≡ cond b None (option_or o p)
first_taken true o p none = none refl
first_taken false o p none = refl

second_changed : (b : Bool) (new o p : Option Ownership) → (b ≡ true → o ≡ None) → option_or o (cond b new p) ≡ cond b new (option_or o p)
second_changed true new o p none = ap (λ x. option_or x new) (none refl)
second_changed false new o p none = refl

none_past_end : (low : List OwnerSlot) (q : ℕ) → length low ≤ q → ownership_at low q ≡ None
none_past_end [] q h = refl
none_past_end (o ∷ low) zero h = absurd (omega (arith, h))
none_past_end (o ∷ low) (suc q) h = none_past_end low q (omega (arith, h))

-- without its place
abbrev placeless : Option Owner → Option Ownership
placeless = option_map ownership_of

placeless_cond : (b : Bool) (o p : Option Owner) → placeless (cond b o p) ≡ cond b (placeless o) (placeless p)
placeless_cond true o p = refl
placeless_cond false o p = refl

-- the vector's part
abbrev one_of : ℕ → Priority → Ownership
one_of id priority = record { id = id; priority = priority }

find_before : (q k : ℕ) (low : List OwnerSlot) → q < k → find nat_cmp q (low_entries k low) ≡ None
find_before q k [] below = refl
find_before q k (Vacant ∷ low) below = find_before q (k + 1) low (omega (arith, below))
find_before q k (Owned priority place id index ∷ low) below =
    found q k (one_of id priority) (low_entries (k + 1) low) ∙ ap (λ o. cond (q == k) (Some (one_of id priority)) o) (find_before q (k + 1) low (omega (arith, below))) ∙ grind (arith, nat_tests, below)

find_low : (q k : ℕ) (low : List OwnerSlot) → find nat_cmp (k + q) (low_entries k low) ≡ ownership_at low q
find_low q k [] = refl
find_low zero k (Vacant ∷ low) = find_before (k + 0) (k + 1) low (omega arith)
find_low (suc q) k (Vacant ∷ low) = ap (λ n. find nat_cmp n (low_entries (k + 1) low)) (one_on k q) ∙ find_low q (k + 1) low
find_low zero k (Owned priority place id index ∷ low) = found (k + 0) k (one_of id priority) (low_entries (k + 1) low) ∙ grind (arith, nat_tests)
find_low (suc q) k (Owned priority place id index ∷ low) =
    found (k + suc q) k (one_of id priority) (low_entries (k + 1) low)
    ∙ ap (λ b. cond b (Some (one_of id priority)) (find nat_cmp (k + suc q) (low_entries (k + 1) low))) (apart_from k q)
    ∙ ap (λ n. find nat_cmp n (low_entries (k + 1) low)) (one_on k q)
    ∙ find_low q (k + 1) low

find_low_from_0 : (low : List OwnerSlot) (q : ℕ) → find nat_cmp q (low_entries 0 low) ≡ ownership_at low q
find_low_from_0 low q = ap (λ n. find nat_cmp n (low_entries 0 low)) (from_0 q) ∙ find_low q 0 low

-- the map's part
find_high : (q : ℕ) (high : List (ℕ × Owner)) → find nat_cmp q (high_entries high) ≡ ownership_in high q
find_high q [] = refl
find_high q (e ∷ high) =
    found q e.0 (ownership_of e.1) (high_entries high) ∙ ap (λ o. cond (q == e.0) (Some (ownership_of e.1)) o) (find_high q high)
    ∙ sym (placeless_cond (q == e.0) (Some e.1) (lookup (λ k. q == k) high))

ownership_is : (low : List OwnerSlot) (high : List (ℕ × Owner)) (q : ℕ) → get (owners_in low high) q ≡ option_or (ownership_at low q) (ownership_in high q)
ownership_is low high q =
    get-from_entries nat_cmp_total (low_entries 0 low ++ high_entries high) q
    ∙ find_append q (low_entries 0 low) (high_entries high)
    ∙ ap (λ o. option_or o (find nat_cmp q (high_entries high))) (find_low_from_0 low q)
    ∙ ap (λ o. option_or (ownership_at low q) o) (find_high q high)

-- a low descriptor's owner is the vector's, another's is the map's
pub low_owner : (low : List OwnerSlot) (high : List (ℕ × Owner)) (q : ℕ) (o : Option Owner) → AreApart low high → q < 1048576 → placeless o ≡ ownership_at low q → IsOwnerAt (owners_in low high) q o
low_owner low high q o apart below is = is ∙ sym (ownership_is low high q ∙ ap (λ p. option_or (ownership_at low q) (placeless p)) (apart.none_low q below) ∙ first_alone (ownership_at low q))

pub high_owner : (low : List OwnerSlot) (high : List (ℕ × Owner)) (q : ℕ) (o : Option Owner) → AreApart low high → 1048576 ≤ q → o ≡ owner_in high q → IsOwnerAt (owners_in low high) q o
high_owner low high q o apart above is = ap placeless is ∙ sym (ownership_is low high q ∙ ap (λ p. option_or p (ownership_in high q)) (none_past_end low q (omega (arith, apart.low_alone, above))))

-- another owner at one descriptor, in the one or the other
module _ (low lows : List OwnerSlot) (high highs : List (ℕ × Owner)) (fd : ℕ) (apart : AreApart low high) where
  tests_alike : (q : ℕ) → (fd == q) ≡ eq_by_cmp nat_cmp q fd
  tests_alike q = flipped fd q ∙ sym (same_tests q fd)

  none_high : fd < 1048576 → (q : ℕ) → (fd == q) ≡ true → ownership_in high q ≡ None
  none_high below q e = ap placeless (apart.none_low q (grind (arith, nat_tests, below, e)))

  none_in_low : 1048576 ≤ fd → (q : ℕ) → (fd == q) ≡ true → ownership_at low q ≡ None
  none_in_low above q e = none_past_end low q (grind (arith, nat_tests, apart.low_alone, above, e))

  pub owner_put_low : (one : Ownership) → HasOwnerAt low fd (Some one) lows → owners_in lows high ≡ insert (owners_in low high) fd one
  owner_put_low one has = same_map nat_cmp_total nat_cmp-IsAntisymmetric _ _ (λ q.
      ownership_is lows high q
      ∙ ap (λ o. option_or o (ownership_in high q)) (has q)
      ∙ first_of_cond (fd == q) one (ownership_at low q) (ownership_in high q)
      ∙ ap (λ b. cond b (Some one) (option_or (ownership_at low q) (ownership_in high q))) (tests_alike q)
      ∙ sym (get-insert nat_cmp_total (owners_in low high) fd one q ∙ ap (λ o. cond (eq_by_cmp nat_cmp q fd) (Some one) o) (ownership_is low high q)))

  pub owner_taken_low : fd < 1048576 → HasOwnerAt low fd None lows → owners_in lows high ≡ remove (owners_in low high) fd
  owner_taken_low below has = same_map nat_cmp_total nat_cmp-IsAntisymmetric _ _ (λ q.
      ownership_is lows high q
      ∙ ap (λ o. option_or o (ownership_in high q)) (has q)
      ∙ first_taken (fd == q) (ownership_at low q) (ownership_in high q) (none_high below q)
      ∙ ap (λ b. cond b None (option_or (ownership_at low q) (ownership_in high q))) (tests_alike q)
      ∙ sym (get-remove nat_cmp_total (owners_in low high) fd q ∙ ap (λ o. cond (eq_by_cmp nat_cmp q fd) None o) (ownership_is low high q)))

  module _ (new : Option Owner) (above : 1048576 ≤ fd) (has : (q : ℕ) → owner_in highs q ≡ cond (fd == q) new (owner_in high q)) where
    changed_high : (q : ℕ) → get (owners_in low highs) q ≡ cond (eq_by_cmp nat_cmp q fd) (placeless new) (get (owners_in low high) q)
    changed_high q =
        ownership_is low highs q
        ∙ ap (λ o. option_or (ownership_at low q) o) (ap placeless (has q) ∙ placeless_cond (fd == q) new (owner_in high q))
        ∙ second_changed (fd == q) (placeless new) (ownership_at low q) (ownership_in high q) (none_in_low above q)
        ∙ ap (λ b. cond b (placeless new) (option_or (ownership_at low q) (ownership_in high q))) (tests_alike q)
        ∙ ap (λ o. cond (eq_by_cmp nat_cmp q fd) (placeless new) o) (sym (ownership_is low high q))

    pub owner_put_high : (owner : Owner) → new ≡ Some owner → owners_in low highs ≡ insert (owners_in low high) fd (ownership_of owner)
    owner_put_high owner is = same_map nat_cmp_total nat_cmp-IsAntisymmetric _ _ (λ q.
        changed_high q ∙ ap (λ o. cond (eq_by_cmp nat_cmp q fd) (placeless o) (get (owners_in low high) q)) is ∙ sym (get-insert nat_cmp_total (owners_in low high) fd (ownership_of owner) q))

    pub owner_taken_high : new ≡ None → owners_in low highs ≡ remove (owners_in low high) fd
    owner_taken_high is = same_map nat_cmp_total nat_cmp-IsAntisymmetric _ _ (λ q.
        changed_high q ∙ ap (λ o. cond (eq_by_cmp nat_cmp q fd) (placeless o) (get (owners_in low high) q)) is ∙ sym (get-remove nat_cmp_total (owners_in low high) fd q))

    other_below : (q : ℕ) → q < 1048576 → (fd == q) ≡ false
    other_below q below = grind (arith, nat_tests, above, below)

    pub still_apart : AreApart low highs
    still_apart = record {
      low_alone = apart.low_alone;
      none_low = λ q below. has q ∙ ap (λ b. cond b new (owner_in high q)) (other_below q below) ∙ apart.none_low q below;
    }

  -- the same owners, wherever they are looked for
  pub owners_noted_low : HaveSameOwners (ownership_at low) (ownership_at lows) → owners_in lows high ≡ owners_in low high
  owners_noted_low same = same_map nat_cmp_total nat_cmp-IsAntisymmetric _ _ (λ q. ownership_is lows high q ∙ ap (λ o. option_or o (ownership_in high q)) (same q) ∙ sym (ownership_is low high q))

  module _ (same : HaveSameOwners (ownership_in high) (ownership_in highs)) where
    pub owners_noted_high : owners_in low highs ≡ owners_in low high
    owners_noted_high = same_map nat_cmp_total nat_cmp-IsAntisymmetric _ _ (λ q. ownership_is low highs q ∙ ap (λ o. option_or (ownership_at low q) o) (same q) ∙ sym (ownership_is low high q))

    none_from : (o : Option Owner) → placeless o ≡ None → o ≡ None
    none_from None e = refl
    none_from (Some owner) e = cc

    pub noted_apart : AreApart low highs
    noted_apart = record { low_alone = apart.low_alone; none_low = λ q below. none_from (owner_in highs q) (same q ∙ ap placeless (apart.none_low q below)) }

-- one owner of the map is looked for elsewhere
pub noted_in : (high highs : List (ℕ × Owner)) (fd : ℕ) (was owner : Owner) → Some was ≡ owner_in high fd → ownership_of owner ≡ ownership_of was → ((q : ℕ) → owner_in highs q ≡ cond (fd == q) (Some owner) (owner_in high q)) → HaveSameOwners (ownership_in high) (ownership_in highs)
noted_in high highs fd was owner held same has q = ap placeless (has q) ∙ placeless_cond (fd == q) (Some owner) (owner_in high q) ∙ elim (eqb_tells fd q) [
  | inl p ↦ ap (λ b. cond b (Some (ownership_of owner)) (ownership_in high q)) p.0 ∙ ap Some same ∙ ap placeless held ∙ ap (ownership_in high) p.1
  | inr p ↦ ap (λ b. cond b (Some (ownership_of owner)) (ownership_in high q)) p.0
]
