-- How many owners there are, and how many of them at a priority above the lowest.
use Rattle.std.proofs.Common.{◌≡◌, ℕ, ◌+◌, ◌-◌, ◌≤◌, nat_lt, refl, sym, ap, ◌∙◌, Bool, true, false, cond, Option, Some, None, is_some, arith, nat_cmp, inl, inr, true≢false}
use Rattle.std.proofs.lemmas.Bool.{cases_lt, lt-ltb}
use Rattle.std.specs.Ordering.{eq_by_cmp}
use Rattle.std.specs.Int.{from_bool}
use Rattle.std.specs.Cmp.{nat_cmp_total}
use Rattle.std.specs.FinMap.{get, insert, remove, len, get-insert, get-remove, get-retain_keys, get-empty, same_map, empty_of_len, nat_cmp-IsAntisymmetric, empty, len-empty}
use Rattle.dispatch_tables.specs.Priority.{number_of}
use Rattle.dispatch_tables.specs.Ownership.{Ownership, OwnerMap, class_in}
use Rattle.dispatch_tables.specs.Owners.{raised_in, AreCounted}
use Rattle.dispatch_tables.proofs.Counting.{held_one, one_fewer, none_fewer, one_more_owner}
use Rattle.dispatch_tables.proofs.NumberTests.{nat_tied}
use Rattle.dispatch_tables.proofs.RetainedKeys.{len-retain_keys}
use Rattle.dispatch_tables.proofs.Owning.{class_by}

-- an ownership above the lowest priority
abbrev if_raised : Option Ownership → Option Ownership
if_raised o = cond (nat_lt 0 (class_by o)) o None

get-raised_in : (owners : OwnerMap) (q : ℕ) → get (raised_in owners) q ≡ if_raised (get owners q)
get-raised_in owners q = get-retain_keys owners _ q (λ x e. ap (λ y. nat_lt 0 (class_in owners y)) (sym (nat_cmp-IsAntisymmetric q x e)))

raised_cond : (b : Bool) (o p : Option Ownership) → if_raised (cond b o p) ≡ cond b (if_raised o) (if_raised p)
raised_cond true o p = refl
raised_cond false o p = refl

same_where_free : (b : Bool) (o : Option Ownership) → (b ≡ true → o ≡ None) → cond b None (if_raised o) ≡ if_raised o
same_where_free true o free = sym (ap if_raised (free refl))
same_where_free false o free = refl

pub from_bool_at_most : (b : Bool) → from_bool b ≤ 1
from_bool_at_most true = omega arith
from_bool_at_most false = omega arith

raised_empty : raised_in empty ≡ empty
raised_empty = same_map nat_cmp_total nat_cmp-IsAntisymmetric _ _ (λ q. get-raised_in empty q ∙ ap if_raised (get-empty nat_cmp q) ∙ sym (get-empty nat_cmp q))

-- no owner
pub none_counted : AreCounted empty 0 0
none_counted = (sym (len-empty nat_cmp Ownership), sym (ap len raised_empty ∙ len-empty nat_cmp Ownership))

module _ (owners : OwnerMap) (owned raised : ℕ) (counted : AreCounted owners owned raised) where
  pub raised_at_most : raised ≤ owned
  raised_at_most = omega (arith, counted.0, counted.1, len-retain_keys owners (λ fd. nat_lt 0 (class_in owners fd)))

  -- where none is above the lowest, each descriptor is of class 0
  class_none : (o : Option Ownership) → if_raised o ≡ None → class_by o ≡ 0
  class_none None h = refl
  class_none (Some one) h = elim (cases_lt 0 (number_of one.priority)) [
    | inl l ↦ let s : Some one ≡ None = sym (ap (λ t. cond t (Some one) None) (lt-ltb 0 (number_of one.priority) l)) ∙ h in absurd (true≢false (ap is_some s))
    | inr l ↦ omega (arith, l)
  ]

  pub all_lowest : raised ≡ 0 → (fd : ℕ) → class_in owners fd ≡ 0
  all_lowest none fd = class_none (get owners fd) (sym (get-raised_in owners fd) ∙ ap (λ m. get m fd) (empty_of_len (raised_in owners) (sym counted.1 ∙ none)) ∙ get-empty nat_cmp fd)

  module _ (fd : ℕ) where
    -- a free descriptor gets an owner
    module _ (one : Ownership) (free : get owners fd ≡ None) where
      one_more : owned + 1 ≡ len (insert owners fd one)
      one_more = ap (λ n. n + 1) counted.0 ∙ sym (one_more_owner owners fd one free)

      given : (q : ℕ) → get (raised_in (insert owners fd one)) q ≡ cond (eq_by_cmp nat_cmp q fd) (if_raised (Some one)) (if_raised (get owners q))
      given q = get-raised_in (insert owners fd one) q ∙ ap if_raised (get-insert nat_cmp_total owners fd one q) ∙ raised_cond (eq_by_cmp nat_cmp q fd) (Some one) (get owners q)

      raised_more : (b : Bool) → ((q : ℕ) → get (raised_in (insert owners fd one)) q ≡ cond (eq_by_cmp nat_cmp q fd) (cond b (Some one) None) (if_raised (get owners q)))
          → raised + from_bool b ≡ len (raised_in (insert owners fd one))
      raised_more true is =
          let same = same_map nat_cmp_total nat_cmp-IsAntisymmetric (raised_in (insert owners fd one)) (insert (raised_in owners) fd one) (λ q.
          is q ∙ sym (get-insert nat_cmp_total (raised_in owners) fd one q ∙ ap (λ o. cond (eq_by_cmp nat_cmp q fd) (Some one) o) (get-raised_in owners q))) in
          ap (λ n. n + 1) counted.1 ∙ sym (ap len same ∙ one_more_owner (raised_in owners) fd one (get-raised_in owners fd ∙ ap if_raised free))
      raised_more false is =
          let same = same_map nat_cmp_total nat_cmp-IsAntisymmetric (raised_in (insert owners fd one)) (raised_in owners) (λ q.
          is q ∙ same_where_free (eq_by_cmp nat_cmp q fd) (get owners q) (λ t. ap (get owners) (nat_tied q fd t) ∙ free) ∙ sym (get-raised_in owners q)) in
          omega (arith, counted.1, ap len same)

      pub counted_more : AreCounted (insert owners fd one) (owned + 1) (raised + from_bool (nat_lt 0 (number_of one.priority)))
      counted_more = (one_more, raised_more (nat_lt 0 (number_of one.priority)) given)

    raised_without : raised_in (remove owners fd) ≡ remove (raised_in owners) fd
    raised_without = same_map nat_cmp_total nat_cmp-IsAntisymmetric _ _ (λ q.
        get-raised_in (remove owners fd) q
        ∙ ap if_raised (get-remove nat_cmp_total owners fd q)
        ∙ raised_cond (eq_by_cmp nat_cmp q fd) None (get owners q)
        ∙ sym (get-remove nat_cmp_total (raised_in owners) fd q ∙ ap (λ o. cond (eq_by_cmp nat_cmp q fd) None o) (get-raised_in owners q)))

    raised_there : (o : Option Ownership) → o ≡ get owners fd → get (raised_in owners) fd ≡ if_raised o
    raised_there o is = get-raised_in owners fd ∙ ap if_raised (sym is)

    -- a descriptor loses its owner
    module _ (one : Ownership) (has : Some one ≡ get owners fd) where
      held : is_some (get owners fd) ≡ true
      held = ap is_some (sym has)

      pub owned_some : 1 ≤ owned
      owned_some = omega (arith, counted.0, held_one owners fd held)

      one_owner_fewer : owned - 1 ≡ len (remove owners fd)
      one_owner_fewer = ap (λ n. n - 1) counted.0 ∙ sym (one_fewer owners fd held)

      raised_fewer : (b : Bool) → get (raised_in owners) fd ≡ cond b (Some one) None → (from_bool b ≤ raised) × (raised - from_bool b ≡ len (remove (raised_in owners) fd))
      raised_fewer true is =
          let some = ap is_some is in
          (omega (arith, counted.1, held_one (raised_in owners) fd some), ap (λ n. n - 1) counted.1 ∙ sym (one_fewer (raised_in owners) fd some))
      raised_fewer false is = (omega arith, omega (arith, counted.1, none_fewer (raised_in owners) fd (ap is_some is)))

      fewer : (from_bool (nat_lt 0 (number_of one.priority)) ≤ raised) × (raised - from_bool (nat_lt 0 (number_of one.priority)) ≡ len (remove (raised_in owners) fd))
      fewer = raised_fewer (nat_lt 0 (number_of one.priority)) (raised_there (Some one) has)

      pub raised_some : from_bool (nat_lt 0 (number_of one.priority)) ≤ raised
      raised_some = fewer.0

      pub counted_fewer : AreCounted (remove owners fd) (owned - 1) (raised - from_bool (nat_lt 0 (number_of one.priority)))
      counted_fewer = (one_owner_fewer, fewer.1 ∙ sym (ap len raised_without))

    pub lost_none : None ≡ get owners fd → AreCounted (remove owners fd) owned raised
    lost_none has = (counted.0 ∙ sym (none_fewer owners fd (ap is_some (sym has))), counted.1 ∙ sym (ap len raised_without ∙ none_fewer (raised_in owners) fd (ap is_some (raised_there None has))))
