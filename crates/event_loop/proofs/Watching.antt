-- Watch lists beside the owners: how often a descriptor stands in a list.
use Rattle.std.proofs.Common.{◌≡◌, ℕ, ◌+◌, ◌==◌, ◌<◌, ◌≤◌, refl, sym, ap, subst, ◌∙◌, List, Bool, true, false, not, cond, Option, Some, None, inl, inr, arith, length, get_or, take, Contains, nat_cmp, nat_lt, IsSome, All, AllPairs, ◌≢◌, ◌^◌}
use Rattle.std.proofs.lemmas.Bool.{false≢true}
use Rattle.std.proofs.lemmas.Bool.Decides.{nat_tests, eqb_tells}
use Rattle.std.specs.List.Sorted.{IsNonDecreasing}
use Rattle.std.proofs.lemmas.List.Elements.{Contains-get_or}
use Rattle.std.proofs.lemmas.List.Sums.{sum_by_more}
use Rattle.std.specs.Ordering.{eq_by_cmp}
use Rattle.std.specs.Cmp.{nat_cmp_total}
use Rattle.std.specs.FinMap.{get, insert, remove, get-insert, get-remove, same_map, nat_cmp-IsAntisymmetric}
use Rattle.event_loop.specs.Prelude.{Ownership, OwnerMap, owner_of, Registrations, is_id, without_owner, AreOwnedBy}
use Rattle.dispatch_tables.proofs.Owning.{owner_id-cond, owner_of-insert, owner_of-remove, owned_is_some, owner_id}
use Rattle.dispatch_tables.proofs.TimesListed.{flipped, counted, contained, distinct}
use Rattle.dispatch_tables.specs.WatchLists.{times_in, times_watched, HasOneMore, HasNone}
use Rattle.event_loop.specs.Consistency.{AreWatched, AreDescriptors}
use Rattle.event_loop.specs.Releasing.{AreWithout}
use Rattle.dispatch_tables.specs.declared.watch_lists.WatchLists.{WatchLists}
use Rattle.dispatch_tables.proofs.NumberTests.{same_tests, nat_tied}
use Rattle.event_loop.proofs.WithoutOwner.{get-without_owner}

nothing : (b : Bool) → cond {A = ℕ} b 0 0 ≡ 0
nothing true = refl
nothing false = refl

-- what an id's new list, and the new owners, say of one descriptor whose owner was o
pushed_times : (j i : ℕ) (o : Option ℕ) (b : Bool) → (b ≡ true → o ≡ None) → cond {A = ℕ} (is_id j o) 1 0 + cond (j == i) (cond b 1 0) 0 ≡ cond (is_id j (cond b (Some i) o)) 1 0
pushed_times j i o true was = rw (was refl) (grind (arith, nat_tests))
pushed_times j i o false was = omega (arith, nothing (j == i))

removed_times : (j i n : ℕ) (o : Option ℕ) (b : Bool) → (b ≡ true → o ≡ Some i) → n + cond (j == i) (cond b 1 0) 0 ≡ cond {A = ℕ} (is_id j o) 1 0 → n ≡ cond (is_id j (cond b None o)) 1 0
removed_times j i n o true was h = grind (arith, nat_tests, rw (was refl) at h)
removed_times j i n o false was h = omega (arith, nothing (j == i), h)

taken_times : (j i : ℕ) (o : Option ℕ) → cond {A = ℕ} (j == i) 0 (cond (is_id j o) 1 0) ≡ cond (is_id j (cond (is_id i o) None o)) 1 0
taken_times j i None = grind (arith, nat_tests)
taken_times j i (Some k) = grind (arith, nat_tests)

tests_alike : (fd q : ℕ) → (fd == q) ≡ eq_by_cmp nat_cmp q fd
tests_alike fd q = flipped fd q ∙ sym (same_tests q fd)

module _ (owners : OwnerMap) (watched lists : WatchLists) (fd : ℕ) (are : AreWatched owners watched) where
  -- at the descriptor itself, the owner is the one there
  at_fd : (o : Option ℕ) → owner_of owners fd ≡ o → (q : ℕ) → eq_by_cmp nat_cmp q fd ≡ true → owner_of owners q ≡ o
  at_fd o was q e = ap (owner_of owners) (nat_tied q fd e) ∙ was

  -- a free descriptor gets an owner, and stands in that owner's list
  pub watched_pushed : (one : Ownership) → get owners fd ≡ None → HasOneMore watched one.id fd lists → AreWatched (insert owners fd one) lists
  watched_pushed one was has j q =
      has j q
      ∙ ap (λ n. n + cond (j == one.id) (cond (fd == q) 1 0) 0) (are j q)
      ∙ ap (λ b. cond {A = ℕ} (is_id j (owner_of owners q)) 1 0 + cond (j == one.id) (cond b 1 0) 0) (tests_alike fd q)
      ∙ pushed_times j one.id (owner_of owners q) (eq_by_cmp nat_cmp q fd) (at_fd None (ap owner_id was) q)
      ∙ ap (λ o. cond (is_id j o) 1 0) (sym (owner_of-insert owners fd one q))

  module _ (i : ℕ) (was : owner_of owners fd ≡ Some i) where
    -- a descriptor loses its owner, and goes out of that owner's list
    pub watched_removed : HasOneMore lists i fd watched → AreWatched (remove owners fd) lists
    watched_removed has j q =
        removed_times j i (times_watched lists j q) (owner_of owners q) (eq_by_cmp nat_cmp q fd) (at_fd (Some i) was q)
        (ap (λ b. times_watched lists j q + cond (j == i) (cond {A = ℕ} b 1 0) 0) (sym (tests_alike fd q)) ∙ sym (has j q) ∙ are j q)
        ∙ ap (λ o. cond (is_id j o) 1 0) (sym (owner_of-remove owners fd q))

    -- an owner's descriptor stands in its list
    pub listed_once : times_watched watched i fd ≡ 1
    listed_once = are i fd ∙ ap (λ o. cond (is_id i o) 1 0) was ∙ grind (arith, nat_tests)

-- which descriptors are ones from 0 up
pub descriptors_pushed : (owners : OwnerMap) (fd : ℕ) (one : Ownership) → AreDescriptors owners → fd < 2 ^ 31 → AreDescriptors (insert owners fd one)
descriptors_pushed owners fd one are below q some = of_test (eq_by_cmp nat_cmp q fd) refl
  where
    of_test : (b : Bool) → eq_by_cmp nat_cmp q fd ≡ b → q < 2 ^ 31
    of_test true e = subst (λ x. x < 2 ^ 31) (sym (nat_tied q fd e)) below
    of_test false e = are q (subst (λ (o : Option Ownership). IsSome o) (get-insert nat_cmp_total owners fd one q ∙ ap (λ b. cond b (Some one) (get owners q)) e) some)

still_some : {A : Type 0} (b : Bool) (o : Option A) → IsSome (cond b None o) → IsSome o
still_some true o h = absurd (false≢true h)
still_some false o h = h

pub descriptors_removed : (owners : OwnerMap) (fd : ℕ) → AreDescriptors owners → AreDescriptors (remove owners fd)
descriptors_removed owners fd are q some = are q (still_some (eq_by_cmp nat_cmp q fd) (get owners q) (subst (λ (o : Option Ownership). IsSome o) (get-remove nat_cmp_total owners fd q) some))

-- the descriptors of a whole list go
is_one : {A : Type 0} (b : Bool) (o : Option A) → cond (nat_lt 0 (cond b 1 0)) None o ≡ cond b None o
is_one true o = refl
is_one false o = refl

swapped : {A : Type 0} (b : Bool) (o : Option A) → cond b None o ≡ cond (not b) o None
swapped true o = refl
swapped false o = refl

module _ (owners after : OwnerMap) (watched : WatchLists) (i : ℕ) (are : AreWatched owners watched) (fds : List ℕ) (is : (fd : ℕ) → times_in fds fd ≡ times_watched watched i fd) (gone : AreWithout fds owners after) where
  owner_after : (q : ℕ) → get after q ≡ cond (is_id i (owner_of owners q)) None (get owners q)
  owner_after q = gone q ∙ ap (λ n. cond (nat_lt 0 n) None (get owners q)) (is q ∙ are i q) ∙ is_one (is_id i (owner_of owners q)) (get owners q)

  pub watched_taken : (lists : WatchLists) → HasNone watched i lists → AreWatched after lists
  watched_taken lists has j q =
      has j q
      ∙ ap (λ n. cond (j == i) 0 n) (are j q)
      ∙ taken_times j i (owner_of owners q)
      ∙ ap (λ o. cond (is_id j o) 1 0) (sym (ap owner_id (owner_after q) ∙ owner_id-cond (is_id i (owner_of owners q)) None (get owners q)))

  pub descriptors_taken : AreDescriptors owners → AreDescriptors after
  descriptors_taken below q some = below q (still_some (is_id i (owner_of owners q)) (get owners q) (subst (λ (o : Option Ownership). IsSome o) (owner_after q) some))

  pub owners_taken : after ≡ without_owner i owners
  owners_taken = same_map nat_cmp_total nat_cmp-IsAntisymmetric _ _ (λ q. owner_after q ∙ swapped (is_id i (owner_of owners q)) (get owners q) ∙ sym (get-without_owner i owners q))

-- one more descriptor taken out
without_answer : {A : Type 0} (b : Bool) (n : ℕ) (o : Option A) → cond b None (cond (nat_lt 0 n) None o) ≡ cond (nat_lt 0 (n + cond b 1 0)) None o
without_answer true n o = grind (arith, nat_tests)
without_answer false n o = grind (arith, nat_tests)

pub without_more : (before now : OwnerMap) (fds : List ℕ) (k : ℕ) → k < length fds → AreWithout (take k fds) before now → AreWithout (take (k + 1) fds) before (remove now (get_or fds k 0))
without_more before now fds k below so_far q =
    let fd = get_or fds k 0 in
    get-remove nat_cmp_total now fd q
    ∙ ap (λ b. cond b None (get now q)) (sym (tests_alike fd q))
    ∙ ap (λ o. cond (fd == q) None o) (so_far q)
    ∙ without_answer (fd == q) (times_in (take k fds) q) (get before q)
    ∙ ap (λ n. cond (nat_lt 0 n) None (get before q)) (sym (sum_by_more (λ x. cond (x == q) 1 0) fds k 0 below))

-- a list that has each descriptor of the id once; where it doesn't fall, it ascends
module _ (owners : OwnerMap) (fds : List ℕ) (i : ℕ) (are : (fd : ℕ) → times_in fds fd ≡ cond (is_id i (owner_of owners fd)) 1 0) where
  at_most_one : (b : Bool) → cond {A = ℕ} b 1 0 ≤ 1
  at_most_one true = omega arith
  at_most_one false = omega arith

  owner_is : (o : Option ℕ) → 0 < cond {A = ℕ} (is_id i o) 1 0 → o ≡ Some i
  owner_is None h = absurd (omega arith)
  owner_is (Some j) h = elim (eqb_tells j i) [ inl p ↦ ap Some p.1 | inr p ↦ absurd (grind (arith, h, p.0)) ]

  own_once : (o : Option ℕ) → o ≡ Some i → 0 < cond {A = ℕ} (is_id i o) 1 0
  own_once o is = rw is (grind (arith, nat_tests))

  listed_owner : (fd : ℕ) → Contains fds fd → owner_of owners fd ≡ Some i
  listed_owner fd c = owner_is (owner_of owners fd) (omega (arith, counted fds fd c, are fd))

  each_once : AllPairs (λ a b. a ≢ b) fds
  each_once = distinct fds (λ q. omega (arith, are q, at_most_one (is_id i (owner_of owners q))))

  ascending : IsNonDecreasing fds → AllPairs (λ a b. a < b) fds
  ascending rising j k d before within = omega (arith, each_once j k d before within, rising j k d (omega arith) within)

  pub owned_in_order : IsNonDecreasing fds → (registrations : Registrations) → registrations.owners ≡ owners → AreOwnedBy i registrations fds
  owned_in_order rising registrations is = (
    ascending rising,
    λ fd. (
      λ c. ap (λ m. owner_of m fd) is ∙ listed_owner fd c,
      λ owns. contained fds fd (omega (arith, are fd, own_once (owner_of owners fd) (sym (ap (λ m. owner_of m fd) is) ∙ owns))),
    ),
  )

  pub listed_are_descriptors : AreDescriptors owners → All (λ fd. fd < 2 ^ 31) fds
  listed_are_descriptors below k d l = below (get_or fds k d) (owned_is_some (get owners (get_or fds k d)) i (listed_owner (get_or fds k d) (Contains-get_or fds k d l)))
