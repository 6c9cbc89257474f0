-- Maps with only one id's entries.
use Rattle.std.proofs.Common.{◌≡◌, ◌≢◌, ℕ, ◌==◌, cond, Bool, true, false, not, refl, sym, ◌∙◌, ap, Some, None, Option, nat_cmp, eq-eqb, eqb-true, ne_eqb, arith}
use Rattle.std.specs.Ordering.{eq_by_cmp}
use Rattle.std.specs.FinMap.{FinMap, get, insert, remove, same_map, get-insert, get-remove, get-retain_keys, nat_cmp-IsAntisymmetric}
use Rattle.std.specs.Cmp.{nat_cmp_total}
use Rattle.std.proofs.lemmas.Bool.Decides.{nat_tests}
use Rattle.event_loop.specs.Prelude.{Ownership, OwnerMap, owner_of, is_id, without_owner, Event, Registrations}
use Rattle.dispatch_tables.proofs.NumberTests.{nat_tied}
use Rattle.dispatch_tables.proofs.Owning.{owner_id-cond, owner_id}
use Rattle.event_loop.proofs.WithoutOwner.{get-without_owner}
use Rattle.event_manager.specs.Projection.{owned_by, only_values}
use Rattle.dispatch_tables.specs.declared.priority.Priority.{Priority}

-- with the descriptor of an event owned by id i, at this priority
abbrev pub entered : ℕ → Event → Priority → Registrations → Registrations
entered i e priority registrations = record registrations { owners = insert registrations.owners e.fd (record { id = i; priority = priority }) }

-- an ownership, if it is id i's; if it isn't id j's
abbrev if_own : ℕ → Option Ownership → Option Ownership
if_own i o = cond (is_id i (owner_id o)) o None

abbrev unless_own : ℕ → Option Ownership → Option Ownership
unless_own j o = cond (not (is_id j (owner_id o))) o None

if_own-cond : (i : ℕ) (b : Bool) (o p : Option Ownership) → if_own i (cond b o p) ≡ cond b (if_own i o) (if_own i p)
if_own-cond i true o p = refl
if_own-cond i false o p = refl

if_own-other : (i j : ℕ) (o : Option Ownership) → j ≢ i → owner_id o ≡ Some j → if_own i o ≡ None
if_own-other i j o differ is = ap (λ p. cond (is_id i p) o None) is ∙ ap (λ t. cond t o None) (ne_eqb j i differ)

none_already : (b : Bool) (o : Option Ownership) → (b ≡ true → o ≡ None) → cond b None o ≡ o
none_already true o none = sym (none refl)
none_already false o none = refl

-- what a map of one id's descriptors answers
pub get-owned_by : (i : ℕ) (owners : OwnerMap) (fd : ℕ) → get (owned_by i owners) fd ≡ if_own i (get owners fd)
get-owned_by i owners fd = get-retain_keys owners _ fd (λ x e. ap (λ y. is_id i (owner_of owners y)) (sym (nat_cmp-IsAntisymmetric fd x e)))

pub owner_of-owned_by : (i : ℕ) (owners : OwnerMap) (fd : ℕ) → owner_of (owned_by i owners) fd ≡ cond (is_id i (owner_of owners fd)) (owner_of owners fd) None
owner_of-owned_by i owners fd = ap owner_id (get-owned_by i owners fd) ∙ owner_id-cond (is_id i (owner_of owners fd)) (get owners fd) None

-- whose a descriptor is tells that map too
own_test : (i : ℕ) (o : Option ℕ) → is_id i (cond (is_id i o) o None) ≡ is_id i o
own_test i None = refl
own_test i (Some k) = grind (arith, nat_tests)

pub is_id-owned_by : (i : ℕ) (owners : OwnerMap) (fd : ℕ) → is_id i (owner_of (owned_by i owners) fd) ≡ is_id i (owner_of owners fd)
is_id-owned_by i owners fd = ap (is_id i) (owner_of-owned_by i owners fd) ∙ own_test i (owner_of owners fd)

pub get_only : {V : Type 0} (i : ℕ) (values : FinMap nat_cmp V) (j : ℕ) → get (only_values i values) j ≡ cond (j == i) (get values j) None
get_only i values j = get-retain_keys values _ j (λ x e. ap (λ y. y == i) (sym (nat_cmp-IsAntisymmetric j x e)))

module _ (i : ℕ) (owners : OwnerMap) where
  inserted : (fd : ℕ) (one : Ownership) (shown : Option Ownership) → if_own i (Some one) ≡ shown → (q : ℕ) → get (owned_by i (insert owners fd one)) q ≡ cond (eq_by_cmp nat_cmp q fd) shown (if_own i (get owners q))
  inserted fd one shown is q =
      get-owned_by i (insert owners fd one) q ∙ ap (if_own i) (get-insert nat_cmp_total owners fd one q) ∙ if_own-cond i (eq_by_cmp nat_cmp q fd) (Some one) (get owners q)
      ∙ ap (λ o. cond (eq_by_cmp nat_cmp q fd) o (if_own i (get owners q))) is

  removed : (fd q : ℕ) → get (owned_by i (remove owners fd)) q ≡ cond (eq_by_cmp nat_cmp q fd) None (if_own i (get owners q))
  removed fd q = get-owned_by i (remove owners fd) q ∙ ap (if_own i) (get-remove nat_cmp_total owners fd q) ∙ if_own-cond i (eq_by_cmp nat_cmp q fd) None (get owners q)

  -- adding one's own descriptor; a neighbour adds a free one
  pub owned_by-insert_own : (fd : ℕ) (one : Ownership) → one.id ≡ i → owned_by i (insert owners fd one) ≡ insert (owned_by i owners) fd one
  owned_by-insert_own fd one own = same_map nat_cmp_total nat_cmp-IsAntisymmetric _ _ (λ q.
      inserted fd one (Some one) (ap (λ t. cond t (Some one) None) (eq-eqb one.id i own)) q
      ∙ sym (get-insert nat_cmp_total (owned_by i owners) fd one q ∙ ap (λ o. cond (eq_by_cmp nat_cmp q fd) (Some one) o) (get-owned_by i owners q)))

  pub owned_by-insert_other : (fd : ℕ) (one : Ownership) → one.id ≢ i → get owners fd ≡ None → owned_by i (insert owners fd one) ≡ owned_by i owners
  owned_by-insert_other fd one differ is_free = same_map nat_cmp_total nat_cmp-IsAntisymmetric _ _ (λ q.
      inserted fd one None (if_own-other i one.id (Some one) differ refl) q
      ∙ none_already (eq_by_cmp nat_cmp q fd) (if_own i (get owners q)) (λ e. ap (if_own i) (ap (get owners) (nat_tied q fd e) ∙ is_free))
      ∙ sym (get-owned_by i owners q))

  -- removing one's own descriptor; a neighbour removes its own
  pub owned_by-remove : (fd : ℕ) → owned_by i (remove owners fd) ≡ remove (owned_by i owners) fd
  owned_by-remove fd = same_map nat_cmp_total nat_cmp-IsAntisymmetric _ _ (λ q.
      removed fd q ∙ sym (get-remove nat_cmp_total (owned_by i owners) fd q ∙ ap (λ o. cond (eq_by_cmp nat_cmp q fd) None o) (get-owned_by i owners q)))

  pub owned_by-remove_other : (fd j : ℕ) → j ≢ i → owner_of owners fd ≡ Some j → owned_by i (remove owners fd) ≡ owned_by i owners
  owned_by-remove_other fd j differ held = same_map nat_cmp_total nat_cmp-IsAntisymmetric _ _ (λ q.
      removed fd q
      ∙ none_already (eq_by_cmp nat_cmp q fd) (if_own i (get owners q)) (λ e. if_own-other i j (get owners q) differ (ap (owner_of owners) (nat_tied q fd e) ∙ held))
      ∙ sym (get-owned_by i owners q))

  -- all descriptors of an id go: one's own, a neighbour's
  left_by_test : (one : Ownership) (b : Bool) → (one.id == i) ≡ b → if_own i (cond (not b) (Some one) None) ≡ unless_own i (cond b (Some one) None)
  left_by_test one true e = sym (ap (λ t. cond (not t) (Some one) None) e)
  left_by_test one false e = ap (λ t. cond t (Some one) None) e

  left_answer : (o : Option Ownership) → if_own i (unless_own i o) ≡ unless_own i (if_own i o)
  left_answer None = refl
  left_answer (Some one) = left_by_test one (one.id == i) refl

  pub owned_by-without_owner : owned_by i (without_owner i owners) ≡ without_owner i (owned_by i owners)
  owned_by-without_owner = same_map nat_cmp_total nat_cmp-IsAntisymmetric _ _ (λ q.
      get-owned_by i (without_owner i owners) q
      ∙ ap (if_own i) (get-without_owner i owners q)
      ∙ left_answer (get owners q)
      ∙ sym (get-without_owner i (owned_by i owners) q ∙ ap (unless_own i) (get-owned_by i owners q)))

  other_by_test : (j : ℕ) (one : Ownership) (b : Bool) → (one.id == j) ≡ b → j ≢ i → if_own i (cond (not b) (Some one) None) ≡ if_own i (Some one)
  other_by_test j one true e differ = sym (if_own-other i one.id (Some one) (λ s. differ (sym (eqb-true one.id j e) ∙ s)) refl)
  other_by_test j one false e differ = refl

  other_left : (j : ℕ) (o : Option Ownership) → j ≢ i → if_own i (unless_own j o) ≡ if_own i o
  other_left j None differ = refl
  other_left j (Some one) differ = other_by_test j one (one.id == j) refl differ

  pub owned_by-disowned_other : (j : ℕ) → j ≢ i → owned_by i (without_owner j owners) ≡ owned_by i owners
  owned_by-disowned_other j differ = same_map nat_cmp_total nat_cmp-IsAntisymmetric _ _ (λ q.
      get-owned_by i (without_owner j owners) q ∙ ap (if_own i) (get-without_owner j owners q) ∙ other_left j (get owners q) differ ∙ sym (get-owned_by i owners q))

-- the values
value_answer : {V : Type 0} (u o : Option V) (b c : Bool) → (b ≡ true → c ≡ true) → cond c (cond b u o) None ≡ cond b u (cond c o None)
value_answer u o true c same = rw (same refl) refl
value_answer u o false c same = refl

at_own : {V : Type 0} (o p : Option V) (b : Bool) → (b ≡ true → o ≡ p) → cond b o None ≡ cond b p None
at_own o p true same = same refl
at_own o p false same = refl

pub only_values-insert : {V : Type 0} (i : ℕ) (values : FinMap nat_cmp V) (v : V) → only_values i (insert values i v) ≡ insert (only_values i values) i v
only_values-insert i values v = same_map nat_cmp_total nat_cmp-IsAntisymmetric _ _ (λ q.
    get_only i (insert values i v) q
    ∙ ap (λ o. cond (q == i) o None) (get-insert nat_cmp_total values i v q)
    ∙ value_answer (Some v) (get values q) (eq_by_cmp nat_cmp q i) (q == i) (λ e. eq-eqb q i (nat_tied q i e))
    ∙ sym (get-insert nat_cmp_total (only_values i values) i v q ∙ ap (λ o. cond (eq_by_cmp nat_cmp q i) (Some v) o) (get_only i values q)))

pub only_values-remove : {V : Type 0} (i : ℕ) (values : FinMap nat_cmp V) → only_values i (remove values i) ≡ remove (only_values i values) i
only_values-remove i values = same_map nat_cmp_total nat_cmp-IsAntisymmetric _ _ (λ q.
    get_only i (remove values i) q
    ∙ ap (λ o. cond (q == i) o None) (get-remove nat_cmp_total values i q)
    ∙ value_answer None (get values q) (eq_by_cmp nat_cmp q i) (q == i) (λ e. eq-eqb q i (nat_tied q i e))
    ∙ sym (get-remove nat_cmp_total (only_values i values) i q ∙ ap (λ o. cond (eq_by_cmp nat_cmp q i) None o) (get_only i values q)))

pub only_values-same : {V : Type 0} (i : ℕ) (values others : FinMap nat_cmp V) → get values i ≡ get others i → only_values i values ≡ only_values i others
only_values-same i values others same = same_map nat_cmp_total nat_cmp-IsAntisymmetric _ _ (λ q.
    get_only i values q ∙ at_own (get values q) (get others q) (q == i) (λ e. ap (get values) (eqb-true q i e) ∙ same ∙ sym (ap (get others) (eqb-true q i e))) ∙ sym (get_only i others q))
