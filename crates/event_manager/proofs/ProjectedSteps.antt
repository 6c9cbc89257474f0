-- The projection of one id's step, and of another's.
use Rattle.std.proofs.Common.{◌≡◌, ◌≢◌, ℕ, ◌+◌, ◌<◌, ◌≤◌, ◌==◌, cond, Bool, true, false, not, refl, sym, ◌∙◌, ap, ap₂, subst, arith, Some, None, Option, inl, inr, nat_cmp, List, [], true≢false, if◌then◌else◌, eq-eqb, eqb-true, le_of_eq, le-ltb, lt-ltb}
use Rattle.std.specs.FinMap.{FinMap, get}
use Rattle.std.proofs.lemmas.Bool.Decides.{nat_tests, eqb_tells}
use Rattle.event_loop.specs.Prelude.{Event, OwnerMap, owner_of, Registrations, PollerCall, Exchanges, ExchangesFit, Begins, Registry, LoopStep, Joined, NotJoined, Left, Replaced, Requested, Refused, Steps, is_id, id_of, without_owner, ids_end}
use Rattle.event_manager.specs.History.{Made}
use Rattle.event_manager.specs.Projection.{only_values, projected_registrations, next_for, projected_registry, turn_exchanges, asks_to_add, has_addition}
use Rattle.event_loop.proofs.WithoutOwner.{owner_of-without_owner}
use Rattle.event_manager.proofs.FiniteMaps.{get_only, owned_by-without_owner, only_values-insert, only_values-remove, only_values-same}
use Rattle.event_manager.specs.Guarantees.{IsUntouched}
use Rattle.event_manager.proofs.Isolation.{isolated_step}
use Rattle.event_loop.proofs.ExchangeLemmas.{exchanges_keep_endpoint}
use Rattle.event_manager.proofs.ProjectedExchanges.{IsMine, own_exchanges, other_exchanges, owned_projected, owned_from_projected}

-- an owner's map without an id's descriptors
disowned_answer : (i j : ℕ) (o : Option ℕ) → cond (not (is_id j o)) o None ≡ Some i → o ≡ Some i
disowned_answer i j None e = e
disowned_answer i j (Some k) e = elim (eqb_tells k j) [
  | inl p ↦ let s : None ≡ Some i = sym (ap (λ b. cond (not b) (Some k) None) p.0) ∙ e in cc
  | inr p ↦ sym (ap (λ b. cond (not b) (Some k) None) p.0) ∙ e
]

pub from_disowned : (j : ℕ) (owners : OwnerMap) (fd : ℕ) (k : ℕ) → owner_of (without_owner j owners) fd ≡ Some k → owner_of owners fd ≡ Some k
from_disowned j owners fd k h = disowned_answer k j (owner_of owners fd) (sym (owner_of-without_owner j owners fd) ∙ h)

pub mine-without_owner : (i j : ℕ) (mine : ℕ → Bool) (owners : OwnerMap) → IsMine i mine owners → IsMine i mine (without_owner j owners)
mine-without_owner i j mine owners m = record { own = λ q h. m.own q (from_disowned j owners q i h); other = λ q k differ h. m.other q k differ (from_disowned j owners q k h) }

-- the projected registry, with these events pending
abbrev pub projected_with : {V : Type 0} → ℕ → ℕ → List Event → Registry V → Registry V
projected_with i n pending r = record { values = only_values i r.values; next = n; registrations = projected_registrations i pending r.registrations }

-- the next id of a projection
not_given : (i next : ℕ) → next ≤ i → next_for i next ≡ i
not_given i next le = ap (λ b. if b then i + 1 else i) (le-ltb i next le)

just_given : (i next : ℕ) → i < next → next_for i next ≡ i + 1
just_given i next lt = ap (λ b. if b then i + 1 else i) (lt-ltb i next lt)

other_given : (i next : ℕ) → next ≢ i → next_for i (next + 1) ≡ next_for i next
other_given i next differ = grind (arith, nat_tests)

-- an id that is untouched sees no change
pub untouched_projected : {V : Type 0} (i n : ℕ) (pending : List Event) (before after : Registry V) → IsUntouched i before after → after.registrations.endpoint ≡ before.registrations.endpoint
    → projected_with i n pending after ≡ projected_with i n pending before
untouched_projected i n pending before after (value, owners, left) endpoint k =
    record { values = only_values-same i after.values before.values value k; next = n; registrations = record { owners = owners k; endpoint = endpoint k; pending = pending } }

-- projected values
pub has_projected : {V : Type 0} (i : ℕ) (values : FinMap nat_cmp V) (v : V) → get values i ≡ Some v → get (only_values i values) i ≡ Some v
has_projected i values v h = get_only i values i ∙ ap (λ b. cond b (get values i) None) (eq-eqb i i refl) ∙ h

pub lacks_projected : {V : Type 0} (i : ℕ) (values : FinMap nat_cmp V) → get values i ≡ None → get (only_values i values) i ≡ None
lacks_projected i values h = get_only i values i ∙ ap (λ b. cond b (get values i) None) (eq-eqb i i refl) ∙ h

pub has_from_projected : {V : Type 0} (i : ℕ) (values : FinMap nat_cmp V) (v : V) → get (only_values i values) i ≡ Some v → get values i ≡ Some v
has_from_projected i values v h = sym (get_only i values i ∙ ap (λ b. cond b (get values i) None) (eq-eqb i i refl)) ∙ h

module _ {V : Type 0} (begins : Begins V) where
  -- a step of i's own
  pub record OwnStep (i : ℕ) (mine : ℕ → Bool) (before : Registry V) (step : LoopStep V) (after : Registry V) : Type 0 where
    pub fits : Steps begins (projected_registry i before) step (projected_registry i after)
    pub still : IsMine i mine after.registrations.owners

  abbrev IsClaimed : (ℕ → Bool) → Exchanges → Type 0
  IsClaimed mine exchanges = (fd : ℕ) → asks_to_add fd exchanges ≡ true → mine fd ≡ true

  unchanged : (i : ℕ) (mine : ℕ → Bool) (before after : Registry V) (step : LoopStep V) → IsMine i mine before.registrations.owners → after ≡ before → (projected_registry i after ≡ projected_registry i before → Steps begins (projected_registry i before) step (projected_registry i after)) → OwnStep i mine before step after
  unchanged i mine before after step m e fits = record {
    fits = fits (ap (projected_registry i) e);
    still = subst (λ (r : Registry V). IsMine i mine r.registrations.owners) (sym e) m;
  }

  abbrev projected_of : ℕ → FinMap nat_cmp V → Registrations → Registry V
  projected_of n values registrations = record { values = values; next = n; registrations = registrations }

  own_joined : (i : ℕ) (mine : ℕ → Bool) (before after : Registry V) (value : V) (exchanges : Exchanges) (calls : List PollerCall) (held : V) → IsMine i mine before.registrations.owners → IsClaimed mine exchanges → Steps begins before (Joined value i exchanges calls held) after → OwnStep i mine before (Joined value i exchanges calls held) after
  own_joined i mine before after value exchanges calls held m claimed (registrations, capacity, is, fits, beg, e) =
      let t = own_exchanges i mine [] before.registrations exchanges calls registrations m claimed fits in
      let k : next_for i before.next ≡ i = not_given i before.next (le_of_eq (sym is)) in
      let grown : next_for i (before.next + 1) ≡ next_for i before.next + 1 = just_given i (before.next + 1) (omega arith) ∙ ap (λ x. x + 1) (sym k) in
      record {
        fits = (
          projected_registrations i [] registrations,
          subst (λ x. x < ids_end) (sym (k ∙ is)) capacity,
          sym k,
          subst (λ p. ExchangesFit i (projected_registrations i [] before.registrations) exchanges calls (projected_registrations i p registrations)) (t.none refl) t.fits,
          beg,
          ap (projected_registry i) e ∙ ap₂ (λ n (v : FinMap nat_cmp V). projected_of n v (projected_registrations i [] registrations)) grown (only_values-insert i before.values held),
        );
        still = subst (λ (r : Registry V). IsMine i mine r.registrations.owners) (sym e) t.still;
      }

  own_left : (i : ℕ) (mine : ℕ → Bool) (before after : Registry V) (value : V) (calls : List PollerCall) → IsMine i mine before.registrations.owners → Steps begins before (Left i value calls) after → OwnStep i mine before (Left i value calls) after
  own_left i mine before after value calls m (fds, has, is_owner, deletes, e) = record {
    fits = (
      fds,
      has_projected i before.values value has,
      (is_owner.0, λ fd. ((λ c. owned_projected i before.registrations.owners fd ((is_owner.1 fd).0 c)), λ o. (is_owner.1 fd).1 (owned_from_projected i before.registrations.owners fd o))),
      deletes,
      ap (projected_registry i) e ∙ (λ k. projected_of (next_for i before.next) (only_values-remove i before.values k) (record {
        owners = owned_by-without_owner i before.registrations.owners k;
        endpoint = before.registrations.endpoint;
        pending = [];
      })),
    );
    still = subst (λ (r : Registry V). IsMine i mine r.registrations.owners) (sym e) (mine-without_owner i i mine before.registrations.owners m);
  }

  own_touched : (i : ℕ) (mine : ℕ → Bool) (before after : Registry V) (old new : V) → IsMine i mine before.registrations.owners → Steps begins before (Replaced i old new) after → OwnStep i mine before (Replaced i old new) after
  own_touched i mine before after old new m (has, e) = record {
    fits = (
      has_projected i before.values old has,
      ap (projected_registry i) e ∙ ap (λ (v : FinMap nat_cmp V). projected_of (next_for i before.next) v (projected_registrations i [] before.registrations)) (only_values-insert i before.values new),
    );
    still = subst (λ (r : Registry V). IsMine i mine r.registrations.owners) (sym e) m;
  }

  own_made : (i : ℕ) (mine : ℕ → Bool) (before after : Registry V) (exchanges : Exchanges) (calls : List PollerCall) → IsMine i mine before.registrations.owners → IsClaimed mine exchanges → Steps begins before (Requested i exchanges calls) after → OwnStep i mine before (Requested i exchanges calls) after
  own_made i mine before after exchanges calls m claimed (value, registrations, has, fits, e) =
      let t = own_exchanges i mine [] before.registrations exchanges calls registrations m claimed fits in
      record {
        fits = (
          value,
          projected_registrations i [] registrations,
          has_projected i before.values value has,
          subst (λ p. ExchangesFit i (projected_registrations i [] before.registrations) exchanges calls (projected_registrations i p registrations)) (t.none refl) t.fits,
          ap (projected_registry i) e,
        );
        still = subst (λ (r : Registry V). IsMine i mine r.registrations.owners) (sym e) t.still;
      }

  claims_of : (mine : ℕ → Bool) (exchanges : Exchanges) (b : Bool) → b ≡ true → IsClaimed mine (if b then exchanges else []) → IsClaimed mine exchanges
  claims_of mine exchanges b e h = λ fd t. h fd (ap (λ x. asks_to_add fd (if x then exchanges else [])) e ∙ t)

  pub own_step : (i : ℕ) (mine : ℕ → Bool) (before : Registry V) (step : LoopStep V) (after : Registry V) → is_id i (id_of step) ≡ true → IsMine i mine before.registrations.owners → IsClaimed mine (turn_exchanges i (Made step)) → Steps begins before step after → OwnStep i mine before step after
  own_step i mine before (Joined value id exchanges calls held) after named m claimed h =
      subst (λ k. Steps begins before (Joined value k exchanges calls held) after → OwnStep i mine before (Joined value k exchanges calls held) after) (sym (eqb-true id i named))
      (own_joined i mine before after value exchanges calls held m (claims_of mine exchanges (id == i) named claimed)) h
  own_step i mine before (NotJoined value error) after named m claimed h = absurd (true≢false (sym named))
  own_step i mine before (Left id value calls) after named m claimed h =
      subst (λ k. Steps begins before (Left k value calls) after → OwnStep i mine before (Left k value calls) after) (sym (eqb-true id i named)) (own_left i mine before after value calls m) h
  own_step i mine before (Replaced id old new) after named m claimed h =
      subst (λ k. Steps begins before (Replaced k old new) after → OwnStep i mine before (Replaced k old new) after) (sym (eqb-true id i named)) (own_touched i mine before after old new m) h
  own_step i mine before (Requested id exchanges calls) after named m claimed h =
      subst (λ k. Steps begins before (Requested k exchanges calls) after → OwnStep i mine before (Requested k exchanges calls) after) (sym (eqb-true id i named))
      (own_made i mine before after exchanges calls m (claims_of mine exchanges (id == i) named claimed)) h
  own_step i mine before (Refused id) after named m claimed h = unchanged i mine before after (Refused id) m h.1 (λ e. (subst (λ k. get (only_values i before.values) k ≡ None) (sym (eqb-true id i named)) (lacks_projected i before.values (subst (λ k. get before.values k ≡ None) (eqb-true id i named) h.0)), e))

  -- a step of a neighbour's
  pub record OtherStep (i : ℕ) (mine : ℕ → Bool) (before after : Registry V) : Type 0 where
    pub same : projected_registry i after ≡ projected_registry i before
    pub still : IsMine i mine after.registrations.owners

  -- where the descriptors stay, and i's next id
  other_kept : (i : ℕ) (mine : ℕ → Bool) (before made after : Registry V) → after ≡ made → made.registrations.endpoint ≡ before.registrations.endpoint → next_for i made.next ≡ next_for i before.next
      → IsUntouched i before after → IsMine i mine made.registrations.owners → OtherStep i mine before after
  other_kept i mine before made after e endpoint next h m = record {
    same = ap (λ n. projected_with i n [] after) (ap (λ (r : Registry V). next_for i r.next) e ∙ next) ∙ untouched_projected i (next_for i before.next) [] before after h (ap (λ (r : Registry V). r.registrations.endpoint) e ∙ endpoint);
    still = subst (λ (r : Registry V). IsMine i mine r.registrations.owners) (sym e) m;
  }

  made : (j : ℕ) (exchanges : Exchanges) (fd : ℕ) → has_addition fd exchanges ≡ true → has_addition fd (if j == j then exchanges else []) ≡ true
  made j exchanges fd t = ap (λ b. has_addition fd (if b then exchanges else [])) (eq-eqb j j refl) ∙ t

  pub other_step : (i : ℕ) (mine : ℕ → Bool) (before : Registry V) (step : LoopStep V) (after : Registry V) → is_id i (id_of step) ≡ false → IsMine i mine before.registrations.owners
      → ((fd : ℕ) (j : ℕ) → j ≢ i → has_addition fd (turn_exchanges j (Made step)) ≡ true → mine fd ≡ false) → Steps begins before step after → OtherStep i mine before after
  other_step i mine before step after named m foreign h = by_step step (isolated_step begins before step after h i named) named foreign h
    where
      by_step : (step : LoopStep V) → IsUntouched i before after → is_id i (id_of step) ≡ false → ((fd : ℕ) (j : ℕ) → j ≢ i → has_addition fd (turn_exchanges j (Made step)) ≡ true → mine fd ≡ false) → Steps begins before step after → OtherStep i mine before after
      by_step (Joined value id exchanges calls held) u named foreign (registrations, capacity, is, fits, beg, e) =
          let differ : id ≢ i = λ s. true≢false (sym (eq-eqb id i s) ∙ named) in
          let t = other_exchanges i id mine before.registrations exchanges calls registrations differ m (λ fd a. foreign fd id differ (made id exchanges fd a)) fits in
          other_kept i mine before _ after e (exchanges_keep_endpoint id before.registrations exchanges calls registrations fits) (other_given i before.next (λ s. differ (is ∙ s))) u t.still
      by_step (NotJoined value error) u named foreign h = other_kept i mine before _ after h.1 refl refl u m
      by_step (Left id value calls) u named foreign (fds, has, is_owner, deletes, e) =
          other_kept i mine before _ after e refl refl u (mine-without_owner i id mine before.registrations.owners m)
      by_step (Replaced id old new) u named foreign (has, e) = other_kept i mine before _ after e refl refl u m
      by_step (Requested id exchanges calls) u named foreign (value, registrations, has, fits, e) =
          let differ : id ≢ i = λ s. true≢false (sym (eq-eqb id i s) ∙ named) in
          let t = other_exchanges i id mine before.registrations exchanges calls registrations differ m (λ fd a. foreign fd id differ (made id exchanges fd a)) fits in
          other_kept i mine before _ after e (exchanges_keep_endpoint id before.registrations exchanges calls registrations fits) refl u t.still
      by_step (Refused id) u named foreign h = other_kept i mine before _ after h.1 refl refl u m
