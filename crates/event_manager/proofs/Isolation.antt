-- What one id does leaves the others as they were; exchanges join; leaving frees exactly its own.
use Rattle.std.proofs.Common.{◌≡◌, ◌≢◌, ℕ, ◌==◌, cond, Bool, true, false, not, refl, sym, ◌∙◌, ap, subst, Some, None, Option, inl, inr, nat_cmp, List, [], ◌∷◌, filter, true≢false, if◌then◌else◌, eq-eqb}
use Rattle.std.specs.FinMap.{FinMap, get, insert, remove, get-insert, get-remove}
use Rattle.std.specs.Ordering.{eq_by_cmp}
use Rattle.std.specs.Cmp.{nat_cmp_total}
use Rattle.std.proofs.lemmas.Bool.Decides.{eqb_tells}
use Rattle.event_loop.specs.Prelude.{Event, Registrations, IsFree, Ownership, owner_of, PollerCall, Answer, Exchanges, Fits, by_manager, without_memory, by_poller, by_agreement, ExchangesFit, refusal_of, registrations_after, Begins, Serves, Registry, LoopStep, Joined, NotJoined, Left, Replaced, Requested, Refused, Steps, is_id, id_of, without_owner, Delivery, Nobody, To, IsDelivery}
use Rattle.event_loop.specs.declared.events.Request.{Request}
use Rattle.event_loop.specs.declared.events.Request.TheVariants.{Add, AddWithPriority, Modify, Remove}
use Rattle.dispatch_tables.specs.declared.priority.Priority.{Priority}
use Rattle.dispatch_tables.specs.declared.priority.Priority.TheVariants.{Lowest}
use Rattle.event_manager.specs.Projection.{receiver_of, owned_by}
use Rattle.event_manager.specs.Guarantees.{pending_of, IsUntouched, FreesExactly}
use Rattle.dispatch_tables.proofs.NumberTests.{fd_tells, nat_tied}
use Rattle.event_loop.proofs.WithoutOwner.{get-without_owner}
use Rattle.event_manager.proofs.FiniteMaps.{is_id-owned_by, owned_by-insert_other, owned_by-remove_other, owned_by-disowned_other, entered}
use Rattle.dispatch_tables.proofs.Owning.{owner_id}
use Rattle.event_loop.proofs.ExchangeLemmas.{not_on}
use Rattle.event_loop.proofs.Refusals.{is_vacant, is_own}

-- leaving
frees_answer : (i : ℕ) (o : Option Ownership) → cond (not (is_id i (owner_id o))) o None ≡ (if is_id i (owner_id o) then None else o)
frees_answer i None = refl
frees_answer i (Some one) = elim (one.id == i) as (λ b. cond (not b) (Some one) None ≡ (if b then None else Some one)) [ true ↦ refl | false ↦ refl ]

-- once id i left
abbrev left_by : ℕ → Registrations → Registrations
left_by i registrations = record registrations { owners = without_owner i registrations.owners }

pub frees_exactly : (i : ℕ) (registrations : Registrations) → FreesExactly i registrations (left_by i registrations)
frees_exactly i registrations fd = get-without_owner i registrations.owners fd ∙ frees_answer i (get registrations.owners fd)

-- what j has of the registrations
pub record IsKept (j : ℕ) (before after : Registrations) : Type 0 where
  pub same : owned_by j after.owners ≡ owned_by j before.owners
  pub same_pending : pending_of j after ≡ pending_of j before

-- whether a descriptor is j's is told by the map of j's descriptors
same_tests : (j : ℕ) (before after : Registrations) → owned_by j after.owners ≡ owned_by j before.owners → (fd : ℕ) → is_id j (owner_of after.owners fd) ≡ is_id j (owner_of before.owners fd)
same_tests j before after same fd = sym (is_id-owned_by j after.owners fd) ∙ ap (λ owners. is_id j (owner_of owners fd)) same ∙ is_id-owned_by j before.owners fd

pub kept_refl : (j : ℕ) (registrations : Registrations) → IsKept j registrations registrations
kept_refl j registrations = record { same = refl; same_pending = refl }

kept_trans : (j : ℕ) (a b c : Registrations) → IsKept j a b → IsKept j b c → IsKept j a c
kept_trans j a b c h k = record { same = k.same ∙ h.same; same_pending = k.same_pending ∙ h.same_pending }

filter_same : (p q : Event → Bool) (events : List Event) → ((e : Event) → p e ≡ q e) → filter p events ≡ filter q events
filter_same p q [] same = refl
filter_same p q (e ∷ events) same = (λ k. cond (same e k) (e ∷ filter_same p q events same k) (filter_same p q events same k))

-- events that j doesn't own go
filter_not_on : (p : Event → Bool) (fd : ℕ) (events : List Event) → ((e : Event) → e.fd ≡ fd → p e ≡ false) → filter p (not_on fd events) ≡ filter p events
filter_not_on p fd [] apart = refl
filter_not_on p fd (e ∷ events) apart = elim (fd_tells e.fd fd) [
  | inl t ↦ ap (λ b. filter p (cond (not b) (e ∷ not_on fd events) (not_on fd events))) t.2 ∙ filter_not_on p fd events apart ∙ sym (ap (λ b. cond b (e ∷ filter p events) (filter p events)) (apart e t.1))
  | inr t ↦ ap (λ b. filter p (cond (not b) (e ∷ not_on fd events) (not_on fd events))) t.2 ∙ ap (λ es. cond (p e) (e ∷ es) es) (filter_not_on p fd events apart)
]

kept_entered : (i j : ℕ) (registrations : Registrations) (e : Event) (priority : Priority) → j ≢ i → IsFree registrations e.fd → IsKept j registrations (entered i e priority registrations)
kept_entered i j registrations e priority differ free =
    let s = owned_by-insert_other j registrations.owners e.fd (record { id = i; priority = priority }) (λ is. differ (sym is)) free in
    record { same = s; same_pending = filter_same _ _ registrations.pending (λ x. same_tests j registrations (entered i e priority registrations) s x.fd) }

kept_after : (i j : ℕ) (registrations : Registrations) (request : Request) → j ≢ i → refusal_of i registrations request ≡ None → IsKept j registrations (registrations_after i request registrations)
kept_after i j registrations (Add e) differ h = kept_entered i j registrations e Lowest differ (is_vacant registrations e.fd h).0
kept_after i j registrations (AddWithPriority e priority) differ h = kept_entered i j registrations e priority differ (is_vacant registrations e.fd h).0
kept_after i j registrations (Modify e) differ h = kept_refl j registrations
kept_after i j registrations (Remove e) differ h =
    let own = is_own i registrations e h in
    let s = owned_by-remove_other j registrations.owners e.fd i (λ is. differ (sym is)) own in
    record {
      same = s;
      same_pending = filter_same _ _ (not_on e.fd registrations.pending) (λ x. same_tests j registrations (registrations_after i (Remove e) registrations) s x.fd)
          ∙ filter_not_on (λ x. is_id j (owner_of registrations.owners x.fd)) e.fd registrations.pending (λ x t. ap (λ q. is_id j (owner_of registrations.owners q)) t ∙ ap (is_id j) own ∙ elim (eqb_tells i j) [ inl p ↦ absurd (differ (sym p.1)) | inr p ↦ p.0 ]);
    }

kept_fits : (i j : ℕ) (registrations : Registrations) (request : Request) (answer : Answer) (calls : List PollerCall) (after : Registrations) → j ≢ i → Fits i registrations request answer calls after → IsKept j registrations after
kept_fits i j registrations request answer calls after differ (by_manager error h a r e) = subst (IsKept j registrations) (sym e) (kept_refl j registrations)
kept_fits i j registrations request answer calls after differ (without_memory adds h a r e) = subst (IsKept j registrations) (sym e) (kept_refl j registrations)
kept_fits i j registrations request answer calls after differ (by_poller n h a r e) = subst (IsKept j registrations) (sym e) (kept_refl j registrations)
kept_fits i j registrations request answer calls after differ (by_agreement h a r e) = subst (IsKept j registrations) (sym e) (kept_after i j registrations request differ h)

pub kept_exchanges : (i j : ℕ) (registrations : Registrations) (exchanges : Exchanges) (calls : List PollerCall) (after : Registrations) → j ≢ i → ExchangesFit i registrations exchanges calls after → IsKept j registrations after
kept_exchanges i j registrations [] calls after differ h = subst (IsKept j registrations) (sym h.1) (kept_refl j registrations)
kept_exchanges i j registrations (exchange ∷ exchanges) calls after differ (first, rest, mid, joined, fits, more) =
    kept_trans j registrations mid after (kept_fits i j registrations exchange.0 exchange.1 first mid differ fits) (kept_exchanges i j mid exchanges rest after differ more)

kept_left : (i j : ℕ) (registrations : Registrations) → j ≢ i → IsKept j registrations (left_by i registrations)
kept_left i j registrations differ =
    let s = owned_by-disowned_other j registrations.owners i (λ is. differ (sym is)) in
    record { same = s; same_pending = filter_same _ _ registrations.pending (λ x. same_tests j registrations (left_by i registrations) s x.fd) }

-- values
untied : (a b : ℕ) → a ≢ b → eq_by_cmp nat_cmp a b ≡ false
untied a b differ = elim (eq_by_cmp nat_cmp a b) as (λ t. eq_by_cmp nat_cmp a b ≡ t → t ≡ false) [ true ↦ λ e. absurd (differ (nat_tied a b e)) | false ↦ λ e. refl ] refl

pub insert_other_value : {V : Type 0} (i j : ℕ) (values : FinMap nat_cmp V) (v : V) → j ≢ i → get (insert values i v) j ≡ get values j
insert_other_value i j values v differ = get-insert nat_cmp_total values i v j ∙ ap (λ b. cond b (Some v) (get values j)) (untied j i differ)

pub remove_other_value : {V : Type 0} (i j : ℕ) (values : FinMap nat_cmp V) → j ≢ i → get (remove values i) j ≡ get values j
remove_other_value i j values differ = get-remove nat_cmp_total values i j ∙ ap (λ b. cond b None (get values j)) (untied j i differ)

unnamed : (i j : ℕ) → (i == j) ≡ false → j ≢ i
unnamed i j e = λ s. true≢false (sym (eq-eqb i j (sym s)) ∙ e)

module _ {V : Type 0} where
  untouched : (j : ℕ) (before after : Registry V) → get after.values j ≡ get before.values j → IsKept j before.registrations after.registrations → IsUntouched j before after
  untouched j before after v k = (v, k.same, k.same_pending)

  untouched_at : (j : ℕ) (before made after : Registry V) → after ≡ made → get made.values j ≡ get before.values j → IsKept j before.registrations made.registrations → IsUntouched j before after
  untouched_at j before made after e v k = subst (IsUntouched j before) (sym e) (untouched j before made v k)

  pub isolated_step : (begins : Begins V) (before : Registry V) (step : LoopStep V) (after : Registry V) → Steps begins before step after → (j : ℕ) → is_id j (id_of step) ≡ false → IsUntouched j before after
  isolated_step begins before (Joined value id exchanges calls held) after (registrations, capacity, is, fits, beg, e) j named =
      untouched_at j before _ after e (insert_other_value id j before.values held (unnamed id j named)) (kept_exchanges id j before.registrations exchanges calls registrations (unnamed id j named) fits)
  isolated_step begins before (NotJoined value error) after h j named = untouched_at j before _ after h.1 refl (kept_refl j before.registrations)
  isolated_step begins before (Left id value calls) after (fds, has, is_owner, deletes, e) j named =
      untouched_at j before _ after e (remove_other_value id j before.values (unnamed id j named)) (kept_left id j before.registrations (unnamed id j named))
  isolated_step begins before (Replaced id old new) after (has, e) j named = untouched_at j before _ after e (insert_other_value id j before.values new (unnamed id j named)) (kept_refl j before.registrations)
  isolated_step begins before (Requested id exchanges calls) after (value, registrations, has, fits, e) j named = untouched_at j before _ after e refl (kept_exchanges id j before.registrations exchanges calls registrations (unnamed id j named) fits)
  isolated_step begins before (Refused id) after h j named = untouched_at j before _ after h.1 refl (kept_refl j before.registrations)

  -- an event leaves those who don't get it as they were
  pub isolated_delivery : (serves : Serves V) (before : Registry V) (removed : Bool) (e : Event) (delivery : Delivery V) (after : Registry V) → IsDelivery serves before removed e delivery after
      → (j : ℕ) → is_id j (receiver_of delivery) ≡ false → IsUntouched j before after
  isolated_delivery serves before removed e Nobody after (nobody, is) j other = untouched_at j before _ after is refl (kept_refl j before.registrations)
  isolated_delivery serves before removed e (To i exchanges calls held) after (value, registrations, for, serving, fits, is) j other =
      let differ = unnamed i j other in
      untouched_at j before _ after is (insert_other_value i j before.values held differ) (kept_exchanges i j before.registrations exchanges calls registrations differ fits)

  pub left_frees : (begins : Begins V) (before after : Registry V) (i : ℕ) (value : V) (calls : List PollerCall) → Steps begins before (Left i value calls) after → FreesExactly i before.registrations after.registrations
  left_frees begins before after i value calls (fds, has, is_owner, deletes, e) = subst (λ (r : Registry V). FreesExactly i before.registrations r.registrations) (sym e) (frees_exactly i before.registrations)
