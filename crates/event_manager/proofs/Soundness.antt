-- What holds of every state that a trace reaches, and of the ids that it gives.
use Rattle.std.proofs.Common.{◌≡◌, ◌≢◌, ℕ, ℤ, ◌+◌, ◌<◌, ◌==◌, cond, Bool, true, false, not, refl, sym, ◌∙◌, ap, subst, Some, None, Option, ◌⊎◌, inl, inr, nat_cmp, List, [], ◌∷◌, ◌++◌, true≢false, eq-eqb, arith, Ok, Err, Result, lt_irrefl, is_eq, Equal}
use Rattle.std.specs.FinMap.{FinMap, get, insert, remove, get-insert, get-remove, get-empty, empty}
use Rattle.std.specs.Cmp.{nat_cmp_total, nat_cmp_is}
use Rattle.std.specs.Ordering.{eq_by_cmp}
use Rattle.std.proofs.lemmas.Bool.Decides.{eqb_tells}
use Rattle.event_loop.specs.Prelude.{Event, Registrations, Owns, IsFree, PollerCall, Answer, Exchanges, Fits, by_manager, without_memory, by_poller, by_agreement, ExchangesFit, refusal_of, registrations_after, Begins, Serves, Registry, LoopStep, Joined, NotJoined, Left, Replaced, Requested, Refused, Steps, is_id, without_owner, HasId, LacksId, AreBelow, May, Delivery, Nobody, To, Position, with_pending, IsDelivery, AreDispatched, is_removed, still_pending, events_of, LoopContents, Ownership, OwnerMap, owner_of}
use Rattle.event_loop.specs.declared.events.Request.{Request}
use Rattle.event_loop.specs.declared.events.Request.TheVariants.{Add, AddWithPriority, Modify, Remove}
use Rattle.event_manager.specs.Trace.{TraceEntry, IsTrace, new_state}
use Rattle.event_manager.specs.History.{Turn, Made, Waited, IsTurn, IsHistory, history_of}
use Rattle.event_manager.proofs.Histories.{trace_is_history}
use Rattle.event_manager.specs.Guarantees.{IsSound, AreGiven, AreRefusedTo, RemovedStayGone}
use Rattle.vmm_sys.specs.declared.errno.Errno.{Errno}
use Rattle.dispatch_tables.specs.declared.priority.Priority.{Priority}
use Rattle.dispatch_tables.specs.declared.priority.Priority.TheVariants.{Lowest}
use Rattle.dispatch_tables.proofs.NumberTests.{fd_tells}
use Rattle.event_loop.proofs.Refusals.{is_vacant}
use Rattle.event_loop.proofs.WithoutOwner.{get-without_owner, owner_of-without_owner}
use Rattle.event_manager.proofs.ProjectedSteps.{from_disowned}
use Rattle.dispatch_tables.proofs.Owning.{from_insert, from_remove, owner_id}
use Rattle.event_manager.proofs.HeldIds.{removed_value, below_insert, below_joined, below_removed}
use Rattle.event_manager.proofs.Isolation.{insert_other_value, remove_other_value}
use Rattle.event_manager.proofs.FiniteMaps.{entered}

-- what the exchanges of id i do to the owners
record OwnersAfter (i : ℕ) (before after : Registrations) : Type 0 where
  from : (fd : ℕ) (j : ℕ) → Owns j after fd → Owns j before fd ⊎ (j ≡ i)
  endpoint_free : IsFree before before.endpoint → IsFree after after.endpoint

owners_same : (i : ℕ) (registrations : Registrations) → OwnersAfter i registrations registrations
owners_same i registrations = record { from = λ fd j h. inl h; endpoint_free = λ h. h }

owners_then : (i : ℕ) (a b c : Registrations) → OwnersAfter i a b → OwnersAfter i b c → OwnersAfter i a c
owners_then i a b c h k = record { from = λ fd j o. elim (k.from fd j o) [ inl p ↦ h.from fd j p | inr p ↦ inr p ]; endpoint_free = λ f. k.endpoint_free (h.endpoint_free f) }

owners_entered : (i : ℕ) (priority : Priority) (registrations : Registrations) (e : Event) → ¬ (e.fd ≡ registrations.endpoint) → OwnersAfter i registrations (entered i e priority registrations)
owners_entered i priority registrations e apart =
    let one : Ownership = record { id = i; priority = priority } in
    record {
      from = λ fd j o. elim (from_insert registrations.owners e.fd one fd j o) [ inl t ↦ inr (sym t.1) | inr t ↦ inl t ];
      endpoint_free = λ f. elim (fd_tells registrations.endpoint e.fd) [
        | inl t ↦ absurd (apart (sym t.1))
        | inr t ↦ get-insert nat_cmp_total registrations.owners e.fd one registrations.endpoint ∙ ap (λ b. cond b (Some one) (get registrations.owners registrations.endpoint)) t.0 ∙ f
      ];
    }

both_none : {A : Type 0} (b : Bool) → cond {A = Option A} b None None ≡ None
both_none true = refl
both_none false = refl

owners_after : (i : ℕ) (registrations : Registrations) (request : Request) → refusal_of i registrations request ≡ None → OwnersAfter i registrations (registrations_after i request registrations)
owners_after i registrations (Add e) h = owners_entered i Lowest registrations e (is_vacant registrations e.fd h).1
owners_after i registrations (AddWithPriority e priority) h = owners_entered i priority registrations e (is_vacant registrations e.fd h).1
owners_after i registrations (Modify e) h = owners_same i registrations
owners_after i registrations (Remove e) h = record {
  from = λ fd j o. inl (from_remove registrations.owners e.fd fd j o);
  endpoint_free = λ f.
      get-remove nat_cmp_total registrations.owners e.fd registrations.endpoint ∙ ap (λ o. cond (eq_by_cmp nat_cmp registrations.endpoint e.fd) None o) f
      ∙ both_none (eq_by_cmp nat_cmp registrations.endpoint e.fd);
}

owners_fit : (i : ℕ) (registrations : Registrations) (request : Request) (answer : Answer) (calls : List PollerCall) (after : Registrations) → Fits i registrations request answer calls after → OwnersAfter i registrations after
owners_fit i registrations request answer calls after (by_manager error h a r e) = subst (OwnersAfter i registrations) (sym e) (owners_same i registrations)
owners_fit i registrations request answer calls after (without_memory adds h a r e) = subst (OwnersAfter i registrations) (sym e) (owners_same i registrations)
owners_fit i registrations request answer calls after (by_poller n h a r e) = subst (OwnersAfter i registrations) (sym e) (owners_same i registrations)
owners_fit i registrations request answer calls after (by_agreement h a r e) = subst (OwnersAfter i registrations) (sym e) (owners_after i registrations request h)

owners_exchanges : (i : ℕ) (registrations : Registrations) (exchanges : Exchanges) (calls : List PollerCall) (after : Registrations) → ExchangesFit i registrations exchanges calls after → OwnersAfter i registrations after
owners_exchanges i registrations [] calls after h = subst (OwnersAfter i registrations) (sym h.1) (owners_same i registrations)
owners_exchanges i registrations (exchange ∷ exchanges) calls after (first, rest, mid, joined, fits, more) =
    owners_then i registrations mid after (owners_fit i registrations exchange.0 exchange.1 first mid fits) (owners_exchanges i mid exchanges rest after more)

gone_answer : (i : ℕ) (o : Option ℕ) → is_id i (cond (not (is_id i o)) o None) ≡ false
gone_answer i None = refl
gone_answer i (Some j) = elim (j == i) as (λ b. is_id i (cond (not b) (Some j) None) ≡ cond b false (j == i)) [ true ↦ refl | false ↦ refl ] ∙ ends (j == i)
  where
    ends : (b : Bool) → cond b false b ≡ false
    ends true = refl
    ends false = refl

gone : (i : ℕ) (owners : OwnerMap) (fd : ℕ) → is_id i (owner_of (without_owner i owners) fd) ≡ false
gone i owners fd = ap (is_id i) (owner_of-without_owner i owners fd) ∙ gone_answer i (owner_of owners fd)

still_free : (i : ℕ) (o : Option Ownership) → o ≡ None → cond (not (is_id i (owner_id o))) o None ≡ None
still_free i o e = rw e refl

module _ {V : Type 0} where
  -- values
  inserted_value : (k : ℕ) (values : FinMap nat_cmp V) (v : V) → get (insert values k v) k ≡ Some v
  inserted_value k values v = get-insert nat_cmp_total values k v k ∙ ap (λ r. cond (is_eq r) (Some v) (get values k)) (sym (nat_cmp_is k k Equal refl))

  has_insert : (j k : ℕ) (values : FinMap nat_cmp V) (u v : V) → get values j ≡ Some u → (w : V) × (get (insert values k v) j ≡ Some w)
  has_insert j k values u v h = elim (eqb_tells j k) [
    | inl t ↦ (v, ap (get (insert values k v)) t.1 ∙ inserted_value k values v)
    | inr t ↦ (u, insert_other_value k j values v t.1 ∙ h)
  ]

  lacks_insert : (j k : ℕ) (values : FinMap nat_cmp V) (v : V) → j ≢ k → get values j ≡ None → get (insert values k v) j ≡ None
  lacks_insert j k values v differ h = insert_other_value k j values v differ ∙ h

  lacks_remove : (j k : ℕ) (values : FinMap nat_cmp V) → get values j ≡ None → get (remove values k) j ≡ None
  lacks_remove j k values h = elim (eqb_tells j k) [
    | inl t ↦ ap (get (remove values k)) t.1 ∙ removed_value k values
    | inr t ↦ remove_other_value k j values t.1 ∙ h
  ]

  -- soundness stays
  sound_at : (before made : Registry V) → before ≡ made → IsSound made → IsSound before
  sound_at before made e s = subst (λ (r : Registry V). IsSound r) (sym e) s

  -- an id in the map has exchanges, and holds a value after them
  sound_exchanges : (before : Registry V) (i next : ℕ) (held : V) (exchanges : Exchanges) (calls : List PollerCall) (from registrations : Registrations) → IsSound before → from.owners ≡ before.registrations.owners → from.endpoint ≡ before.registrations.endpoint → ExchangesFit i from exchanges calls registrations → IsSound (record { values = insert before.values i held; next = next; registrations = registrations })
  sound_exchanges before i next held exchanges calls from registrations s same same_end fits =
      let o = owners_exchanges i from exchanges calls registrations fits in
      record {
        owners = λ fd j h. elim (o.from fd j h) [
          | inl p ↦ let v = s.owners fd j (ap (λ w. owner_of w fd) (sym same) ∙ p) in has_insert j i before.values v.0 held v.1
          | inr p ↦ (held, ap (get (insert before.values i held)) p ∙ inserted_value i before.values held)
        ];
        endpoint_free = o.endpoint_free ((λ k. get (same k) (same_end k)) ∙ s.endpoint_free);
      }

  sound_step : (begins : Begins V) (before : Registry V) (step : LoopStep V) (after : Registry V) → IsSound before → Steps begins before step after → IsSound after
  sound_step begins before (Joined value id exchanges calls held) after s (registrations, capacity, is, fits, beg, e) =
      sound_at after _ e (sound_exchanges before id (before.next + 1) held exchanges calls before.registrations registrations s refl refl fits)
  sound_step begins before (NotJoined value error) after s h = sound_at after before h.1 s
  sound_step begins before (Left id value calls) after s (fds, has, is_owner, deletes, e) = sound_at after _ e (record {
    owners = λ fd j h.
        let o = from_disowned id before.registrations.owners fd j h in
        let differ : j ≢ id = λ t. true≢false (sym (ap (is_id id) h ∙ ap (λ k. k == id) t ∙ eq-eqb id id refl) ∙ gone id before.registrations.owners fd) in
        let v = s.owners fd j o in (v.0, remove_other_value id j before.values differ ∙ v.1);
    endpoint_free = get-without_owner id before.registrations.owners before.registrations.endpoint ∙ still_free id (get before.registrations.owners before.registrations.endpoint) s.endpoint_free;
  })
  sound_step begins before (Replaced id old new) after s (has, e) = sound_at after _ e (record {
    owners = λ fd j h. let v = s.owners fd j h in has_insert j id before.values v.0 new v.1;
    endpoint_free = s.endpoint_free;
  })
  sound_step begins before (Requested id exchanges calls) after s (value, registrations, has, fits, e) =
      let o = owners_exchanges id before.registrations exchanges calls registrations fits in
      sound_at after _ e (record {
        owners = λ fd j h. elim (o.from fd j h) [ inl p ↦ s.owners fd j p | inr p ↦ (value, ap (get before.values) p ∙ has) ];
        endpoint_free = o.endpoint_free s.endpoint_free;
      })
  sound_step begins before (Refused id) after s h = sound_at after before h.1 s

  -- a registry as an event finds it, between the earlier positions and those that follow
  abbrev left : Registry V → List (Position V) → List (Position V) → Registry V
  left before earlier positions = with_pending (still_pending earlier (events_of positions)) before

  sound_delivery : (serves : Serves V) (before : Registry V) (removed : Bool) (e : Event) (delivery : Delivery V) (after : Registry V) → IsSound before → IsDelivery serves before removed e delivery after → IsSound after
  sound_delivery serves before removed e Nobody after s (nobody, is) = sound_at after _ is (record { owners = s.owners; endpoint_free = s.endpoint_free })
  sound_delivery serves before removed e (To i exchanges calls held) after s (value, registrations, for, serving, fits, is) =
      sound_at after _ is (sound_exchanges before i before.next held exchanges calls before.registrations registrations s refl refl fits)

  sound_positions : (serves : Serves V) (before : Registry V) (earlier positions : List (Position V)) (after : Registry V) → IsSound before → AreDispatched serves before earlier positions after → IsSound after
  sound_positions serves before earlier [] after s is = sound_at after _ is (record { owners = s.owners; endpoint_free = s.endpoint_free })
  sound_positions serves before earlier (d ∷ positions) after s (mid, out, more) = sound_positions serves mid (earlier ++ d ∷ []) positions after (sound_delivery serves (left before earlier positions) (is_removed d.event.fd earlier) d.event d.delivery mid (record { owners = s.owners; endpoint_free = s.endpoint_free }) out) more

  -- held ids stay below the next
  below_at : (after made : Registry V) → after ≡ made → AreBelow made.next made.values → AreBelow after.next after.values
  below_at after made e h = subst (λ (r : Registry V). AreBelow r.next r.values) (sym e) h

  below_step : (begins : Begins V) (before : Registry V) (step : LoopStep V) (after : Registry V) → AreBelow before.next before.values → Steps begins before step after → AreBelow after.next after.values
  below_step begins before (Joined value id exchanges calls held) after h (registrations, capacity, is, fits, beg, e) =
      below_at after _ e (below_joined id before.next before.values held is h)
  below_step begins before (NotJoined value error) after h s = below_at after before s.1 h
  below_step begins before (Left id value calls) after h (fds, has, is_owner, deletes, e) = below_at after _ e (below_removed id before.next before.values h)
  below_step begins before (Replaced id old new) after h (has, e) = below_at after _ e (below_insert id before.next before.values new (h id old has) h)
  below_step begins before (Requested id exchanges calls) after h (value, registrations, has, fits, e) = below_at after _ e h
  below_step begins before (Refused id) after h s = below_at after before s.1 h

  below_delivery : (serves : Serves V) (before : Registry V) (removed : Bool) (e : Event) (delivery : Delivery V) (after : Registry V) → AreBelow before.next before.values → IsDelivery serves before removed e delivery after → AreBelow after.next after.values
  below_delivery serves before removed e Nobody after h (nobody, is) = below_at after _ is h
  below_delivery serves before removed e (To i exchanges calls held) after h (value, registrations, for, serving, fits, is) = below_at after _ is (below_insert i before.next before.values held (h i value for.2) h)

  below_positions : (serves : Serves V) (before : Registry V) (earlier positions : List (Position V)) (after : Registry V) → AreBelow before.next before.values → AreDispatched serves before earlier positions after → AreBelow after.next after.values
  below_positions serves before earlier [] after h is = below_at after _ is h
  below_positions serves before earlier (d ∷ positions) after h (mid, out, more) = below_positions serves mid (earlier ++ d ∷ []) positions after (below_delivery serves (left before earlier positions) (is_removed d.event.fd earlier) d.event d.delivery mid h out) more

  -- the next id
  next_delivery : (serves : Serves V) (before : Registry V) (removed : Bool) (e : Event) (delivery : Delivery V) (after : Registry V) → IsDelivery serves before removed e delivery after → after.next ≡ before.next
  next_delivery serves before removed e Nobody after (nobody, is) = ap (λ (r : Registry V). r.next) is
  next_delivery serves before removed e (To i exchanges calls held) after (value, registrations, for, serving, fits, is) = ap (λ (r : Registry V). r.next) is

  next_positions : (serves : Serves V) (before : Registry V) (earlier positions : List (Position V)) (after : Registry V) → AreDispatched serves before earlier positions after → after.next ≡ before.next
  next_positions serves before earlier [] after is = ap (λ (r : Registry V). r.next) is
  next_positions serves before earlier (d ∷ positions) after (mid, out, more) = next_positions serves mid (earlier ++ d ∷ []) positions after more ∙ next_delivery serves (left before earlier positions) (is_removed d.event.fd earlier) d.event d.delivery mid out

  given_step : (begins : Begins V) (before : Registry V) (step : LoopStep V) (after : Registry V) → Steps begins before step after → AreGiven before.next (Made step ∷ []) after.next
  given_step begins before (Joined value id exchanges calls held) after (registrations, capacity, is, fits, beg, e) = (is, ap (λ (r : Registry V). r.next) e)
  given_step begins before (NotJoined value error) after h = ap (λ (r : Registry V). r.next) h.1
  given_step begins before (Left id value calls) after (fds, has, is_owner, deletes, e) = ap (λ (r : Registry V). r.next) e
  given_step begins before (Replaced id old new) after h = ap (λ (r : Registry V). r.next) h.1
  given_step begins before (Requested id exchanges calls) after (value, registrations, has, fits, e) = ap (λ (r : Registry V). r.next) e
  given_step begins before (Refused id) after h = ap (λ (r : Registry V). r.next) h.1

  given_join : (a b c : ℕ) (xs ys : List (Turn V)) → AreGiven a xs b → AreGiven b ys c → AreGiven a (xs ++ ys) c
  given_join a b c [] ys h k = subst (λ n. AreGiven n ys c) h k
  given_join a b c (Made (Joined value id exchanges calls held) ∷ xs) ys h k = (h.0, given_join (a + 1) b c xs ys h.1 k)
  given_join a b c (Made (NotJoined value error) ∷ xs) ys h k = given_join a b c xs ys h k
  given_join a b c (Made (Left id value calls) ∷ xs) ys h k = given_join a b c xs ys h k
  given_join a b c (Made (Replaced id old new) ∷ xs) ys h k = given_join a b c xs ys h k
  given_join a b c (Made (Requested id exchanges calls) ∷ xs) ys h k = given_join a b c xs ys h k
  given_join a b c (Made (Refused id) ∷ xs) ys h k = given_join a b c xs ys h k
  given_join a b c (Waited ms waited positions ∷ xs) ys h k = given_join a b c xs ys h k

  -- what is gone
  pub record IsGone (i : ℕ) (r : Registry V) : Type 0 where
    pub lacks : LacksId r i
    pub given : i < r.next

  gone_at : (i : ℕ) (after made : Registry V) → after ≡ made → IsGone i made → IsGone i after
  gone_at i after made e g = subst (IsGone i) (sym e) g

  some_none : (v : V) (o : Option V) → o ≡ None → o ≡ Some v → ⊥
  some_none v o e h = cc

  differs : (i id : ℕ) (r : Registry V) (v : V) → IsGone i r → HasId r id v → id ≢ i
  differs i id r v g has = λ e. some_none v (get r.values id) (ap (get r.values) e ∙ g.lacks) has

  gone_step : (begins : Begins V) (i : ℕ) (before : Registry V) (step : LoopStep V) (after : Registry V) → IsGone i before → Steps begins before step after → ((history : List (Turn V)) → AreRefusedTo i history → AreRefusedTo i (Made step ∷ history)) × IsGone i after
  gone_step begins i before (Joined value id exchanges calls held) after g (registrations, capacity, is, fits, beg, e) =
      let differ : id ≢ i = λ t. lt_irrefl before.next (subst (λ k. k < before.next) (sym t ∙ is) g.given) in
      (λ steps rest. (differ, rest), gone_at i after _ e (record { lacks = lacks_insert i id before.values held (λ t. differ (sym t)) g.lacks; given = (let b = g.given in omega arith) }))
  gone_step begins i before (NotJoined value error) after g h = (λ steps rest. (tt, rest), gone_at i after before h.1 g)
  gone_step begins i before (Left id value calls) after g (fds, has, is_owner, deletes, e) = (λ steps rest. (differs i id before value g has, rest), gone_at i after _ e (record { lacks = lacks_remove i id before.values g.lacks; given = g.given }))
  gone_step begins i before (Replaced id old new) after g (has, e) =
      let differ = differs i id before old g has in
      (λ steps rest. (differ, rest), gone_at i after _ e (record { lacks = lacks_insert i id before.values new (λ t. differ (sym t)) g.lacks; given = g.given }))
  gone_step begins i before (Requested id exchanges calls) after g (value, registrations, has, fits, e) = (λ steps rest. (differs i id before value g has, rest), gone_at i after _ e (record { lacks = g.lacks; given = g.given }))
  gone_step begins i before (Refused id) after g h = (λ steps rest. rest, gone_at i after before h.1 g)

  gone_delivery : (serves : Serves V) (i : ℕ) (before : Registry V) (removed : Bool) (e : Event) (delivery : Delivery V) (after : Registry V) → IsGone i before → IsDelivery serves before removed e delivery after → IsGone i after
  gone_delivery serves i before removed e Nobody after g (nobody, is) = gone_at i after _ is (record { lacks = g.lacks; given = g.given })
  gone_delivery serves i before removed e (To id exchanges calls held) after g (value, registrations, for, serving, fits, is) =
      let differ = differs i id before value g for.2 in
      gone_at i after _ is (record { lacks = lacks_insert i id before.values held (λ t. differ (sym t)) g.lacks; given = g.given })

  gone_positions : (serves : Serves V) (i : ℕ) (before : Registry V) (earlier positions : List (Position V)) (after : Registry V) → IsGone i before → AreDispatched serves before earlier positions after → IsGone i after
  gone_positions serves i before earlier [] after g is = gone_at i after _ is (record { lacks = g.lacks; given = g.given })
  gone_positions serves i before earlier (d ∷ positions) after g (mid, out, more) = gone_positions serves i mid (earlier ++ d ∷ []) positions after (gone_delivery serves i (left before earlier positions) (is_removed d.event.fd earlier) d.event d.delivery mid (record { lacks = g.lacks; given = g.given }) out) more

  left_is_gone : (begins : Begins V) (before : Registry V) (id : ℕ) (value : V) (calls : List PollerCall) (after : Registry V) → AreBelow before.next before.values → Steps begins before (Left id value calls) after → IsGone id after
  left_is_gone begins before id value calls after s (fds, has, is_owner, deletes, e) = gone_at id after _ e (record { lacks = removed_value id before.values; given = s id value has })

  -- each step's removal stays, where what follows refuses all that is gone after it
  stays_gone : (begins : Begins V) (before : Registry V) (step : LoopStep V) (after : Registry V) (history : List (Turn V)) → AreBelow before.next before.values → Steps begins before step after → ((i : ℕ) → IsGone i after → AreRefusedTo i history) → RemovedStayGone history → RemovedStayGone (Made step ∷ history)
  stays_gone begins before (Joined value id exchanges calls held) after steps s h k gone = gone
  stays_gone begins before (NotJoined value error) after steps s h k gone = gone
  stays_gone begins before (Left id value calls) after steps s h k gone = (k id (left_is_gone begins before id value calls after s h), gone)
  stays_gone begins before (Replaced id old new) after steps s h k gone = gone
  stays_gone begins before (Requested id exchanges calls) after steps s h k gone = gone
  stays_gone begins before (Refused id) after steps s h k gone = gone

module _ {V : Type 0} (begins : Begins V) (serves : Serves V) where
  -- what the turns between two registries are, and what stays true
  pub record Follows (before : Registry V) (history : List (Turn V)) (after : Registry V) : Type 0 where
    pub sound : IsSound before → IsSound after
    pub given : AreGiven before.next history after.next
    pub gone : (i : ℕ) → IsGone i before → AreRefusedTo i history × IsGone i after
    pub below : AreBelow before.next before.values → AreBelow after.next after.values
    pub removed : AreBelow before.next before.values → RemovedStayGone history

  follows_none : (before after : Registry V) → after ≡ before → Follows before [] after
  follows_none before after e = record {
    sound = λ s. sound_at after before e s;
    given = ap (λ (r : Registry V). r.next) e;
    gone = λ i g. (tt, gone_at i after before e g);
    below = below_at after before e;
    removed = λ h. tt;
  }

  -- one step first
  follows_cons : (before : Registry V) (step : LoopStep V) (mid : Registry V) (history : List (Turn V)) (after : Registry V) → Steps begins before step mid → Follows mid history after → Follows before (Made step ∷ history) after
  follows_cons before step mid history after h k = record {
    sound = λ s. k.sound (sound_step begins before step mid s h);
    given = given_join before.next mid.next after.next (Made step ∷ []) history (given_step begins before step mid h) k.given;
    gone = λ i g. let a = gone_step begins i before step mid g h in let b = k.gone i a.1 in (a.0 history b.0, b.1);
    below = λ b. k.below (below_step begins before step mid b h);
    removed = λ b. stays_gone begins before step mid history b h (λ i g. (k.gone i g).0) (k.removed (below_step begins before step mid b h));
  }

  -- a wait first
  follows_wait : (before : Registry V) (ms : ℤ) (waited : Result (List Event) Errno) (positions : List (Position V)) (mid : Registry V) (history : List (Turn V)) (after : Registry V) → IsTurn begins serves before (Waited ms waited positions) mid → Follows mid history after → Follows before (Waited ms waited positions ∷ history) after
  follows_wait before ms (Ok report) positions mid history after (order, h) k = record {
    sound = λ s. k.sound (sound_positions serves before [] positions mid s h);
    given = subst (λ n. AreGiven n history after.next) (next_positions serves before [] positions mid h) k.given;
    gone = λ i g. k.gone i (gone_positions serves i before [] positions mid g h);
    below = λ b. k.below (below_positions serves before [] positions mid b h);
    removed = λ b. k.removed (below_positions serves before [] positions mid b h);
  }
  follows_wait before ms (Err errno) positions mid history after (none, is) k = subst (λ r. Follows r (Waited ms (Err errno) positions ∷ history) after) is (record { sound = k.sound; given = k.given; gone = k.gone; below = k.below; removed = k.removed })

  pub history_follows : (before : Registry V) (history : List (Turn V)) (after : Registry V) → IsHistory begins serves before history after → Follows before history after
  history_follows before [] after is = follows_none before after is
  history_follows before (Made step ∷ history) after (mid, did, more) = follows_cons before step mid history after did (history_follows mid history after more)
  history_follows before (Waited ms waited positions ∷ history) after (mid, did, more) = follows_wait before ms waited positions mid history after did (history_follows mid history after more)

pub trace_follows : {V J R : Type 0} (begins : Begins V) (serves : Serves V) (may : May V J R) (before : LoopContents V) (trace : List (TraceEntry V J R)) (after : LoopContents V) → IsTrace begins serves may before trace after → Follows begins serves before.registry (history_of trace) after.registry
trace_follows begins serves may before trace after h = history_follows begins serves before.registry (history_of trace) after.registry (trace_is_history begins serves may before trace after h)

-- a new manager
pub new_is_sound : {V : Type 0} (endpoint : ℕ) → IsSound {V = V} (new_state endpoint).registry
new_is_sound {V} endpoint = record {
  owners = λ fd i h. let s : None ≡ Some i = sym (ap owner_id (get-empty nat_cmp fd)) ∙ h in cc;
  endpoint_free = get-empty nat_cmp endpoint;
}

pub none_below : {V : Type 0} (next : ℕ) → AreBelow {V = V} next empty
none_below {V} next i v h = let s : None ≡ Some v = sym (get-empty nat_cmp i) ∙ h in cc
