-- One position of a batch, and the batch.
use Rattle.std.proofs.Common.{◌≡◌, ℕ, refl, sym, ap, subst, ◌∙◌, List, [], ◌∷◌, ◌++◌, Bool, true, false, ◌⊎◌, Some, None, Option, option_map, ⊎_elim, not, cond, ◌||◌, ◌==◌, map, length, Result, Ok, Err, ℤ}
use Rattle.vmm_sys.specs.declared.errno.Errno.{Errno}
use Rattle.event_loop.specs.Registry as model
use Rattle.std.proofs.lemmas.List.{append-nil, map-append}
use Rattle.std.proofs.lemmas.List.Concat.{flat_map-append}
use Rattle.std.proofs.lemmas.List.Folds.{list_any-append}
use Rattle.std.proofs.lemmas.List.Sorted.{list_any-IsPermutation}
use Rattle.std.specs.FinMap.{get}
use Rattle.dispatch_tables.specs.Members.{with_member}
use Rattle.event_loop.specs.Prelude.{Event, Registrations, Owns, owner_of, class_in, IsDispatchOrder, PollerCall, Wait, Exchanges, ExchangesFit, has_removal, Serves, HasId, Nobody, To, Position, exchanges_of, is_removed, still_pending, events_of, with_pending, IsDelivery, AreDispatched, calls_of_delivery, calls_of_positions, is_reported, AreMade, Controls, Waits, Leads}
use Rattle.dispatch_tables.specs.Owners.{ownership_of}
use Rattle.dispatch_tables.specs.declared.owners.Owner.{Owner}
use Rattle.dispatch_tables.proofs.DispatchOrders.{nil_cons, head_is, tail_is, ordered_permutation}
use Rattle.event_loop.specs.RegistrationState.{RegistrationState, not_cancelled, registrations_of, cancel_removed, all_pending, HasWaited}
use Rattle.event_loop.proofs.DispatchSoFar.{AreDispatchedSoFar, so_far_none, so_far_more, so_far_all}
use Rattle.event_loop.specs.Subscribers.{registry_of, loop_state, TakesPosition, IsDispatched, IsBatch}
use Rattle.event_loop.specs.declared.registry.Registry.{Registry}
use Rattle.event_loop.proofs.ExchangeLemmas.{or_false, cancel_removed_marks, marked, leads_join, exchanges_keep_endpoint}
use Rattle.dispatch_tables.proofs.Owning.{owner_id}

true_false : (b : Bool) → b ≡ true → b ≡ false → ⊥
true_false b e f = cc

module _ {S P : Type 0} {controls : Controls P} {waits : Waits P} (serves : Serves S) where
  pub nobody_position : (before after : Registry S P) (event : Event) (cancelled is_endpoint : Bool) (rest : List (Event × Bool))
      → before.ops.epoll.registrations.ready ≡ (event, cancelled) ∷ rest → after.ops.epoll.registrations ≡ record before.ops.epoll.registrations { ready = rest } → after.subscribers ≡ before.subscribers
      → ((cancelled ≡ true) ⊎ ((i : ℕ) (value : S) → ¬ (Owns i (registrations_of before.ops.epoll.registrations) event.fd × HasId (registry_of before) i value)))
      → Leads controls waits before.ops.epoll.poller [] after.ops.epoll.poller
      → is_endpoint ≡ (event.fd == before.ops.epoll.registrations.endpoint)
      → TakesPosition serves controls waits before is_endpoint after
  nobody_position before after event cancelled is_endpoint rest was registrations subs why led noticed = record {
    event = event;
    cancelled = cancelled;
    later = rest;
    delivery = Nobody;
    was = was;
    had = (
      (λ i value is. ⊎_elim (λ e. true_false _ e is.1) (λ none. none i value (is.0, is.2)) why),
      λ k. record { values = (subs k).by_id; next = (subs k).next; registrations = registrations_of (registrations k) },
    );
    ready = ap (λ (b : RegistrationState). b.ready) registrations;
    led = led;
    same_capacity = ap (λ (b : RegistrationState). b.capacity) registrations;
    same_endpoint = ap (λ (b : RegistrationState). b.endpoint) registrations;
    noticed = noticed;
  }

  pub served_position : (before after : Registry S P) (event : Event) (is_endpoint : Bool) (rest : List (Event × Bool)) (mid : RegistrationState)
      (id : ℕ) (value held : S) (exchanges : Exchanges) (calls : List PollerCall)
      → before.ops.epoll.registrations.ready ≡ (event, false) ∷ rest → mid ≡ record before.ops.epoll.registrations { ready = rest } → owner_of mid.owners event.fd ≡ Some id → HasId (registry_of before) id value → serves value event exchanges held
      → AreMade controls waits (record { registrations = mid; poller = before.ops.epoll.poller }) after.ops.epoll id exchanges calls
      → after.subscribers ≡ with_member before.subscribers id held
      → is_endpoint ≡ (event.fd == before.ops.epoll.registrations.endpoint)
      → TakesPosition serves controls waits before is_endpoint after
  served_position before after event is_endpoint rest mid id value held exchanges calls was registrations owns has served made members noticed = record {
    event = event;
    cancelled = false;
    later = rest;
    delivery = To id exchanges calls held;
    was = was;
    had = (
      value,
      registrations_of after.ops.epoll.registrations,
      (subst (λ (b : RegistrationState). owner_of b.owners event.fd ≡ Some id) registrations owns, refl, has),
      served,
      subst (λ (b : RegistrationState). ExchangesFit id (registrations_of b) exchanges calls (registrations_of after.ops.epoll.registrations)) registrations made.fits,
      λ k. record { values = (members k).by_id; next = (members k).next; registrations = registrations_of after.ops.epoll.registrations },
    );
    ready = made.ready ∙ ap (λ (b : RegistrationState). cancel_removed exchanges b.ready) registrations;
    led = made.led;
    same_capacity = made.same_capacity ∙ ap (λ (b : RegistrationState). b.capacity) registrations;
    same_endpoint = exchanges_keep_endpoint id (registrations_of mid) exchanges calls (registrations_of after.ops.epoll.registrations) made.fits ∙ ap (λ (b : RegistrationState). b.endpoint) registrations;
    noticed = noticed;
  }

taken : {A : Type 0} (x : A) → None ≡ Some x → ⊥
taken x e = cc

same_some : {A : Type 0} (o : Option A) (x y : A) → o ≡ Some x → o ≡ Some y → x ≡ y
same_some o x y e f = cc

-- the id of the owner that a look-up found
abbrev pub found_id : Option Owner → Option ℕ
found_id found = owner_id (option_map ownership_of found)

module _ {S P : Type 0} (before : Registry S P) (mid : RegistrationState) (fd : ℕ) (rest : List (Event × Bool)) where
  pub not_owned : mid ≡ record before.ops.epoll.registrations { ready = rest } → owner_of mid.owners fd ≡ None → (i : ℕ) (value : S) → ¬ (Owns i (registrations_of before.ops.epoll.registrations) fd × HasId (registry_of before) i value)
  not_owned registrations none i value h = taken i (sym (subst (λ (b : RegistrationState). owner_of b.owners fd ≡ None) registrations none) ∙ h.0)

  pub not_there : (id : ℕ) → mid ≡ record before.ops.epoll.registrations { ready = rest } → owner_of mid.owners fd ≡ Some id → get before.subscribers.by_id id ≡ None → (i : ℕ) (value : S) → ¬ (Owns i (registrations_of before.ops.epoll.registrations) fd × HasId (registry_of before) i value)
  not_there id registrations owns none i value h =
      let same = same_some _ id i (subst (λ (b : RegistrationState). owner_of b.owners fd ≡ Some id) registrations owns) h.0 in
      taken value (sym (subst (λ j. get before.subscribers.by_id j ≡ None) same none) ∙ h.1)

-- with a mark where one of these positions removed the descriptor
abbrev pub cancelled_by : {V : Type 0} → List (Position V) → List Event → List (Event × Bool)
cancelled_by positions later = map (λ (e : Event). (e, is_removed e.fd positions)) later

pub is_removed-push : {V : Type 0} (fd : ℕ) (positions : List (Position V)) (d : Position V) → is_removed fd (positions ++ d ∷ []) ≡ is_removed fd positions || has_removal fd (exchanges_of d.delivery)
is_removed-push {V} fd positions d =
    list_any-append (λ (p : Position V). has_removal fd (exchanges_of p.delivery)) positions (d ∷ []) ∙ ap (λ b. is_removed fd positions || b) (or_false (has_removal fd (exchanges_of d.delivery)))

marked_more : {V : Type 0} (positions : List (Position V)) (d : Position V) (later : List Event) → marked (exchanges_of d.delivery) (cancelled_by positions later) ≡ cancelled_by (positions ++ d ∷ []) later
marked_more positions d [] = refl
marked_more positions d (e ∷ later) = ap (λ b. (e, b) ∷ marked (exchanges_of d.delivery) (cancelled_by positions later)) (sym (is_removed-push e.fd positions d)) ∙ ap (λ r. (e, is_removed e.fd (positions ++ d ∷ [])) ∷ r) (marked_more positions d later)

cancelled_more : {V : Type 0} (positions : List (Position V)) (d : Position V) (later : List Event) → cancel_removed (exchanges_of d.delivery) (cancelled_by positions later) ≡ cancelled_by (positions ++ d ∷ []) later
cancelled_more positions d later = cancel_removed_marks (exchanges_of d.delivery) (cancelled_by positions later) ∙ marked_more positions d later

not_cancelled_one : (e : Event) (b : Bool) (rest : List (Event × Bool)) (more : List Event) → not_cancelled rest ≡ more → not_cancelled ((e, b) ∷ rest) ≡ cond (not b) (e ∷ more) more
not_cancelled_one e true rest more h = h
not_cancelled_one e false rest more h = ap (λ l. e ∷ l) h

not_cancelled_marks : {V : Type 0} (positions : List (Position V)) (later : List Event) → not_cancelled (cancelled_by positions later) ≡ still_pending positions later
not_cancelled_marks positions [] = refl
not_cancelled_marks positions (e ∷ later) = not_cancelled_one e (is_removed e.fd positions) (cancelled_by positions later) (still_pending positions later) (not_cancelled_marks positions later)

calls_more : {V : Type 0} (positions : List (Position V)) (d : Position V) → calls_of_positions (positions ++ d ∷ []) ≡ calls_of_positions positions ++ calls_of_delivery d.delivery
calls_more {V} positions d =
    flat_map-append (λ (p : Position V). calls_of_delivery p.delivery) positions (d ∷ []) ∙ ap (λ xs. calls_of_positions positions ++ xs) (append-nil (calls_of_delivery d.delivery))

events_more : {V : Type 0} (positions : List (Position V)) (d : Position V) (later : List Event) → events_of (positions ++ d ∷ []) ++ later ≡ events_of positions ++ d.event ∷ later
events_more [] d later = refl
events_more (x ∷ positions) d later = ap (λ xs. x.event ∷ xs) (events_more positions d later)

reported_more : {V : Type 0} (fd : ℕ) (positions : List (Position V)) (d : Position V) → is_reported fd (events_of (positions ++ d ∷ [])) ≡ is_reported fd (events_of positions) || (d.event.fd == fd)
reported_more {V} fd positions d =
    ap (is_reported fd) (map-append (λ (p : Position V). p.event) positions (d ∷ [])) ∙ list_any-append (λ (e : Event). e.fd == fd) (events_of positions) (d.event ∷ [])
    ∙ ap (λ b. is_reported fd (events_of positions) || b) (or_false (d.event.fd == fd))

-- an order of dispatch reports what the report does
reported_in_order : (registrations : Registrations) (fd : ℕ) (report ordered : List Event) → IsDispatchOrder registrations report ordered → is_reported fd ordered ≡ is_reported fd report
reported_in_order registrations fd report ordered h = sym (list_any-IsPermutation (λ (e : Event). e.fd == fd) report ordered (ordered_permutation (λ q. class_in registrations.owners q) report ordered h))

no_events : {V : Type 0} (positions : List (Position V)) (later : List Event) → cancelled_by positions later ≡ [] → later ≡ []
no_events positions [] e = refl
no_events positions (x ∷ later) e = absurd (nil_cons _ _ (sym e))

module _ {S P : Type 0} (serves : Serves S) where
  module _ (controls : Controls P) (waits : Waits P) where
    -- the batch, as far as it was dispatched
    pub record DispatchedSoFar (start now : Registry S P) (report : List Event) (endpoint_ready : Bool) : Type 0 where
      pub positions : List (Position S)
      pub later : List Event
      pub events : events_of positions ++ later ≡ report
      pub ready : now.ops.epoll.registrations.ready ≡ cancelled_by positions later
      pub dispatched : AreDispatchedSoFar serves (registry_of start) positions later (registry_of now)
      pub led : Leads controls waits start.ops.epoll.poller (calls_of_positions positions) now.ops.epoll.poller
      pub same_capacity : now.ops.epoll.registrations.capacity ≡ start.ops.epoll.registrations.capacity
      pub same_endpoint : now.ops.epoll.registrations.endpoint ≡ start.ops.epoll.registrations.endpoint
      pub noticed : endpoint_ready ≡ is_reported start.ops.epoll.registrations.endpoint (events_of positions)

    pub so_far_start : (start : Registry S P) (report : List Event) → start.ops.epoll.registrations.ready ≡ all_pending report → DispatchedSoFar start start report false
    so_far_start start report h = record { positions = []; later = report; events = refl; ready = h; dispatched = so_far_none serves (registry_of start) report; led = refl; same_capacity = refl; same_endpoint = refl; noticed = refl }

    next_one : (start now next : Registry S P) (report : List Event) (endpoint_ready is_endpoint : Bool) (positions : List (Position S)) (later : List Event) → events_of positions ++ later ≡ report → now.ops.epoll.registrations.ready ≡ cancelled_by positions later
        → AreDispatchedSoFar serves (registry_of start) positions later (registry_of now) → Leads controls waits start.ops.epoll.poller (calls_of_positions positions) now.ops.epoll.poller
        → now.ops.epoll.registrations.capacity ≡ start.ops.epoll.registrations.capacity → now.ops.epoll.registrations.endpoint ≡ start.ops.epoll.registrations.endpoint
        → endpoint_ready ≡ is_reported start.ops.epoll.registrations.endpoint (events_of positions) → TakesPosition serves controls waits now is_endpoint next → DispatchedSoFar start next report (endpoint_ready || is_endpoint)
    next_one start now next report endpoint_ready is_endpoint positions [] events ready dispatched led same same_endpoint noticed step = absurd (nil_cons _ _ (sym ready ∙ step.was))
    next_one start now next report endpoint_ready is_endpoint positions (e ∷ es) events ready dispatched led same same_endpoint noticed step =
        let both = sym ready ∙ step.was in
        let first = head_is _ _ _ _ both in
        let rest = tail_is _ _ _ _ both in
        let position : Position S = record { event = e; delivery = step.delivery } in
        let here = subst (λ p. IsDelivery serves (with_pending (not_cancelled step.later) (registry_of now)) p.1 p.0 step.delivery (registry_of next)) (sym first) step.had in
        let left = ap not_cancelled (sym rest) ∙ not_cancelled_marks positions es in
        let had = subst (λ l. IsDelivery serves (with_pending l (registry_of now)) (is_removed e.fd positions) e step.delivery (registry_of next)) left here in
        record {
          positions = positions ++ position ∷ [];
          later = es;
          events = events_more positions position es ∙ events;
          ready = step.ready ∙ ap (cancel_removed (exchanges_of step.delivery)) (sym rest) ∙ cancelled_more positions position es;
          dispatched = so_far_more serves (registry_of start) (registry_of now) (registry_of next) positions e es step.delivery dispatched had;
          led = subst (λ xs. Leads controls waits start.ops.epoll.poller xs next.ops.epoll.poller) (sym (calls_more positions position)) (leads_join controls waits start.ops.epoll.poller now.ops.epoll.poller next.ops.epoll.poller (calls_of_positions positions) (calls_of_delivery step.delivery) led step.led);
          same_capacity = step.same_capacity ∙ same;
          same_endpoint = step.same_endpoint ∙ same_endpoint;
          noticed =
              ap (λ b. b || is_endpoint) noticed ∙ ap (λ b. is_reported start.ops.epoll.registrations.endpoint (events_of positions) || b) (step.noticed ∙ ap (λ (p : Event × Bool). p.0.fd == now.ops.epoll.registrations.endpoint) (sym first) ∙ ap (λ fd. e.fd == fd) same_endpoint)
              ∙ sym (reported_more start.ops.epoll.registrations.endpoint positions position);
        }

    pub so_far_position : (start now next : Registry S P) (report : List Event) (endpoint_ready is_endpoint : Bool) → DispatchedSoFar start now report endpoint_ready → TakesPosition serves controls waits now is_endpoint next → DispatchedSoFar start next report (endpoint_ready || is_endpoint)
    so_far_position start now next report endpoint_ready is_endpoint so_far step =
        next_one start now next report endpoint_ready is_endpoint so_far.positions so_far.later so_far.events so_far.ready so_far.dispatched so_far.led so_far.same_capacity so_far.same_endpoint so_far.noticed step

    pub so_far_end : (start now : Registry S P) (report : List Event) (endpoint_ready : Bool) → DispatchedSoFar start now report endpoint_ready → now.ops.epoll.registrations.ready ≡ [] → IsDispatched serves controls waits start now report endpoint_ready
    so_far_end start now report endpoint_ready so_far none =
        let over = no_events so_far.positions so_far.later (sym so_far.ready ∙ none) in
        let whole = sym (append-nil (events_of so_far.positions)) ∙ ap (λ l. events_of so_far.positions ++ l) (sym over) ∙ so_far.events in
        let all = so_far_all serves (registry_of start) (registry_of now) so_far.positions (subst (λ l. AreDispatchedSoFar serves (registry_of start) so_far.positions l (registry_of now)) over so_far.dispatched) in
        record {
          positions = so_far.positions;
          events = whole;
          dispatched = subst (λ l. AreDispatched serves (registry_of start) [] so_far.positions (with_pending (not_cancelled l) (registry_of now))) (sym none) all;
          led = so_far.led;
          same_capacity = so_far.same_capacity;
          over = none;
          noticed = so_far.noticed ∙ ap (is_reported start.ops.epoll.registrations.endpoint) whole;
        }

fst_all_pending : (report : List Event) → map (λ (p : Event × Bool). p.0) (all_pending report) ≡ report
fst_all_pending [] = refl
fst_all_pending (e ∷ report) = ap (λ r. e ∷ r) (fst_all_pending report)

ok_err : {A E : Type 0} (r : Result A E) (x : A) (e : E) → r ≡ Ok x → r ≡ Err e → ⊥
ok_err r x e h k = cc

ok_same : {A E : Type 0} (r : Result A E) (x y : A) → r ≡ Ok x → r ≡ Ok y → x ≡ y
ok_same r x y h k = cc

pub waited_all_pending : (s t : RegistrationState) (answer : Result (List Event) Errno) (result : Result ℕ Errno) (n : ℕ) → HasWaited s answer result t → result ≡ Ok n → t.ready ≡ all_pending (map (λ (p : Event × Bool). p.0) t.ready)
waited_all_pending s t (Ok report) result n h is =
    let came = ap (λ (b : RegistrationState). b.ready) h.3 in
    came ∙ ap all_pending (sym (ap (map (λ (p : Event × Bool). p.0)) came ∙ fst_all_pending h.0))
waited_all_pending s t (Err e) result n h is = absurd (ok_err result n e is h.0)

module _ {V : Type 0} (serves : Serves V) where
  from_any_pending : (b : model.Registry V) (x : List Event) (positions : List (Position V)) (a : model.Registry V) → AreDispatched serves (with_pending x b) [] positions a → AreDispatched serves b [] positions a
  from_any_pending b x [] a h = h
  from_any_pending b x (position ∷ positions) a h = h

module _ {S P : Type 0} (serves : Serves S) (controls : Controls P) (waits : Waits P) where
  pub batch_ok : (start after : Registry S P) (registrations : RegistrationState) (poller : P) (ms : ℤ) (answer : Result (List Event) Errno) (result : Result ℕ Errno) (n : ℕ) (endpoint_ready : Bool)
      → Leads controls waits start.ops.epoll.poller (Wait ms start.ops.epoll.registrations.capacity answer ∷ []) poller → HasWaited start.ops.epoll.registrations answer result registrations → result ≡ Ok n
      → IsDispatched serves controls waits (record { subscribers = start.subscribers; ops = record { epoll = record { registrations = registrations; poller = poller }; id = start.ops.id; place = start.ops.place } }) after (map (λ (p : Event × Bool). p.0) registrations.ready) endpoint_ready
      → IsBatch serves controls waits (loop_state start) ms (Ok (record { count = n; endpoint_ready = endpoint_ready })) (loop_state after)
  batch_ok start after registrations poller ms (Ok report) result n endpoint_ready led waited is dispatched =
      let (ordered, order, counted, after_wait) = waited in
      let came = ap (λ (b : RegistrationState). b.ready) after_wait in
      let ready = ap (map (λ (p : Event × Bool). p.0)) came ∙ fst_all_pending ordered in
      let from = subst (λ (b : RegistrationState). AreDispatched serves (record { values = start.subscribers.by_id; next = start.subscribers.next; registrations = registrations_of b }) [] dispatched.positions (registry_of after)) after_wait dispatched.dispatched in
      let onto = subst (λ l. AreDispatched serves (with_pending [] (registry_of start)) [] dispatched.positions (with_pending (not_cancelled l) (registry_of after))) dispatched.over
      (from_any_pending serves (with_pending [] (registry_of start)) (not_cancelled (all_pending ordered)) dispatched.positions (registry_of after) from) in
      record {
        waited = Ok report;
        positions = dispatched.positions;
        answer = ap Ok (ok_same result n (length report) is counted);
        noticed =
            dispatched.noticed ∙ ap (λ l. is_reported registrations.endpoint l) ready ∙ ap (λ (b : RegistrationState). is_reported b.endpoint ordered) after_wait
            ∙ reported_in_order (registrations_of start.ops.epoll.registrations) start.ops.epoll.registrations.endpoint report ordered order;
        dispatched = (subst (λ es. IsDispatchOrder (registrations_of start.ops.epoll.registrations) report es) (sym (dispatched.events ∙ ready)) order, onto);
        led = leads_join controls waits start.ops.epoll.poller poller after.ops.epoll.poller (Wait ms start.ops.epoll.registrations.capacity (Ok report) ∷ []) (calls_of_positions dispatched.positions) led dispatched.led;
        same_capacity = dispatched.same_capacity ∙ ap (λ (b : RegistrationState). b.capacity) after_wait;
      }
  batch_ok start after registrations poller ms (Err e) result n endpoint_ready led waited is dispatched = absurd (ok_err result n e is waited.0)
