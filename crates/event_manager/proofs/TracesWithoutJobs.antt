-- Of a trace in which no job ran, a projection of its history is the history of a trace with the same calls and replies.
use Rattle.std.proofs.Common.{◌≡◌, ℕ, ℤ, ◌+◌, ◌≤◌, Bool, true, false, refl, sym, ◌∙◌, ap, ap₂, subst, cond, if◌then◌else◌, map, filter, All, List, [], ◌∷◌, ◌++◌, eq-eqb, le_of_eq, arith, Ok, Err, Result, nat_lt, ◌<◌, lt_irrefl, inl, inr, IsTrue}
use Rattle.std.specs.List.{flat_map}
use Rattle.std.proofs.lemmas.List.{append-nil}
use Rattle.std.proofs.lemmas.List.Concat.{flat_map-append}
use Rattle.std.proofs.lemmas.List.Elements.{All-nil, All-cons, All-head, All-tail}
use Rattle.vmm_sys.specs.declared.errno.Errno.{Errno}
use Rattle.event_loop.specs.Prelude.{Event, Begins, Serves, Registry, LoopStep, May, is_id, id_of, Position, LoopContents, JobRun, IsIteration, AreRun, Delivery, Nobody, To, IsDelivery, AreDispatched, with_pending, still_pending, events_of, is_removed, Joined, NotJoined, Left, Replaced, Requested, Refused}
use Rattle.event_manager.specs.Trace.{Effect, Stepped, Iterated, TraceEntry, Matches, HasEffect, IsTrace}
use Rattle.event_manager.specs.History.{Turn, Made, Waited, IsTurn, IsHistory, turns_of, history_of}
use Rattle.event_manager.specs.TraceProjection.{is_seen, projected_effect, entries_seen, IsOnlyEffect, IsTraceProjection, effect_exchanges, trace_exchanges, projected_state, TracesProject}
use Rattle.event_manager.specs.Projection.{next_for, projected_registry, receiver_of, seen, IsOnly, asks_to_add, has_addition, turn_exchanges, exchanges_in, IsApart}
use Rattle.dispatch_tables.proofs.DispatchOrders.{nil_cons, head_is, tail_is}
use Rattle.event_manager.proofs.Histories.{trace_is_history}
use Rattle.event_manager.proofs.ProjectedHistory.{is_id_Some, non_interference}

module _ {V : Type 0} (i : ℕ) where
  abbrev own_turn : Turn V → Turn V
  own_turn (Made step) = Made step
  own_turn (Waited ms waited positions) = Waited ms waited (filter (λ position. is_id i (receiver_of position.delivery)) positions)

  only_seen : (turn : Turn V) → IsOnly i turn → seen i turn ≡ own_turn turn ∷ []
  only_seen (Made step) h = ap (λ b. if b then Made step ∷ [] else []) (ap (is_id i) h ∙ eq-eqb i i refl)
  only_seen (Waited ms waited positions) h = refl

  nothing_seen : (history : List (Turn V)) → All (IsOnly i) history → flat_map (seen i) history ≡ [] → history ≡ []
  nothing_seen [] only e = refl
  nothing_seen (turn ∷ history) only e = absurd (nil_cons _ _ (sym e ∙ ap (λ xs. xs ++ flat_map (seen i) history) (only_seen turn (All-head (IsOnly i) turn history only))))

  made_is : (turn : Turn V) (step : LoopStep V) → own_turn turn ≡ Made step → turn ≡ Made step
  made_is (Made other) step e = e
  made_is (Waited ms waited positions) step e = cc

  abbrev to_i : List (Position V) → List (Position V)
  to_i positions = filter (λ position. is_id i (receiver_of position.delivery)) positions

  waited_is : (turn : Turn V) (ms : ℤ) (waited : Result (List Event) Errno) (got : List (Position V)) → own_turn turn ≡ Waited ms waited got → (positions : List (Position V)) × (turn ≡ Waited ms waited positions) × (to_i positions ≡ got)
  waited_is (Made step) ms waited got e = let no : ⊥ = cc in absurd no
  waited_is (Waited other_ms other positions) ms waited got e =
      let same_ms : other_ms ≡ ms = cc in
      let same : other ≡ waited = cc in
      let same_got : to_i positions ≡ got = cc in
      (positions, ap₂ (λ m w. Waited m w positions) same_ms same, same_got)

module _ {V : Type 0} (begins : Begins V) (serves : Serves V) (i : ℕ) where
  record FirstTurn (x : Turn V) (xs : List (Turn V)) (from to : Registry V) : Type 0 where
    turn : Turn V
    rest : List (Turn V)
    mid : Registry V
    is : own_turn i turn ≡ x
    are : flat_map (seen i) rest ≡ xs
    only : IsOnly i turn
    all_only : All (IsOnly i) rest
    did : IsTurn begins serves from turn mid
    more : IsHistory begins serves mid rest to

  first_turn : (history : List (Turn V)) (x : Turn V) (xs : List (Turn V)) (from to : Registry V) → flat_map (seen i) history ≡ x ∷ xs → All (IsOnly i) history → IsHistory begins serves from history to → FirstTurn x xs from to
  first_turn [] x xs from to e only h = absurd (nil_cons _ _ e)
  first_turn (turn ∷ history) x xs from to e only (mid, did, more) =
      let one = All-head (IsOnly i) turn history only in
      let parts = sym (ap (λ xs. xs ++ flat_map (seen i) history) (only_seen i turn one)) ∙ e in
      record { turn = turn; rest = history; mid = mid; is = head_is _ _ _ _ parts; are = tail_is _ _ _ _ parts; only = one; all_only = All-tail (IsOnly i) turn history only; did = did; more = more }

module _ {V J R : Type 0} (i : ℕ) where
  seen_entry : (entry : TraceEntry V J R) (trace : List (TraceEntry V J R)) (b : Bool) → is_seen i entry.effect ≡ b → entries_seen i (entry ∷ trace) ≡ cond b (record entry { effect = projected_effect i entry.effect } ∷ entries_seen i trace) (entries_seen i trace)
  seen_entry entry trace true e = ap (λ b. map (λ (entry : TraceEntry V J R). record entry { effect = projected_effect i entry.effect }) (cond b (entry ∷ filter (λ e. is_seen i e.effect) trace) (filter (λ e. is_seen i e.effect) trace))) e
  seen_entry entry trace false e = ap (λ b. map (λ (entry : TraceEntry V J R). record entry { effect = projected_effect i entry.effect }) (cond b (entry ∷ filter (λ e. is_seen i e.effect) trace) (filter (λ e. is_seen i e.effect) trace))) e

module _ {V J R : Type 0} (begins : Begins V) (serves : Serves V) (may : May V J R) where
  -- jobs are counted
  jobs_grow : (before : LoopContents V) (jobs : List (JobRun V J R)) (after : LoopContents V) → AreRun begins serves may before jobs after → before.taken ≤ after.taken
  jobs_grow before [] after is = le_of_eq (sym (ap (λ (s : LoopContents V). s.taken) is))
  jobs_grow before (job_run ∷ jobs) after (mid, ticket, chosen, steps, more) = let m = jobs_grow (record { registry = mid; taken = before.taken + 1 }) jobs after more in omega arith

  no_jobs : (before : LoopContents V) (jobs : List (JobRun V J R)) (after : LoopContents V) → after.taken ≡ before.taken → AreRun begins serves may before jobs after → jobs ≡ []
  no_jobs before [] after same is = refl
  no_jobs before (job_run ∷ jobs) after same (mid, ticket, chosen, steps, more) = let m = jobs_grow (record { registry = mid; taken = before.taken + 1 }) jobs after more in absurd (omega arith)

  wait_grows : (before : LoopContents V) (waited : Result (List Event) Errno) (positions : List (Position V)) (jobs : List (JobRun V J R)) (after : LoopContents V) → IsIteration begins serves may before waited positions jobs after → before.taken ≤ after.taken
  wait_grows before (Ok report) positions jobs after (mid, dispatch, none, job_run) = jobs_grow (record before { registry = mid }) jobs after job_run
  wait_grows before (Err errno) positions jobs after (no_positions, none, is) = le_of_eq (sym (ap (λ (s : LoopContents V). s.taken) is))

  wait_idle : (before : LoopContents V) (waited : Result (List Event) Errno) (positions : List (Position V)) (jobs : List (JobRun V J R)) (after : LoopContents V) → after.taken ≡ before.taken → IsIteration begins serves may before waited positions jobs after → jobs ≡ []
  wait_idle before (Ok report) positions jobs after same (mid, dispatch, none, job_run) = no_jobs (record before { registry = mid }) jobs after same job_run
  wait_idle before (Err errno) positions jobs after same (no_positions, none, is) = none

  does_grow : (before : LoopContents V) (effect : Effect V J R) (after : LoopContents V) → HasEffect begins serves may before effect after → before.taken ≤ after.taken
  does_grow before (Stepped step) after h = le_of_eq (sym h.1)
  does_grow before (Iterated iteration) after h = wait_grows before iteration.waited iteration.positions iteration.jobs after h

  trace_grows : (before : LoopContents V) (trace : List (TraceEntry V J R)) (after : LoopContents V) → IsTrace begins serves may before trace after → before.taken ≤ after.taken
  trace_grows before [] after is = le_of_eq (sym (ap (λ (s : LoopContents V). s.taken) is))
  trace_grows before (entry ∷ trace) after (mid, made, has_effect, more) = let a = does_grow before entry.effect mid has_effect in let b = trace_grows mid trace after more in omega arith

  abbrev state_of : Registry V → ℕ → LoopContents V
  state_of registry taken = record { registry = registry; taken = taken }

  -- a wait without jobs
  idle_iteration : (from : Registry V) (taken : ℕ) (ms : ℤ) (waited : Result (List Event) Errno) (positions : List (Position V)) (jobs : List (JobRun V J R)) (to : Registry V) → jobs ≡ [] → IsTurn begins serves from (Waited ms waited positions) to → IsIteration begins serves may (state_of from taken) waited positions jobs (state_of to taken)
  idle_iteration from taken ms (Ok report) positions jobs to none dispatch = (to, dispatch, (λ all. none), subst (λ js. AreRun begins serves may (state_of to taken) js (state_of to taken)) (sym none) refl)
  idle_iteration from taken ms (Err errno) positions jobs to none (no_positions, is) = (no_positions, none, ap (λ r. state_of r taken) is)

  module _ (i : ℕ) where
    record Retraced (from : LoopContents V) (trace : List (TraceEntry V J R)) (to : LoopContents V) : Type 0 where
      projected : List (TraceEntry V J R)
      is : IsTraceProjection i trace projected
      fits : IsTrace begins serves may from projected to

    one_more : (from : LoopContents V) (entry : TraceEntry V J R) (shown : Effect V J R) (mid : LoopContents V) (trace : List (TraceEntry V J R)) (to : LoopContents V)
        → is_seen i entry.effect ≡ true → is_seen i shown ≡ true → projected_effect i shown ≡ projected_effect i entry.effect → IsOnlyEffect i shown
        → Matches shown entry.call entry.reply → HasEffect begins serves may from shown mid → Retraced mid trace to → Retraced from (entry ∷ trace) to
    one_more from entry shown mid trace to stay shown_stays same only matches had rest = record {
      projected = record entry { effect = shown } ∷ rest.projected;
      is = (
        seen_entry i (record entry { effect = shown }) rest.projected true shown_stays ∙ ap₂ (λ x xs. record entry { effect = x } ∷ xs) same (rest.is).0 ∙ sym (seen_entry i entry trace true stay),
        All-cons (λ (e : TraceEntry V J R). IsOnlyEffect i e.effect) (record entry { effect = shown }) rest.projected only (rest.is).1,
      );
      fits = (mid, matches, had, rest.fits);
    }

    abbrev Goes : ℕ → List (TraceEntry V J R) → List (Turn V) → LoopContents V → Type 0
    Goes taken trace turns to = (from : Registry V) (history : List (Turn V)) → flat_map (seen i) history ≡ flat_map (seen i) turns → All (IsOnly i) history → IsHistory begins serves from history to.registry → Retraced (state_of from taken) trace to

    retrace_entry : (before : LoopContents V) (entry : TraceEntry V J R) (effect : Effect V J R) (mid : LoopContents V) (trace : List (TraceEntry V J R)) (to : LoopContents V) → entry.effect ≡ effect → mid.taken ≡ before.taken
        → Matches effect entry.call entry.reply → HasEffect begins serves may before effect mid → Goes before.taken trace (history_of trace) to → Goes before.taken (entry ∷ trace) (turns_of effect ++ history_of trace) to
    retrace_entry before entry (Stepped step) mid trace to eff same matches had goes from history e only h =
        let at : (b : Bool) → is_id i (id_of step) ≡ b → Retraced (state_of from before.taken) (entry ∷ trace) to = elim [
          | true ↦ λ t.
              let f = first_turn begins serves i history (Made step) (flat_map (seen i) (history_of trace)) from to.registry (e ∙ ap (λ b. (if b then Made step ∷ [] else []) ++ flat_map (seen i) (history_of trace)) t) only h in
              let p = made_is i f.turn step f.is in
              one_more (state_of from before.taken) entry (Stepped step) (state_of f.mid before.taken) trace to
              (ap (is_seen i) eff ∙ t) t (ap (projected_effect i) (sym eff)) (is_id_Some i (id_of step) t) matches
              (subst (λ turn. IsTurn begins serves from turn f.mid) p f.did, refl)
              (goes f.mid f.rest f.are f.all_only f.more)
          | false ↦ λ t.
              let rest = goes from history (e ∙ ap (λ b. (if b then Made step ∷ [] else []) ++ flat_map (seen i) (history_of trace)) t) only h in
              record { projected = rest.projected; is = ((rest.is).0 ∙ sym (seen_entry i entry trace false (ap (is_seen i) eff ∙ t)), (rest.is).1); fits = rest.fits }
        ]
        in at (is_id i (id_of step)) refl
    retrace_entry before entry (Iterated iteration) mid trace to eff same matches had goes from history e only h =
        let none = wait_idle before iteration.waited iteration.positions iteration.jobs mid same had in
        let turn : Turn V = Waited iteration.ms iteration.waited iteration.positions in
        let whole = ap (λ (js : List (JobRun V J R)). flat_map (seen i) ((turn ∷ flat_map (λ job_run. map Made job_run.steps) js) ++ history_of trace)) none in
        let f = first_turn begins serves i history (own_turn i turn) (flat_map (seen i) (history_of trace)) from to.registry (e ∙ whole) only h in
        let p = waited_is i f.turn iteration.ms iteration.waited (to_i i iteration.positions) f.is in
        one_more (state_of from before.taken) entry (Iterated (record iteration { positions = p.0 })) (state_of f.mid before.taken) trace to
        (ap (is_seen i) eff) refl (ap (λ ps. Iterated (record iteration { positions = ps })) p.2 ∙ ap (projected_effect i) (sym eff))
        (subst (IsOnly i) p.1 f.only) matches
        (idle_iteration from before.taken iteration.ms iteration.waited p.0 iteration.jobs f.mid none (subst (λ t. IsTurn begins serves from t f.mid) p.1 f.did))
        (goes f.mid f.rest f.are f.all_only f.more)

    at_end : (taken : ℕ) (to : LoopContents V) → to.taken ≡ taken → Goes taken [] [] to
    at_end taken to end from history e only h =
        let stands = subst (λ l. IsHistory begins serves from l to.registry) (nothing_seen i history only e) h in
        record { projected = []; is = (refl, All-nil (λ (e : TraceEntry V J R). IsOnlyEffect i e.effect)); fits = (λ k. record { registry = stands k; taken = end k }) }

    retrace : (before : LoopContents V) (trace : List (TraceEntry V J R)) (after : LoopContents V) (to : LoopContents V) → IsTrace begins serves may before trace after → after.taken ≡ before.taken → to.taken ≡ before.taken → Goes before.taken trace (history_of trace) to
    retrace before [] after to is same end = at_end before.taken to end
    retrace before (entry ∷ trace) after to (mid, made, had, more) same end =
        let a = does_grow before entry.effect mid had in
        let b = trace_grows mid trace after more in
        let first : mid.taken ≡ before.taken = omega arith in
        let rest : after.taken ≡ mid.taken = omega arith in
        let last : to.taken ≡ mid.taken = omega arith in
        retrace_entry before entry entry.effect mid trace to refl first made had (subst (λ n. Goes n trace (history_of trace) to) first (retrace mid trace after to more rest last))

-- in a history of i's alone, once i is given no turn reads the next id
module _ {V : Type 0} (begins : Begins V) (serves : Serves V) (i n : ℕ) where
  abbrev renumbered : Registry V → Registry V
  renumbered registry = record registry { next = n }

  delivery_renumbered : (before : Registry V) (removed : Bool) (event : Event) (delivery : Delivery V) (after : Registry V) → IsDelivery serves before removed event delivery after → IsDelivery serves (renumbered before) removed event delivery (renumbered after) × (after.next ≡ before.next)
  delivery_renumbered before removed event Nobody after (nobody, is) = ((nobody, ap renumbered is), ap (λ (r : Registry V). r.next) is)
  delivery_renumbered before removed event (To id exchanges calls held) after (value, registrations, for, serving, fits, is) = ((value, registrations, for, serving, fits, ap renumbered is), ap (λ (r : Registry V). r.next) is)

  dispatch_renumbered : (before : Registry V) (earlier positions : List (Position V)) (after : Registry V) → AreDispatched serves before earlier positions after → AreDispatched serves (renumbered before) earlier positions (renumbered after) × (after.next ≡ before.next)
  dispatch_renumbered before earlier [] after is = (ap renumbered is, ap (λ (r : Registry V). r.next) is)
  dispatch_renumbered before earlier (position ∷ positions) after (mid, out, more) =
      let one = delivery_renumbered (with_pending (still_pending earlier (events_of positions)) before) (is_removed position.event.fd earlier) position.event position.delivery mid out in
      let rest = dispatch_renumbered mid (earlier ++ position ∷ []) positions after more in
      ((renumbered mid, one.0, rest.0), rest.1 ∙ one.1)

  turn_renumbered : (before : Registry V) (turn : Turn V) (after : Registry V) → i < before.next → IsOnly i turn → IsTurn begins serves before turn after → IsTurn begins serves (renumbered before) turn (renumbered after) × (after.next ≡ before.next)
  turn_renumbered before (Made (Joined value id exchanges calls held)) after given only (registrations, room, is, fits, begun, e) = let same : id ≡ i = cc in absurd (lt_irrefl i (subst (λ k. i < k) (sym is ∙ same) given))
  turn_renumbered before (Made (NotJoined value error)) after given only h = let no : ⊥ = cc in absurd no
  turn_renumbered before (Made (Left id value calls)) after given only (fds, has, owned, deletes, e) = ((fds, has, owned, deletes, ap renumbered e), ap (λ (r : Registry V). r.next) e)
  turn_renumbered before (Made (Replaced id old new)) after given only (has, e) = ((has, ap renumbered e), ap (λ (r : Registry V). r.next) e)
  turn_renumbered before (Made (Requested id exchanges calls)) after given only (value, registrations, has, fits, e) = ((value, registrations, has, fits, ap renumbered e), ap (λ (r : Registry V). r.next) e)
  turn_renumbered before (Made (Refused id)) after given only (lacks, e) = ((lacks, ap renumbered e), ap (λ (r : Registry V). r.next) e)
  turn_renumbered before (Waited ms (Ok report) positions) after given only (order, dispatched) = let d = dispatch_renumbered before [] positions after dispatched in ((order, d.0), d.1)
  turn_renumbered before (Waited ms (Err errno) positions) after given only (none, e) = ((none, ap renumbered e), ap (λ (r : Registry V). r.next) e)

  history_renumbered : (before : Registry V) (history : List (Turn V)) (after : Registry V) → i < before.next → All (IsOnly i) history → IsHistory begins serves before history after → IsHistory begins serves (renumbered before) history (renumbered after)
  history_renumbered before [] after given only is = ap renumbered is
  history_renumbered before (turn ∷ history) after given only (mid, did, more) =
      let one = turn_renumbered before turn mid given (All-head (IsOnly i) turn history only) did in
      (renumbered mid, one.0, history_renumbered mid history after (subst (λ k. i < k) (sym one.1) given) (All-tail (IsOnly i) turn history only) more)

module _ {V J R : Type 0} (begins : Begins V) (serves : Serves V) (may : May V J R) where
  effect_counted : (j : ℕ) (before : LoopContents V) (effect : Effect V J R) (mid : LoopContents V) → mid.taken ≡ before.taken → HasEffect begins serves may before effect mid → effect_exchanges j effect ≡ flat_map (turn_exchanges j) (turns_of effect)
  effect_counted j before (Stepped step) mid same had = sym (append-nil (turn_exchanges j (Made step)))
  effect_counted j before (Iterated iteration) mid same had =
      let turn : Turn V = Waited iteration.ms iteration.waited iteration.positions in
      let none = wait_idle begins serves may before iteration.waited iteration.positions iteration.jobs mid same had in
      sym (append-nil (turn_exchanges j turn)) ∙ ap (λ (js : List (JobRun V J R)). flat_map (turn_exchanges j) (turn ∷ flat_map (λ job_run. map Made job_run.steps) js)) (sym none)

  trace_counted : (j : ℕ) (before : LoopContents V) (trace : List (TraceEntry V J R)) (after : LoopContents V) → after.taken ≡ before.taken → IsTrace begins serves may before trace after → trace_exchanges j trace ≡ exchanges_in j (history_of trace)
  trace_counted j before [] after same is = refl
  trace_counted j before (entry ∷ trace) after same (mid, made, had, more) =
      let a = does_grow begins serves may before entry.effect mid had in
      let b = trace_grows begins serves may mid trace after more in
      let first : mid.taken ≡ before.taken = omega arith in
      let rest : after.taken ≡ mid.taken = omega arith in
      ap₂ (λ xs ys. xs ++ ys) (effect_counted j before entry.effect mid first had) (trace_counted j mid trace after rest more) ∙ sym (flat_map-append (turn_exchanges j) (turns_of entry.effect) (history_of trace))

  pub traces_project : (before : LoopContents V) (trace : List (TraceEntry V J R)) (after : LoopContents V) → IsTrace begins serves may before trace after → TracesProject begins serves may before trace after
  traces_project before trace after h i same apart =
      let history = history_of trace in
      let counted : (j : ℕ) → trace_exchanges j trace ≡ exchanges_in j history = λ j. trace_counted j before trace after same h in
      let apart_in : IsApart i before.registry history = λ fd j differ owned.
      let k = apart fd j differ (elim owned [ inl o ↦ inl o | inr t ↦ inr (subst (λ x. IsTrue (asks_to_add fd x)) (sym (counted i)) t) ]) in
      (k.0, subst (λ x. has_addition fd x ≡ false) (counted j) k.1)
      in
      let p = non_interference begins serves before.registry history after.registry (trace_is_history begins serves may before trace after h) i apart_in in
      let traced : (from to : ℕ) → IsHistory begins serves (record (projected_registry i before.registry) { next = from }) p.0 (record (projected_registry i after.registry) { next = to }) → (projected : List (TraceEntry V J R)) × IsTraceProjection i trace projected × IsTrace begins serves may (projected_state i from before) projected (projected_state i to after) = λ from to k.
      let r = retrace begins serves may i before trace after (projected_state i to after) h same same (record (projected_registry i before.registry) { next = from }) p.0 (p.1).0 (p.1).1 k in
      (r.projected, r.is, r.fits)
      in
      let at : (b : Bool) → nat_lt i before.registry.next ≡ b → (next : ℕ) × (projected : List (TraceEntry V J R)) × IsTraceProjection i trace projected × IsTrace begins serves may (projected_state i (if b then before.registry.next else i) before) projected (projected_state i next after) = elim [
        | true ↦ λ e.
            let begun : next_for i before.registry.next ≡ i + 1 = ap (λ b. if b then i + 1 else i) e in
            let k = history_renumbered begins serves i before.registry.next (projected_registry i before.registry) p.0 (projected_registry i after.registry) (omega arith) (p.1).1 p.2 in
            let r = traced before.registry.next before.registry.next k in (before.registry.next, r.0, r.1, r.2)
        | false ↦ λ e.
            let fresh : next_for i before.registry.next ≡ i = ap (λ b. if b then i + 1 else i) e in
            let r = traced i (next_for i after.registry.next) (subst (λ m. IsHistory begins serves (record (projected_registry i before.registry) { next = m }) p.0 (projected_registry i after.registry)) fresh p.2) in (next_for i after.registry.next, r.0, r.1, r.2)
      ]
      in at (nat_lt i before.registry.next) refl
