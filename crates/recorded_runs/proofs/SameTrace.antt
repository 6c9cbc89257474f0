-- A replay is the run.
use Rattle.std.proofs.Common.{Bool, ◌≡◌, ℕ, ◌+◌, ℤ, refl, sym, ap, subst, ◌∙◌, Some, None, Option, List, [], ◌∷◌, ◌++◌, map, Ok, Err, Result}
use Rattle.std.specs.List.{AllZip, flat_map}
use Rattle.std.specs.FinMap.{insert}
use Rattle.event_loop.specs.Prelude.{Event, PollerCall, Wait, Exchanges, answers_of, Begins, Serves, Registry, Joined, NotJoined, Left, Replaced, Requested, Refused, calls_of, May, Delivery, Nobody, To, Position, with_pending, IsDelivery, AreDispatched, events_of, exchanges_of, is_removed, still_pending, LoopContents, JobRun, AreRun, IsIteration, calls_of_delivery, calls_of_positions, calls_of_jobs, class_in}
use Rattle.dispatch_tables.proofs.DispatchOrders.{head_is, tail_is, one_order}
use Rattle.vmm_sys.specs.declared.errno.Errno.{Errno}
use Rattle.event_manager.specs.Trace.{Effect, Stepped, Iterated, TraceEntry, Matches, HasEffect, IsTrace, calls_of_effect, calls_of_trace}
use Rattle.recorded_runs.specs.Determinism.{Asked, IsFunction, AreFunctions, IsSameCall, IsSameReply, IsReplay, IsTheRun}
use Rattle.recorded_runs.specs.Determinism.{HaveMemory, jobs_of_effect, jobs_in}
use Rattle.recorded_runs.specs.Determinism.{answers_of_step, answers_of_positions, answers_of_jobs, answers_of_effect, answers_in}
use Rattle.event_manager.specs.declared.calls.Call.{Call}
use Rattle.event_manager.specs.declared.calls.Call.TheVariants as call
use Rattle.event_manager.specs.declared.calls.Reply.{Reply}
use Rattle.recorded_runs.proofs.SameExchanges.{AreSameCalls, eventless, memory_first, memory_then, in_parts, behind_same, exchanges_alike}
use Rattle.recorded_runs.proofs.SameSteps.{asked_by, same_asked, asked_for, asked_alike, step_alike, steps_alike}

module _ {V : Type 0} (serves : Serves V) where
  abbrev DecidesAnswers : Type 0
  DecidesAnswers = (event : Event) → IsFunction (λ v exchanges w. serves v event exchanges w)

  received_alike : DecidesAnswers → (before : Registry V) (removed : Bool) (event : Event) (id : ℕ)
      (exchanges others : Exchanges) (calls made rest more : List PollerCall) (held kept : V) (after onto : Registry V)
      → HaveMemory (answers_of exchanges) → HaveMemory (answers_of others) → AreSameCalls (calls ++ rest) (made ++ more)
      → IsDelivery serves before removed event (To id exchanges calls held) after
      → IsDelivery serves before removed event (To id others made kept) onto
      → (To id exchanges calls held ≡ To id others made kept) × (after ≡ onto)
  received_alike function before removed event id exchanges others calls made rest more held kept after onto m n same
      (value, ours, is_for, served, fits, e) (older, theirs, was_for, serving, fit, f) =
      let one : older ≡ value = let v = is_for.2 in let w = was_for.2 in cc in
      let alike = function event value exchanges others held kept served (subst (λ v. serves v event others kept) one serving) in
      let all = exchanges_alike id before.registrations exchanges others calls made rest more ours theirs alike.0 m n same fits fit in
      let holds = alike.1 all.0 in (
        (λ j. To id (all.0 j) (all.1 j) (holds j)),
        e ∙ (λ j. record before { values = insert before.values id (holds j); registrations = all.2 j }) ∙ sym f,
      )

  delivery_alike : DecidesAnswers → (before : Registry V) (removed : Bool) (event : Event)
      (delivery other : Delivery V) (rest more : List PollerCall) (after onto : Registry V)
      → HaveMemory (answers_of (exchanges_of delivery)) → HaveMemory (answers_of (exchanges_of other))
      → AreSameCalls (calls_of_delivery delivery ++ rest) (calls_of_delivery other ++ more)
      → IsDelivery serves before removed event delivery after → IsDelivery serves before removed event other onto
      → (delivery ≡ other) × (after ≡ onto)
  delivery_alike function before removed event Nobody Nobody rest more after onto m n same h k = (refl, h.1 ∙ sym k.1)
  delivery_alike function before removed event Nobody (To i others made kept) rest more after onto m n same h k = absurd (h.0 i k.0 k.2)
  delivery_alike function before removed event (To id exchanges calls held) Nobody rest more after onto m n same h k = absurd (k.0 id h.0 h.2)
  delivery_alike function before removed event (To id exchanges calls held) (To i others made kept) rest more after onto m n same h k =
      let ids : i ≡ id = let v = (h.2).0 in let w = (k.2).0 in cc in
      let here = subst (λ x. IsDelivery serves before removed event (To x others made kept) onto) ids k in
      let all = received_alike function before removed event id exchanges others calls made rest more held kept after onto m n same h here in
      (all.0 ∙ sym (ap (λ x. To x others made kept) ids), all.1)

  positions_alike : DecidesAnswers → (before : Registry V) (earlier positions others : List (Position V)) (rest more : List PollerCall)
      (after onto : Registry V) → events_of positions ≡ events_of others
      → HaveMemory (answers_of_positions positions) → HaveMemory (answers_of_positions others)
      → AreSameCalls (calls_of_positions positions ++ rest) (calls_of_positions others ++ more)
      → AreDispatched serves before earlier positions after → AreDispatched serves before earlier others onto → (positions ≡ others) × (after ≡ onto)
  positions_alike function before earlier [] [] rest more after onto events m n same h k = (refl, h ∙ sym k)
  positions_alike function before earlier [] (q ∷ others) rest more after onto events m n same h k = cc
  positions_alike function before earlier (p ∷ positions) [] rest more after onto events m n same h k = cc
  positions_alike function before earlier (p ∷ positions) (q ∷ others) rest more after onto events m n same (mid, h, ours) (between, k, theirs) =
      let first = answers_of (exchanges_of p.delivery) in
      let front = answers_of (exchanges_of q.delivery) in
      let calls = calls_of_delivery p.delivery in
      let made = calls_of_delivery q.delivery in
      let event = head_is p.event q.event (events_of positions) (events_of others) events in
      let later = tail_is p.event q.event (events_of positions) (events_of others) events in
      let parts = in_parts calls (calls_of_positions positions) made (calls_of_positions others) _ _ rest more refl refl same in
      let from = with_pending (still_pending earlier (events_of positions)) before in
      let here =
      subst (λ (r : Event × List Event). IsDelivery serves (with_pending (still_pending earlier r.1) before) (is_removed r.0.fd earlier) r.0 q.delivery between)
      (sym (λ j. (event j, later j))) k in
      let one = delivery_alike function from (is_removed p.event.fd earlier) p.event p.delivery q.delivery
      (calls_of_positions positions ++ rest) (calls_of_positions others ++ more) mid between (memory_first first _ m) (memory_first front _ n) parts h here in
      let position : p ≡ q = λ j. record { event = event j; delivery = one.0 j } in
      let theirs_here =
      subst (λ (r : Registry V × Position V). AreDispatched serves r.0 (earlier ++ r.1 ∷ []) others onto) (sym (λ j. (one.1 j, position j))) theirs in
      let all = positions_alike function mid (earlier ++ p ∷ []) positions others rest more after onto later (memory_then first _ m) (memory_then front _ n)
      (behind_same calls made _ _ (ap calls_of_delivery one.0) parts) ours theirs_here in
      ((λ j. position j ∷ all.0 j), all.1)

module _ {V J R : Type 0} (begins : Begins V) (serves : Serves V) (may : May V J R) where
  abbrev jobs_of : List (JobRun V J R) → List J
  jobs_of runs = map (λ job_run. job_run.job) runs

  module _ (functions : AreFunctions begins serves may) where
    jobs_alike : (before : LoopContents V) (jobs others : List (JobRun V J R)) (rest more : List PollerCall) (after onto : LoopContents V)
        → jobs_of jobs ≡ jobs_of others → HaveMemory (answers_of_jobs jobs) → HaveMemory (answers_of_jobs others)
        → AreSameCalls (calls_of_jobs jobs ++ rest) (calls_of_jobs others ++ more)
        → AreRun begins serves may before jobs after → AreRun begins serves may before others onto → (jobs ≡ others) × (after ≡ onto)
    jobs_alike before [] [] rest more after onto taken m n same h k = (refl, h ∙ sym k)
    jobs_alike before [] (q ∷ others) rest more after onto taken m n same h k = cc
    jobs_alike before (p ∷ jobs) [] rest more after onto taken m n same h k = cc
    jobs_alike before (p ∷ jobs) (q ∷ others) rest more after onto taken m n same (mid, ticket, might, steps, ours) (between, number, may_be, stepped, theirs) =
        let first = flat_map answers_of_step p.steps in
        let front = flat_map answers_of_step q.steps in
        let job = head_is p.job q.job (jobs_of jobs) (jobs_of others) taken in
        let parts = in_parts (flat_map calls_of p.steps) (calls_of_jobs jobs) (flat_map calls_of q.steps) (calls_of_jobs others) _ _ rest more refl refl same in
        let alike = functions.jobs p.job p.steps q.steps p.reply q.reply might (subst (λ x. may x q.steps q.reply) (sym job) may_be) in
        let one = steps_alike begins functions.init before.registry p.steps q.steps (calls_of_jobs jobs ++ rest) (calls_of_jobs others ++ more)
        mid between alike.0 (memory_first first _ m) (memory_first front _ n) parts steps stepped in
        let theirs_here = subst (λ r. AreRun begins serves may (record { registry = r; taken = before.taken + 1 }) others onto) (sym one.1) theirs in
        let all = jobs_alike (record { registry = mid; taken = before.taken + 1 }) jobs others rest more after onto
        (tail_is p.job q.job (jobs_of jobs) (jobs_of others) taken) (memory_then first _ m) (memory_then front _ n)
        (behind_same (flat_map calls_of p.steps) (flat_map calls_of q.steps) _ _ (ap (λ steps. flat_map calls_of steps) one.0) parts) ours theirs_here in
        let tickets = ticket ∙ sym number in
        let replies = alike.1 one.0 in
        ((λ j. record { ticket = tickets j; job = job j; steps = one.0 j; reply = replies j } ∷ all.0 j), all.1)

    wait_alike : (before : LoopContents V) (waited : Result (List Event) Errno) (positions others : List (Position V)) (jobs runs : List (JobRun V J R))
        (rest more : List PollerCall) (after onto : LoopContents V) → jobs_of jobs ≡ jobs_of runs
        → HaveMemory (answers_of_positions positions ++ answers_of_jobs jobs) → HaveMemory (answers_of_positions others ++ answers_of_jobs runs)
        → AreSameCalls ((calls_of_positions positions ++ calls_of_jobs jobs) ++ rest) ((calls_of_positions others ++ calls_of_jobs runs) ++ more)
        → IsIteration begins serves may before waited positions jobs after → IsIteration begins serves may before waited others runs onto
        → (positions ≡ others) × (jobs ≡ runs) × (after ≡ onto)
    wait_alike before (Err errno) positions others jobs runs rest more after onto taken m n same h k = (h.0 ∙ sym k.0, h.1 ∙ sym k.1, h.2 ∙ sym k.2)
    wait_alike before (Ok report) positions others jobs runs rest more after onto taken m n same
        (mid, dispatch, idle, ours) (between, dispatched, quiet, theirs) =
        let calls = calls_of_positions positions in
        let made = calls_of_positions others in
        let parts = in_parts calls (calls_of_jobs jobs) made (calls_of_jobs runs) _ _ rest more refl refl same in
        let events = one_order (λ fd. class_in before.registry.registrations.owners fd) report (events_of positions) (events_of others) dispatch.0 dispatched.0 in
        let one = positions_alike serves functions.process before.registry [] positions others (calls_of_jobs jobs ++ rest) (calls_of_jobs runs ++ more)
        mid between events (memory_first (answers_of_positions positions) _ m) (memory_first (answers_of_positions others) _ n) parts dispatch.1 dispatched.1 in
        let theirs_here = subst (λ r. AreRun begins serves may (record before { registry = r }) runs onto) (sym one.1) theirs in
        let all = jobs_alike (record before { registry = mid }) jobs runs rest more after onto taken
        (memory_then (answers_of_positions positions) _ m) (memory_then (answers_of_positions others) _ n)
        (behind_same calls made _ _ (ap calls_of_positions one.0) parts) ours theirs_here in
        (one.0, all.0, all.1)

    same_wait : (ms time : ℤ) (capacity : ℕ) (waited answered : Result (List Event) Errno) (calls made : List PollerCall)
        → AreSameCalls (Wait ms capacity waited ∷ calls) (Wait time capacity answered ∷ made)
        → (ms ≡ time) × (waited ≡ answered) × AreSameCalls calls made
    same_wait ms time capacity waited answered calls made e = (cc, cc, cc)

    effect_alike : (capacity : ℕ) (before : LoopContents V) (effect other : Effect V J R) (c d : Call V) (r q : Reply V) (rest more : List PollerCall)
        (after onto : LoopContents V) → IsSameCall c d → Matches effect c r → Matches other d q → jobs_of_effect effect ≡ jobs_of_effect other
        → HaveMemory (answers_of_effect effect) → HaveMemory (answers_of_effect other)
        → AreSameCalls (calls_of_effect capacity effect ++ rest) (calls_of_effect capacity other ++ more)
        → HasEffect begins serves may before effect after → HasEffect begins serves may before other onto → (effect ≡ other) × (after ≡ onto)
    effect_alike capacity before (Stepped step) (Stepped other) c d r q rest more after onto asked matches matched jobs m n same h k =
        let alike = asked_alike J R step other c d r q asked matches matched in
        let one = step_alike begins functions.init before.registry step other rest more after.registry onto.registry alike m n same h.0 k.0 in
        let taken = h.1 ∙ sym k.1 in
        (ap Stepped one.0, (λ j. record { registry = one.1 j; taken = taken j }))
    effect_alike capacity before (Stepped step) (Iterated other) c d r q rest more after onto asked matches matched jobs m n same h k =
        let a = asked_for J R step c r matches in
        let e : ◌≡◌ {A = Option (Asked V)} (Some a.0) None = sym a.1 ∙ same_asked c d asked ∙ ap asked_by matched.0 in cc
    effect_alike capacity before (Iterated iteration) (Stepped other) c d r q rest more after onto asked matches matched jobs m n same h k =
        let a = asked_for J R other d q matched in
        let e : ◌≡◌ {A = Option (Asked V)} None (Some a.0) = sym (ap asked_by matches.0) ∙ same_asked c d asked ∙ a.1 in cc
    effect_alike capacity before (Iterated iteration) (Iterated other) c d r q rest more after onto asked matches matched jobs m n same h k =
        let w = same_wait iteration.ms other.ms capacity iteration.waited other.waited _ _ same in
        let here = subst (λ x. IsIteration begins serves may before x other.positions other.jobs onto) (sym w.1) k in
        let all = wait_alike before iteration.waited iteration.positions other.positions iteration.jobs other.jobs rest more after onto jobs m n w.2 h here in
        ((λ j. Iterated (record { ms = w.0 j; waited = w.1 j; positions = all.0 j; jobs = all.1 j })), all.2)

    -- an effect decides its reply
    reply_alike : (effect : Effect V J R) (c d : Call V) (r q : Reply V) → IsSameCall c d → Matches effect c r → Matches effect d q → IsSameReply r q
    reply_alike (Stepped (Joined value id exchanges calls held)) c d r q h m n = rw (m.1, n.1) refl
    reply_alike (Stepped (NotJoined value error)) c d r q h m n = rw (m.1, n.1) refl
    reply_alike (Stepped (Left id value calls)) c d r q h m n = rw (m.1, n.1) refl
    reply_alike (Stepped (Replaced id old new)) c d r q h m n = rw (m.1, n.1) refl
    reply_alike (Stepped (Requested id exchanges calls)) c d r q h m n = rw (m.3, n.3) (sym m.5 ∙ n.5)
    reply_alike (Stepped (Refused id)) (call.Remove i) (call.Remove j) r q h m n = rw (m.1, n.1) refl
    reply_alike (Stepped (Refused id)) (call.Set i new) (call.Set j newer) r q h m n = rw (m.1, n.1) refl
    reply_alike (Stepped (Refused id)) (call.Ask i requests) (call.Ask j others) r q h m n = rw (m.1, n.1) refl
    reply_alike (Stepped (Refused id)) (call.Add value) d r q h m n = absurd m
    reply_alike (Stepped (Refused id)) (call.Run ms) d r q h m n = absurd m
    reply_alike (Stepped (Refused id)) c d r q h m n = cc
    reply_alike (Iterated iteration) c d r q h m n = rw (m.1, n.1) refl

    pub trace_alike : (capacity : ℕ) (before : LoopContents V) (trace replay : List (TraceEntry V J R)) (rest more : List PollerCall) (after replayed : LoopContents V)
        → AllZip IsSameCall (map (λ entry. entry.call) trace) (map (λ entry. entry.call) replay) → jobs_in trace ≡ jobs_in replay
        → HaveMemory (answers_in trace) → HaveMemory (answers_in replay)
        → AreSameCalls (calls_of_trace capacity trace ++ rest) (calls_of_trace capacity replay ++ more)
        → IsTrace begins serves may before trace after → IsTrace begins serves may before replay replayed → IsTheRun trace replay after replayed
    trace_alike capacity before [] [] rest more after replayed asked jobs m n same h k = record { same_effects = refl; same_replies = tt; same_state = h ∙ sym k }
    trace_alike capacity before [] (q ∷ replay) rest more after replayed asked jobs m n same h k = absurd asked
    trace_alike capacity before (p ∷ trace) [] rest more after replayed asked jobs m n same h k = absurd asked
    trace_alike capacity before (p ∷ trace) (q ∷ replay) rest more after replayed asked jobs m n same (mid, matches, had, ours) (between, matched, has, theirs) =
        let first = answers_of_effect p.effect in
        let front = answers_of_effect q.effect in
        let calls = calls_of_effect capacity p.effect in
        let made = calls_of_effect capacity q.effect in
        let parts = in_parts calls (calls_of_trace capacity trace) made (calls_of_trace capacity replay) _ _ rest more refl refl same in
        let one = effect_alike capacity before p.effect q.effect p.call q.call p.reply q.reply (calls_of_trace capacity trace ++ rest)
        (calls_of_trace capacity replay ++ more) mid between asked.0 matches matched (head_is _ _ _ _ jobs)
        (memory_first first _ m) (memory_first front _ n) parts had has in
        let theirs_here = subst (λ s. IsTrace begins serves may s replay replayed) (sym one.1) theirs in
        let all = trace_alike capacity mid trace replay rest more after replayed asked.1 (tail_is _ _ _ _ jobs) (memory_then first _ m) (memory_then front _ n)
        (behind_same calls made _ _ (ap (calls_of_effect capacity) one.0) parts) ours theirs_here in
        let matched_here = subst (λ x. Matches x q.call q.reply) (sym one.0) matched in
        record {
          same_effects = (λ j. one.0 j ∷ all.same_effects j);
          same_replies = (reply_alike p.effect p.call q.call p.reply q.reply asked.0 matches matched_here, all.same_replies);
          same_state = all.same_state;
        }

    pub replay_is_the_run : (capacity : ℕ) (before : LoopContents V) (trace replay : List (TraceEntry V J R)) (after replayed : LoopContents V)
        → IsTrace begins serves may before trace after → IsTrace begins serves may before replay replayed
        → IsReplay capacity trace replay → IsTheRun trace replay after replayed
    replay_is_the_run capacity before trace replay after replayed h k is =
        trace_alike capacity before trace replay [] [] after replayed is.same_calls is.same_jobs is.memory is.memory_again
        (ap (λ l. map eventless (l ++ [])) is.same_poller_calls) h k
