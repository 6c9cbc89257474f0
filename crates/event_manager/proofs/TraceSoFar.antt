-- A list of calls, made one after another.
use Rattle.std.proofs.Common.{◌≡◌, ℕ, ℤ, List, [], ◌∷◌, ◌++◌, refl, sym, ap, subst, ◌∙◌, map, append_assoc, Vec, Result, Ok, Err}
use Rattle.std.proofs.lemmas.List.{append-nil, map-append}
use Rattle.std.proofs.lemmas.List.Concat.{flat_map-append}
use Rattle.std.specs.declared.alloc.Global.{Global}
use Rattle.event_loop.specs.Prelude.{Controls, Waits, Leads, Answer, Begins, Serves, LoopStep, AreBelow, May, LoopContents, LoopState, HasStepped, IsJoin, IsLeave, IsLoopIteration, contents_of}
use Rattle.event_loop.specs.declared.error.Error.{Error}
use Rattle.event_loop.specs.declared.events.Request.{Request}
use Rattle.event_manager.specs.Trace.{Effect, Stepped, Iterated, TraceEntry, Matches, IsTrace, calls_of_effect, calls_of_trace}
use Rattle.event_manager.specs.SingleCall.{IsAsk, IsReplacement, HasCalled}
use Rattle.event_manager.specs.Driven.{IsGuaranteed, IsTraceOf, IsDriven}
use Rattle.event_manager.specs.declared.calls.Call.{Call}
use Rattle.event_manager.specs.declared.calls.Call.TheVariants as call
use Rattle.event_manager.specs.declared.calls.Reply.{Reply}
use Rattle.event_manager.specs.declared.calls.Reply.TheVariants as reply
use Rattle.event_loop.proofs.ExchangeLemmas.{leads_join}
use Rattle.event_manager.proofs.Isolation.{isolated_step, isolated_delivery, left_frees}
use Rattle.event_manager.proofs.Soundness.{trace_follows}
use Rattle.event_manager.specs.History.{history_of}
use Rattle.event_manager.proofs.Histories.{trace_is_history, traces_join}
use Rattle.event_manager.proofs.ProjectedHistory.{non_interference}

-- call and reply of each step are those of the call that made it
module _ {V : Type 0} (J R : Type 0) where
  pub join_matches : (value : V) (result : Result ℕ Error) (step : LoopStep V) → IsJoin value result step → Matches {V = V} {J = J} {R = R} (Stepped step) (call.Add value) (reply.Added result)
  join_matches value (Ok id) step h = subst (λ (s : LoopStep V). Matches {V = V} {J = J} {R = R} (Stepped s) (call.Add value) (reply.Added (Ok id))) (sym h.3) (refl, refl)
  join_matches value (Err error) step h = subst (λ (s : LoopStep V). Matches {V = V} {J = J} {R = R} (Stepped s) (call.Add value) (reply.Added (Err error))) (sym h) (refl, refl)

  pub leave_matches : (id : ℕ) (result : Result V Error) (step : LoopStep V) → IsLeave id result step → Matches {V = V} {J = J} {R = R} (Stepped step) (call.Remove id) (reply.Removed result)
  leave_matches id (Ok value) step h = subst (λ (s : LoopStep V). Matches {V = V} {J = J} {R = R} (Stepped s) (call.Remove id) (reply.Removed (Ok value))) (sym h.1) (refl, refl)
  leave_matches id (Err error) step h = subst (λ (s : LoopStep V). Matches {V = V} {J = J} {R = R} (Stepped s) (call.Remove id) (reply.Removed (Err error))) (sym h.1) (refl, ap (λ e. reply.Removed (Err e)) h.0)

  pub replacement_matches : (id : ℕ) (value : V) (result : Result V Error) (step : LoopStep V) → IsReplacement id value result step → Matches {V = V} {J = J} {R = R} (Stepped step) (call.Set id value) (reply.Set result)
  replacement_matches id value (Ok old) step h = subst (λ (s : LoopStep V). Matches {V = V} {J = J} {R = R} (Stepped s) (call.Set id value) (reply.Set (Ok old))) (sym h) (refl, refl)
  replacement_matches id value (Err error) step h = subst (λ (s : LoopStep V). Matches {V = V} {J = J} {R = R} (Stepped s) (call.Set id value) (reply.Set (Err error))) (sym h.1) (refl, ap (λ e. reply.Set (Err e)) h.0)

  pub ask_matches : (id : ℕ) (requests : Vec Request Global) (result : Result (Vec Answer Global) Error) (step : LoopStep V) → IsAsk id requests.items result step → Matches {V = V} {J = J} {R = R} (Stepped step) (call.Ask id requests) (reply.Asked result)
  ask_matches id requests (Ok answers) step h = subst (λ (s : LoopStep V). Matches {V = V} {J = J} {R = R} (Stepped s) (call.Ask id requests) (reply.Asked (Ok answers))) (sym h.2) (requests, answers, refl, refl, h.3, h.4)
  ask_matches id requests (Err error) step h = subst (λ (s : LoopStep V). Matches {V = V} {J = J} {R = R} (Stepped s) (call.Ask id requests) (reply.Asked (Err error))) (sym h.1) (refl, ap (λ e. reply.Asked (Err e)) h.0)

module _ {S J R P : Type 0} (begins : Begins S) (serves : Serves S) (may : May S J R) (controls : Controls P) (waits : Waits P) where
  -- a step of the registry is a call of the manager
  pub step_called : {before after : LoopState S P} {step : LoopStep S} → HasStepped begins controls waits before step after → HasCalled begins serves may controls waits before (Stepped step) after
  step_called did = record { had = (did.stepped, did.same_taken); led = did.led; same_capacity = did.same_capacity }

  -- so is an iteration
  pub iteration_called : {before after : LoopState S P} {ms : ℤ} {result : Result ℕ Error} → (did : IsLoopIteration begins serves may controls waits before ms result after) → HasCalled begins serves may controls waits before (Iterated did.iteration) after
  iteration_called did = record { had = did.iterated; led = did.led; same_capacity = did.same_capacity }

  calls_more : (capacity : ℕ) (trace : List (TraceEntry S J R)) (entry : TraceEntry S J R) → calls_of_trace capacity (trace ++ entry ∷ []) ≡ calls_of_trace capacity trace ++ calls_of_effect capacity entry.effect
  calls_more capacity trace entry =
      flat_map-append (λ (e : TraceEntry S J R). calls_of_effect capacity e.effect) trace (entry ∷ []) ∙ ap (λ xs. calls_of_trace capacity trace ++ xs) (append-nil (calls_of_effect capacity entry.effect))

  -- the calls, as far as they were made; `left` are those that are left
  pub record IsTracedSoFar (before now : LoopState S P) (calls left : List (Call S)) (old replies : List (Reply S)) : Type 0 where
    pub trace : List (TraceEntry S J R)
    pub calls_are : map (λ entry. entry.call) trace ++ left ≡ calls
    pub replies_are : replies ≡ old ++ map (λ entry. entry.reply) trace
    pub is_trace : IsTrace begins serves may (contents_of before) trace (contents_of now)
    pub led : Leads controls waits before.poller (calls_of_trace before.capacity trace) now.poller
    pub same_capacity : now.capacity ≡ before.capacity

  pub none_traced : (before : LoopState S P) (calls : List (Call S)) (old : List (Reply S)) → IsTracedSoFar before before calls calls old old
  none_traced before calls old = record { trace = []; calls_are = refl; replies_are = sym (append-nil old); is_trace = refl; led = refl; same_capacity = refl }

  pub one_more_traced : (before now next : LoopState S P) (calls left : List (Call S)) (old replies : List (Reply S)) (c : Call S) (r : Reply S) (effect : Effect S J R) → IsTracedSoFar before now calls (c ∷ left) old replies → Matches effect c r → HasCalled begins serves may controls waits now effect next
      → IsTracedSoFar before next calls left old (replies ++ r ∷ [])
  one_more_traced before now next calls left old replies c r effect so_far matches did =
      let entry : TraceEntry S J R = record { call = c; reply = r; effect = effect } in
      let led : Leads controls waits now.poller (calls_of_effect before.capacity effect) next.poller = subst (λ k. Leads controls waits now.poller (calls_of_effect k effect) next.poller) so_far.same_capacity did.led in
      record {
        trace = so_far.trace ++ entry ∷ [];
        calls_are = ap (λ cs. cs ++ left) (map-append (λ (e : TraceEntry S J R). e.call) so_far.trace (entry ∷ [])) ∙ append_assoc (map (λ e. e.call) so_far.trace) (c ∷ []) left ∙ so_far.calls_are;
        replies_are = ap (λ rs. rs ++ r ∷ []) so_far.replies_are ∙ append_assoc old (map (λ e. e.reply) so_far.trace) (r ∷ []) ∙ ap (λ rs. old ++ rs) (sym (map-append (λ (e : TraceEntry S J R). e.reply) so_far.trace (entry ∷ [])));
        is_trace = traces_join begins serves may (contents_of before) (contents_of now) (contents_of next) so_far.trace (entry ∷ []) so_far.is_trace (contents_of next, matches, did.had, refl);
        led = subst (λ xs. Leads controls waits before.poller xs next.poller) (sym (calls_more before.capacity so_far.trace entry)) (leads_join controls waits before.poller now.poller next.poller (calls_of_trace before.capacity so_far.trace) (calls_of_effect before.capacity effect) so_far.led led);
        same_capacity = did.same_capacity ∙ so_far.same_capacity;
      }

  guaranteed : (before : LoopContents S) (trace : List (TraceEntry S J R)) (after : LoopContents S) → AreBelow before.registry.next before.registry.values → IsTrace begins serves may before trace after → IsGuaranteed begins serves may before trace after
  guaranteed before trace after below is =
      let follows = trace_follows begins serves may before trace after is in
      record {
        given = follows.given;
        below = (below, follows.below below);
        removed = follows.removed below;
        sound = follows.sound;
        non_interference = non_interference begins serves before.registry (history_of trace) after.registry (trace_is_history begins serves may before trace after is);
        isolated_step = λ from step onto h. isolated_step begins from step onto h;
        isolated_delivery = λ from removed event delivery onto h. isolated_delivery serves from removed event delivery onto h;
        leave_frees = λ from onto i value calls h. left_frees begins from onto i value calls h;
      }

  -- a trace is driven
  pub driven_by : (before : LoopState S P) (trace : List (TraceEntry S J R)) (after : LoopState S P) → AreBelow before.registry.next before.registry.values → IsTraceOf begins serves may controls waits before (map (λ e. e.call) trace) (map (λ e. e.reply) trace) after trace
      → IsDriven begins serves may controls waits before (map (λ e. e.call) trace) (map (λ e. e.reply) trace) after
  driven_by before trace after below of = record { trace = trace; is_trace_of = of; guaranteed = guaranteed (contents_of before) trace (contents_of after) below of.is_trace }

  pub all_traced : (before after : LoopState S P) (calls : List (Call S)) (old replies : List (Reply S)) → AreBelow before.registry.next before.registry.values → IsTracedSoFar before after calls [] old replies
      → (new : List (Reply S)) × (replies ≡ old ++ new) × IsDriven begins serves may controls waits before calls new after
  all_traced before after calls old replies below so_far = (
    map (λ e. e.reply) so_far.trace,
    so_far.replies_are,
    subst (λ cs. IsDriven begins serves may controls waits before cs (map (λ e. e.reply) so_far.trace) after) (sym (append-nil (map (λ e. e.call) so_far.trace)) ∙ so_far.calls_are)
        (driven_by before so_far.trace after below (record { calls_are = refl; replies_are = refl; is_trace = so_far.is_trace; led = so_far.led; same_capacity = so_far.same_capacity })),
  )

  -- no call
  pub none_driven : (state : LoopState S P) → AreBelow state.registry.next state.registry.values → IsDriven begins serves may controls waits state [] [] state
  none_driven state below = driven_by state [] state below (record { calls_are = refl; replies_are = refl; is_trace = refl; led = refl; same_capacity = refl })

  -- two lists in a row are one
  pub lists_join : (before between after : LoopState S P) (calls more_calls : List (Call S)) (replies more_replies : List (Reply S)) → IsDriven begins serves may controls waits before calls replies between → IsDriven begins serves may controls waits between more_calls more_replies after
      → IsDriven begins serves may controls waits before (calls ++ more_calls) (replies ++ more_replies) after
  lists_join before between after calls more_calls replies more_replies first second =
      let one = first.is_trace_of in
      let two = second.is_trace_of in
      let led = subst (λ k. Leads controls waits between.poller (calls_of_trace k second.trace) after.poller) one.same_capacity two.led in
      let is_trace = traces_join begins serves may (contents_of before) (contents_of between) (contents_of after) first.trace second.trace one.is_trace two.is_trace in
      record {
        trace = first.trace ++ second.trace;
        is_trace_of = record {
          calls_are = map-append (λ (e : TraceEntry S J R). e.call) first.trace second.trace ∙ ap (λ cs. cs ++ map (λ e. e.call) second.trace) one.calls_are ∙ ap (λ cs. calls ++ cs) two.calls_are;
          replies_are = map-append (λ (e : TraceEntry S J R). e.reply) first.trace second.trace ∙ ap (λ rs. rs ++ map (λ e. e.reply) second.trace) one.replies_are ∙ ap (λ rs. replies ++ rs) two.replies_are;
          is_trace = is_trace;
          led = subst (λ xs. Leads controls waits before.poller xs after.poller) (sym (flat_map-append (λ (e : TraceEntry S J R). calls_of_effect before.capacity e.effect) first.trace second.trace)) (leads_join controls waits before.poller between.poller after.poller (calls_of_trace before.capacity first.trace) (calls_of_trace before.capacity second.trace) one.led led);
          same_capacity = two.same_capacity ∙ one.same_capacity;
        };
        guaranteed = guaranteed (contents_of before) (first.trace ++ second.trace) (contents_of after) first.guaranteed.below.0 is_trace;
      }
