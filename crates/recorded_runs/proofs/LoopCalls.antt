-- The calls of a loop without jobs, one after another, are a trace; and the same calls are made again.
use Rattle.std.proofs.Common.{◌≡◌, ℕ, ℤ, List, [], ◌∷◌, ◌++◌, refl, sym, ap, ◌∙◌, map, Result}
use Rattle.std.specs.List.{AllZip}
use Rattle.std.proofs.lemmas.List.{append-nil}
use Rattle.event_loop.specs.Prelude.{Controls, Waits, Begins, Serves, LoopStep, JobRun, LoopState, HasStepped, IsJoin, IsLoopIteration, no_job}
use Rattle.event_loop.specs.declared.error.Error.{Error}
use Rattle.event_manager.specs.Trace.{Effect, Stepped, Iterated, TraceEntry, Matches}
use Rattle.event_manager.specs.SingleCall.{HasCalled}
use Rattle.event_manager.specs.Driven.{IsTraceOf}
use Rattle.recorded_runs.specs.Determinism.{IsSameCall, HaveMemory, answers_in, jobs_of_effect, jobs_in}
use Rattle.recorded_runs.specs.RecordedRun.{IsMadeAgain}
use Rattle.event_manager.specs.declared.calls.Call.{Call}
use Rattle.event_manager.specs.declared.calls.Call.TheVariants as call
use Rattle.event_manager.specs.declared.calls.Reply.{Reply}
use Rattle.event_manager.specs.declared.calls.Reply.TheVariants as reply
use Rattle.event_manager.proofs.TraceSoFar.{IsTracedSoFar, one_more_traced, join_matches, step_called, iteration_called}

module _ {S P : Type 0} (begins : Begins S) (serves : Serves S) (controls : Controls P) (waits : Waits P) where
  -- these calls were made and replied so
  pub record AreMade (before : LoopState S P) (calls : List (Call S)) (replies : List (Reply S)) (after : LoopState S P) : Type 0 where
    pub trace : List (TraceEntry S ⊥ (Unit {0}))
    pub is_trace_of : IsTraceOf begins serves no_job controls waits before calls replies after trace

  pub none_made : (before : LoopState S P) → AreMade before [] [] before
  none_made before = record { trace = []; is_trace_of = record { calls_are = refl; replies_are = refl; is_trace = refl; led = refl; same_capacity = refl } }

  one_more_made : (before now next : LoopState S P) (calls : List (Call S)) (replies : List (Reply S)) (c : Call S) (r : Reply S) (effect : Effect S ⊥ (Unit {0})) → AreMade before calls replies now → Matches effect c r → HasCalled begins serves no_job controls waits now effect next
      → AreMade before (calls ++ c ∷ []) (replies ++ r ∷ []) next
  one_more_made before now next calls replies c r effect made matches did =
      let of = made.is_trace_of in
      let so_far : IsTracedSoFar begins serves no_job controls waits before now (calls ++ c ∷ []) (c ∷ []) [] replies =
      record { trace = made.trace; calls_are = ap (λ cs. cs ++ c ∷ []) of.calls_are; replies_are = sym of.replies_are; is_trace = of.is_trace; led = of.led; same_capacity = of.same_capacity } in
      let all = one_more_traced begins serves no_job controls waits before now next (calls ++ c ∷ []) [] [] replies c r effect so_far matches did in
      record {
        trace = all.trace;
        is_trace_of = record { calls_are = sym (append-nil (map (λ e. e.call) all.trace)) ∙ all.calls_are; replies_are = sym all.replies_are; is_trace = all.is_trace; led = all.led; same_capacity = all.same_capacity };
      }

  -- one call more: a join, a leave, a run
  pub join_made : (before now next : LoopState S P) (calls : List (Call S)) (replies : List (Reply S)) (value : S) (result : Result ℕ Error) → AreMade before calls replies now → (step : LoopStep S) × IsJoin value result step × HasStepped begins controls waits now step next
      → AreMade before (calls ++ call.Add value ∷ []) (replies ++ reply.Added result ∷ []) next
  join_made before now next calls replies value result made did =
      one_more_made before now next calls replies (call.Add value) (reply.Added result) (Stepped did.0) made (join_matches ⊥ (Unit {0}) value result did.0 did.1) (step_called begins serves no_job controls waits did.2)

  pub run_made : (before now next : LoopState S P) (calls : List (Call S)) (replies : List (Reply S)) (ms : ℤ) (result : Result ℕ Error) → AreMade before calls replies now → IsLoopIteration begins serves no_job controls waits now ms result next
      → AreMade before (calls ++ call.Run ms ∷ []) (replies ++ reply.Ran result ∷ []) next
  run_made before now next calls replies ms result made did =
      one_more_made before now next calls replies (call.Run ms) (reply.Ran result) (Iterated did.iteration) made (ap call.Run (sym did.milliseconds), ap reply.Ran did.answer) (iteration_called begins serves no_job controls waits did)

module _ {S : Type 0} where
  same_call : (c : Call S) → IsSameCall c c
  same_call (call.Add value) = refl
  same_call (call.Remove id) = refl
  same_call (call.Set id value) = refl
  same_call (call.Ask id requests) = (refl, refl)
  same_call (call.Run ms) = refl

  are_same_calls : (calls : List (Call S)) → AllZip IsSameCall calls calls
  are_same_calls [] = tt
  are_same_calls (c ∷ calls) = (same_call c, are_same_calls calls)

  -- no job ran
  no_run : (jobs : List (JobRun S ⊥ (Unit {0}))) → map (λ r. r.job) jobs ≡ []
  no_run [] = refl
  no_run (job_run ∷ jobs) = absurd job_run.job

  no_jobs : (effect : Effect S ⊥ (Unit {0})) → jobs_of_effect effect ≡ []
  no_jobs (Stepped step) = refl
  no_jobs (Iterated iteration) = no_run iteration.jobs

  same_jobs : (trace again : List (TraceEntry S ⊥ (Unit {0}))) → map (λ e. e.call) trace ≡ map (λ e. e.call) again → jobs_in trace ≡ jobs_in again
  same_jobs [] [] same = refl
  same_jobs [] (entry ∷ again) same = let s : ◌≡◌ {A = List (Call S)} [] (entry.call ∷ map (λ e. e.call) again) = same in cc
  same_jobs (entry ∷ trace) [] same = let s : ◌≡◌ {A = List (Call S)} (entry.call ∷ map (λ e. e.call) trace) [] = same in cc
  same_jobs (entry ∷ trace) (other ∷ again) same =
      let s : ◌≡◌ {A = List (Call S)} (entry.call ∷ map (λ e. e.call) trace) (other.call ∷ map (λ e. e.call) again) = same in
      let rest : map (λ e. e.call) trace ≡ map (λ e. e.call) again = cc in
      let here = no_jobs entry.effect ∙ sym (no_jobs other.effect) in
      let others = same_jobs trace again rest in
      ap (λ js. js ∷ jobs_in trace) here ∙ ap (λ jss. jobs_of_effect other.effect ∷ jss) others

  -- the same calls are made again, where memory isn't lacking
  pub calls_made_again : (trace again : List (TraceEntry S ⊥ (Unit {0}))) (calls : List (Call S)) → map (λ e. e.call) trace ≡ calls → map (λ e. e.call) again ≡ calls → HaveMemory (answers_in trace) → HaveMemory (answers_in again) → IsMadeAgain trace again
  calls_made_again trace again calls are are_again memory memory_again = record {
    same_calls = rw (are, are_again) (are_same_calls calls);
    same_jobs = same_jobs trace again (are ∙ sym are_again);
    memory = memory;
    memory_again = memory_again;
  }
