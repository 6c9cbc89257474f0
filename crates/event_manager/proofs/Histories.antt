-- A trace is a history, whatever jobs ran.
use Rattle.std.proofs.Common.{◌+◌, refl, ap, subst, List, [], ◌∷◌, ◌++◌, map, Ok, Err, Result}
use Rattle.std.specs.List.{flat_map}
use Rattle.vmm_sys.specs.declared.errno.Errno.{Errno}
use Rattle.event_loop.specs.Prelude.{Event, Begins, Serves, Registry, LoopStep, May, Position, LoopContents, JobRun, IsIteration, AreRun, AllSteps}
use Rattle.event_manager.specs.Trace.{Effect, Stepped, Iterated, TraceEntry, HasEffect, IsTrace}
use Rattle.event_manager.specs.History.{Turn, Made, Waited, IsHistory, turns_of, history_of}

module _ {V : Type 0} (begins : Begins V) (serves : Serves V) where
  pub histories_join : (before : Registry V) (history : List (Turn V)) (mid : Registry V) (more : List (Turn V)) (after : Registry V) → IsHistory begins serves before history mid → IsHistory begins serves mid more after → IsHistory begins serves before (history ++ more) after
  histories_join before [] mid more after e h = subst (λ r. IsHistory begins serves r more after) e h
  histories_join before (turn ∷ history) mid more after (next, did, rest) h = (next, did, histories_join next history mid more after rest h)

  steps_history : (before : Registry V) (steps : List (LoopStep V)) (after : Registry V) → AllSteps begins before steps after → IsHistory begins serves before (map Made steps) after
  steps_history before [] after e = e
  steps_history before (step ∷ steps) after (mid, did, rest) = (mid, did, steps_history mid steps after rest)

module _ {V J R : Type 0} (begins : Begins V) (serves : Serves V) (may : May V J R) where
  jobs_history : (before : LoopContents V) (jobs : List (JobRun V J R)) (after : LoopContents V) → AreRun begins serves may before jobs after → IsHistory begins serves before.registry (flat_map (λ job_run. map Made job_run.steps) jobs) after.registry
  jobs_history before [] after e = ap (λ (s : LoopContents V). s.registry) e
  jobs_history before (job_run ∷ jobs) after (mid, ticket, chosen, steps, more) =
      histories_join begins serves before.registry (map Made job_run.steps) mid (flat_map (λ (job_run : JobRun V J R). map Made job_run.steps) jobs) after.registry
      (steps_history begins serves before.registry job_run.steps mid steps)
      (jobs_history (record { registry = mid; taken = before.taken + 1 }) jobs after more)

  pub wait_history : (before : LoopContents V) (ms : _) (waited : Result (List Event) Errno) (positions : List (Position V)) (jobs : List (JobRun V J R)) (after : LoopContents V) → IsIteration begins serves may before waited positions jobs after
      → IsHistory begins serves before.registry (Waited ms waited positions ∷ flat_map (λ job_run. map Made job_run.steps) jobs) after.registry
  wait_history before ms (Ok report) positions jobs after (mid, dispatch, none, ran) = (mid, dispatch, jobs_history (record before { registry = mid }) jobs after ran)
  wait_history before ms (Err errno) positions jobs after (no_positions, none, e) = rw none (before.registry, (no_positions, refl), ap (λ (s : LoopContents V). s.registry) e)

  effect_history : (before : LoopContents V) (effect : Effect V J R) (after : LoopContents V) → HasEffect begins serves may before effect after → IsHistory begins serves before.registry (turns_of effect) after.registry
  effect_history before (Stepped step) after h = (after.registry, h.0, refl)
  effect_history before (Iterated iteration) after h = wait_history before iteration.ms iteration.waited iteration.positions iteration.jobs after h

  pub trace_is_history : (before : LoopContents V) (trace : List (TraceEntry V J R)) (after : LoopContents V) → IsTrace begins serves may before trace after → IsHistory begins serves before.registry (history_of trace) after.registry
  trace_is_history before [] after e = ap (λ (s : LoopContents V). s.registry) e
  trace_is_history before (entry ∷ trace) after (mid, made, did, more) =
      histories_join begins serves before.registry (turns_of entry.effect) mid.registry (history_of trace) after.registry (effect_history before entry.effect mid did) (trace_is_history mid trace after more)

  -- two traces in a row are one
  pub traces_join : (before mid after : LoopContents V) (trace more : List (TraceEntry V J R)) → IsTrace begins serves may before trace mid → IsTrace begins serves may mid more after → IsTrace begins serves may before (trace ++ more) after
  traces_join before mid after [] more is then = subst (λ s. IsTrace begins serves may s more after) is then
  traces_join before mid after (first ∷ trace) more (next, says, did, rest) then = (next, says, did, traces_join next mid after trace more rest then)
