-- A recorded run that is made again over its record, without a divergence, is the same run.
use Rattle.std.proofs.Common.{◌≡◌, false, sym, ap, subst, ◌∙◌, List, [], ◌++◌, map}
use Rattle.std.proofs.lemmas.List.{append_cancel_left, append-nil}
use base.Stored.{Gv}
use Rattle.vmm_sys.specs.Poller.{CtlRelation, WaitRelation}
use Rattle.poller_records.specs.Recording.{Recording}
use Rattle.poller_records.specs.Replay.{Replay}
use Rattle.event_loop.specs.Prelude.{Begins, Serves, May, LoopState, contents_of, Leads}
use Rattle.event_manager.specs.Trace.{TraceEntry, IsTrace, calls_of_trace}
use Rattle.recorded_runs.specs.Determinism.{AreFunctions, IsTheRun}
use Rattle.recorded_runs.specs.RecordedRun.{BeginsAgain, IsMadeAgain}
use Rattle.recorded_runs.proofs.SameExchanges.{AreSameCalls, eventless}
use Rattle.recorded_runs.proofs.SameTrace.{trace_alike}
use Rattle.recorded_runs.proofs.RecordedCalls.{recording_controls, recording_waits, recorded_calls, replay_controls, replay_waits, passed_calls, same_fronts}

module _ {V J R P : Type 0} (begins : Begins V) (serves : Serves V) (may : May V J R) where
  module _ (functions : AreFunctions begins serves may) (meaning : P → Gv) (may_ctl : CtlRelation) (may_wait : WaitRelation) where
    pub made_again : (before after : LoopState V (Recording P)) (trace : List (TraceEntry V J R)) (start end : LoopState V Replay) (again : List (TraceEntry V J R))
        → IsTrace begins serves may (contents_of before) trace (contents_of after)
        → Leads (recording_controls meaning may_ctl may_wait) (recording_waits meaning may_ctl may_wait)
        before.poller (calls_of_trace before.capacity trace) after.poller
        → IsTrace begins serves may (contents_of start) again (contents_of end)
        → Leads replay_controls replay_waits start.poller (calls_of_trace start.capacity again) end.poller
        → BeginsAgain before after start → end.poller.diverged ≡ false → IsMadeAgain trace again
        → IsTheRun trace again (contents_of after) (contents_of end)
    made_again before after trace start end again ran led reran releads begin agreed is =
        let kept = recorded_calls meaning may_ctl may_wait (calls_of_trace before.capacity trace) before.poller after.poller begin.complete led in
        let passed = passed_calls (calls_of_trace start.capacity again) start.poller end.poller agreed releads in
        let entries = append_cancel_left before.poller.entries kept.0 start.poller.ahead (sym kept.3 ∙ begin.ahead) in
        let fronts = same_fronts (calls_of_trace before.capacity trace) (calls_of_trace start.capacity again) kept.0 passed.0 end.poller.ahead
        kept.2 passed.2 (entries ∙ passed.3) in
        let calls = subst (λ n. AreSameCalls (calls_of_trace before.capacity trace) (calls_of_trace n again ++ fronts.0)) begin.same_capacity fronts.1 in
        trace_alike begins serves may functions before.capacity (contents_of before) trace again [] fronts.0 (contents_of after) (contents_of end)
        is.same_calls is.same_jobs is.memory is.memory_again (ap (map eventless) (append-nil _) ∙ calls) ran
        (subst (λ s. IsTrace begins serves may s again (contents_of end)) begin.same_state reran)
