-- A list of calls that is driven, and driven again.
use Rattle.std.specs.Prelude.{◌≡◌, false, List, ◌++◌}
use Rattle.event_manager.specs.Prelude.{Controls, Waits, Begins, Serves, May, LoopState, contents_of}
use Rattle.event_manager.specs.Trace.{TraceEntry}
use Rattle.event_manager.specs.Driven.{IsTraceOf}
use Rattle.event_manager.specs.declared.calls.Call.{Call}
use Rattle.event_manager.specs.declared.calls.Reply.{Reply}
use Rattle.poller_records.specs.Recording.{Recording}
use Rattle.poller_records.specs.Replay.{Replay}
use Rattle.recorded_runs.specs.Determinism.{IsTheRun}
use Rattle.recorded_runs.specs.RecordedRun.{BeginsAgain, IsMadeAgain}

module _ {S J R : Type 0} (begins : Begins S) (serves : Serves S) (may : May S J R) where
  -- the calls are made: their replies, which are appended to the old ones, and their trace
  pub record AreMade {P : Type 0} (controls : Controls P) (waits : Waits P) (before : LoopState S P) (calls : List (Call S)) (old all : List (Reply S)) (after : LoopState S P) : Type 0 where
    pub replies : List (Reply S)
    pub appended : all ≡ old ++ replies
    pub trace : List (TraceEntry S J R)
    pub is_trace_of : IsTraceOf begins serves may controls waits before calls replies after trace

  -- Where this trace over a replay makes one over a recording poller again, from what was recorded of it, and its replay hasn't
  -- diverged, it is that one's run.
  abbrev pub RunsAgain : {P : Type 0} → Controls (Recording P) → Waits (Recording P) → LoopState S Replay → List (TraceEntry S J R) → LoopState S Replay → Type 0
  RunsAgain {P} controls waits start again end =
      (before after : LoopState S (Recording P)) (calls : List (Call S)) (replies : List (Reply S)) (trace : List (TraceEntry S J R))
      → IsTraceOf begins serves may controls waits before calls replies after trace
      → BeginsAgain before after start → end.poller.diverged ≡ false → IsMadeAgain trace again → IsTheRun trace again (contents_of after) (contents_of end)
