-- A manager over a recording poller, and again over a replay of what was recorded.
use Rattle.std.specs.Prelude.{◌≡◌, true, List, ◌++◌, map}
use Rattle.std.specs.List.{AllZip}
use Rattle.event_loop.specs.LoopState.{LoopState, contents_of}
use Rattle.poller_records.specs.Recording.{Recording}
use Rattle.poller_records.specs.Replay.{Replay}
use Rattle.event_manager.specs.Trace.{TraceEntry}
use Rattle.recorded_runs.specs.Determinism.{IsSameCall, HaveMemory, answers_in, jobs_in}

-- No call was left out of the record; and the manager begins again as it began, its replay at what was recorded since then.
pub record BeginsAgain {S P : Type 0} (before after : LoopState S (Recording P)) (again : LoopState S Replay) : Type 0 where
  pub complete : after.poller.complete ≡ true
  pub ahead : after.poller.entries ≡ before.poller.entries ++ again.poller.ahead
  pub same_state : contents_of again ≡ contents_of before
  pub same_capacity : again.capacity ≡ before.capacity

-- The same calls of the manager again, and the same jobs in each; neither time memory is lacking.
pub record IsMadeAgain {V J R : Type 0} (trace again : List (TraceEntry V J R)) : Type 0 where
  pub same_calls : AllZip IsSameCall (map (λ entry. entry.call) trace) (map (λ entry. entry.call) again)
  pub same_jobs : jobs_in trace ≡ jobs_in again
  pub memory : HaveMemory (answers_in trace)
  pub memory_again : HaveMemory (answers_in again)
