use Rattle.std.proofs.Common.{◌≡◌, ◌+◌, ℕ, reverse, vec_len}
use Rattle.event_loop.specs.LoopState.{LoopState}
use Rattle.event_loop.specs.Subscribers.{loop_state}
use Rattle.event_manager.specs.JobQueue.{TicketsFollow, tickets_and_jobs}
use Rattle.event_manager.specs.JobRuns.{JobsAreRun}
use Rattle.event_manager.proofs.endpoint.taken_jobs.TakenJobs.run_all.Given as goal

-- the rest are counted from here, and follow; what they do from here, all do from the start
abbrev pub invariant-loop-entry : goal.invariant-loop-entry
invariant-loop-entry g l =
    (l.self-inside.ran + vec_len l.self-inside.entries ≡ l.initial.self-inside.ran + vec_len l.initial.self-inside.entries)
    × TicketsFollow l.self-inside.ran (reverse l.self-inside.entries.items)
    × ((after : LoopState _ _) (m : ℕ) → JobsAreRun g.S.MutEventSubscriber.begins g.S.MutEventSubscriber.serves g.J.Job.may g.P.EventPoller.controls g.P.EventPoller.waits (loop_state l.registry) l.self-inside.ran (tickets_and_jobs (reverse l.self-inside.entries.items)) after m
    → JobsAreRun g.S.MutEventSubscriber.begins g.S.MutEventSubscriber.serves g.J.Job.may g.P.EventPoller.controls g.P.EventPoller.waits (loop_state l.initial.registry) l.initial.self-inside.ran (tickets_and_jobs (reverse l.initial.self-inside.entries.items)) after m)

abbrev pub decreases-loop-entry : goal.decreases-loop-entry
decreases-loop-entry g l = vec_len l.self-inside.entries
