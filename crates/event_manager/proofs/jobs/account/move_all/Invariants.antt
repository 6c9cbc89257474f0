use Rattle.std.proofs.Common.{◌≡◌, ◌++◌, reverse}
use Rattle.event_manager.specs.JobQueue.{tickets_and_jobs}
use Rattle.event_manager.proofs.jobs.account.move_all.Given as goal

abbrev pub invariant-loop-ticket : goal.invariant-loop-ticket
invariant-loop-ticket g l = l.taken.items ++ tickets_and_jobs (reverse l.out.items) ≡ l.initial.taken.items ++ tickets_and_jobs (reverse l.initial.out.items)

abbrev pub decreases-loop-ticket : goal.decreases-loop-ticket
decreases-loop-ticket g l = goal.left-loop-ticket g l
