use Rattle.std.proofs.Common.{◌≡◌, []}
use Rattle.event_manager.proofs.Accounts.{Kept}
use Rattle.event_manager.proofs.jobs.account.replay.Given as goal

abbrev pub invariant-loop-step : goal.invariant-loop-step
invariant-loop-step g l = Kept l.yielded l.queue l.outcome.answers.items l.outcome.taken.items × (l.out.items ≡ [])
