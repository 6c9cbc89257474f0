use Rattle.event_manager.proofs.Accounts.{more}
use Rattle.event_manager.proofs.jobs.account.replay.Goals as goal

pub loop-step-preserved : goal.loop-step-preserved
loop-step-preserved g c =
    let did = c.in_ok-replay_one.ensures in
    (more c.loop-step.yielded c.in-Some.step c.loop-step.queue _ c.loop-step.outcome.answers.items _ c.loop-step.outcome.taken.items _ c.loop-step.invariant.0 did.turn, did.empty)
