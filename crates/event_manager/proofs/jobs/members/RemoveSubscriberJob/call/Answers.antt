use Rattle.std.proofs.Common.{refl, [], ◌∷◌}
use Rattle.event_manager.proofs.OneStep.{one_step}
use Rattle.event_manager.proofs.jobs.members.RemoveSubscriberJob.call.Goals as goal

pub returns-clause-stepped : goal.returns-clause-stepped
returns-clause-stepped g c =
    let did = c.remove_subscriber.ensures in
    (did.0 ∷ [], (did.0, refl, did.1), one_step _ _ did.0 did.2)
