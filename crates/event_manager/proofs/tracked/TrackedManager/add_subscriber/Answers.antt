use Rattle.event_manager.proofs.ReachedStates.{join_is_reached}
use Rattle.event_manager.proofs.tracked.TrackedManager.add_subscriber.Goals as goal

pub invariant_of-self : goal.invariant_of-self
invariant_of-self g c = let did = c.add_subscriber.ensures in join_is_reached g.S.MutEventSubscriber.begins g.S.MutEventSubscriber.serves g.J.Job.may g.P.EventPoller.controls g.P.EventPoller.waits _ _ _ _ did.0 c.self.invariant did.1 did.2
