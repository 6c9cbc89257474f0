use Rattle.event_manager.proofs.ReachedStates.{run_is_reached}
use Rattle.event_manager.proofs.tracked.TrackedManager.run_with_timeout.Goals as goal

pub invariant_of-self : goal.invariant_of-self
invariant_of-self g c = run_is_reached g.S.MutEventSubscriber.begins g.S.MutEventSubscriber.serves g.J.Job.may g.P.EventPoller.controls g.P.EventPoller.waits _ _ _ _ c.self.invariant c.run_with_timeout.ensures
