use Rattle.event_manager.proofs.ReachedStates.{act_is_reached}
use Rattle.event_manager.proofs.tracked.act_here.Goals as goal

pub invariant_of-manager : goal.invariant_of-manager
invariant_of-manager g c =
    let did = c.call_here.ensures in
    act_is_reached g.S.MutEventSubscriber.begins g.S.MutEventSubscriber.serves _ g.P.EventPoller.controls g.P.EventPoller.waits _ _ g.A.Action.does c.args.action.subscriber c.args.action.action c.call_here.result did.0 c.args.action c.call_here.result did.1 c.manager.invariant did.1 did.2
