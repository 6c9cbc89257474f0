use Rattle.event_manager.proofs.TraceSoFar.{none_driven, lists_join}
use Rattle.event_manager.proofs.laws.driven_lists_join.Goals as goal

pub returns : goal.returns
returns g c = record {
  empty = none_driven g.S.MutEventSubscriber.begins g.S.MutEventSubscriber.serves g.J.Job.may g.P.EventPoller.controls g.P.EventPoller.waits;
  joined = lists_join g.S.MutEventSubscriber.begins g.S.MutEventSubscriber.serves g.J.Job.may g.P.EventPoller.controls g.P.EventPoller.waits;
}
