use Rattle.event_manager.proofs.Soundness.{trace_follows, none_below}
use Rattle.event_manager.proofs.UnknownIds.{removed_unknown}
use Rattle.event_manager.proofs.laws.ids_are_given_once.Goals as goal

pub returns : goal.returns
returns g c = record {
  given = λ before trace after h. (trace_follows g.S.MutEventSubscriber.begins g.S.MutEventSubscriber.serves g.J.Job.may before trace after h).given;
  removed = λ before trace after h s. (trace_follows g.S.MutEventSubscriber.begins g.S.MutEventSubscriber.serves g.J.Job.may before trace after h).removed s;
  unknown = λ before trace after h s. removed_unknown g.S.MutEventSubscriber.begins g.S.MutEventSubscriber.serves g.J.Job.may before trace after h ((trace_follows g.S.MutEventSubscriber.begins g.S.MutEventSubscriber.serves g.J.Job.may before trace after h).removed s);
  new = λ endpoint. none_below 1;
  below = λ before trace after h s. (trace_follows g.S.MutEventSubscriber.begins g.S.MutEventSubscriber.serves g.J.Job.may before trace after h).below s;
}
