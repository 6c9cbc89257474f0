use Rattle.event_manager.proofs.Soundness.{trace_follows, new_is_sound}
use Rattle.event_manager.proofs.laws.owners_are_subscribers.Goals as goal

pub returns : goal.returns
returns g c = record {
  new = λ endpoint. new_is_sound endpoint;
  kept = λ before trace after h s. (trace_follows g.S.MutEventSubscriber.begins g.S.MutEventSubscriber.serves g.J.Job.may before trace after h).sound s;
}
