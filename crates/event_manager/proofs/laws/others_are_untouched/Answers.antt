use Rattle.event_manager.proofs.Isolation.{isolated_step, isolated_delivery, left_frees}
use Rattle.event_manager.proofs.PendingAfter.{pending_after}
use Rattle.event_manager.proofs.laws.others_are_untouched.Goals as goal

pub returns : goal.returns
returns g c = record {
  steps = λ before step after h. isolated_step g.S.MutEventSubscriber.begins before step after h;
  deliveries = λ before removed event delivery after h. isolated_delivery g.S.MutEventSubscriber.serves before removed event delivery after h;
  leaving = λ before after i value calls h. left_frees g.S.MutEventSubscriber.begins before after i value calls h;
  pending = λ before earlier event later delivery after h. pending_after g.S.MutEventSubscriber.serves before earlier event later delivery after h;
}
