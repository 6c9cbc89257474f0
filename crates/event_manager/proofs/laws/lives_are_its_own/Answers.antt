use Rattle.event_manager.proofs.Lives.{history_lives}
use Rattle.event_manager.proofs.laws.lives_are_its_own.Goals as goal

pub returns : goal.returns
returns g c = λ i before history after h. history_lives g.S.MutEventSubscriber.begins g.S.MutEventSubscriber.serves i before history after h
