use Rattle.event_manager.specs.Wants.{by_test}
use Rattle.event_manager.proofs.Apart.{kept_within, kept_apart, as_if_alone}
use Rattle.event_manager.proofs.laws.wants_keep_apart.Goals as goal

pub returns : goal.returns
returns g c = record {
  kept = λ wants claims before history after stays. kept_within (by_test wants) (by_test claims) g.S.MutEventSubscriber.begins g.S.MutEventSubscriber.serves stays;
  apart = λ wants claims before history after disjoint stays i. kept_apart (by_test wants) (by_test claims) g.S.MutEventSubscriber.begins g.S.MutEventSubscriber.serves stays disjoint i;
  as_if_alone = λ wants claims before history after disjoint stays i. as_if_alone (by_test wants) (by_test claims) g.S.MutEventSubscriber.begins g.S.MutEventSubscriber.serves stays disjoint i;
}
