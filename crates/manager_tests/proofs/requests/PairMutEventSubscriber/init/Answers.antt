use Rattle.std.proofs.Common.{refl}
use Rattle.event_manager.proofs.ExchangeLemmas.{exchanges_join}
use Rattle.manager_tests.proofs.requests.PairMutEventSubscriber.init.Goals as goal

pub returns : goal.returns
returns g c = (_, _, (_, _, refl, refl), exchanges_join c.add.ensures.1 c.add-2.ensures.1)
