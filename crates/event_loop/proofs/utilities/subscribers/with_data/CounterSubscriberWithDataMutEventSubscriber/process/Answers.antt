use Rattle.std.proofs.Common.{refl}
use Rattle.event_loop.proofs.ExchangeLemmas.{exchanges_join}
use Rattle.event_loop.proofs.utilities.subscribers.with_data.CounterSubscriberWithDataMutEventSubscriber.process.Goals as goal

pub returns : goal.returns
returns g c =
    let renewing = c.renew.ensures in
    let serving = c.serve.ensures in
    (_, _, (renewing.0, serving.0, refl, renewing.2, rw renewing.3 at serving.2), exchanges_join renewing.4 serving.3)
