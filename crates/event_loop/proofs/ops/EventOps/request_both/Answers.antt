use Rattle.event_loop.proofs.ExchangeLemmas.{exchanges_join}
use Rattle.event_loop.proofs.ops.EventOps.request_both.Goals as goal

pub returns : goal.returns
returns g c = (_, exchanges_join c.request-one.ensures.1 c.request-two.ensures.1)
