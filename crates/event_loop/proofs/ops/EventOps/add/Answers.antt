use Rattle.event_loop.proofs.ExchangeLemmas.{lowest_made}
use Rattle.event_loop.proofs.ops.EventOps.add.Goals as goal

pub returns : goal.returns
returns g c = (_, lowest_made _ _ _ _ _ c.add_with_priority.ensures.1)
