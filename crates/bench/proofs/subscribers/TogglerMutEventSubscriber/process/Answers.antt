use Rattle.std.proofs.Common.{rules, [], ◌∷◌}
use Rattle.event_manager.specs.Request.TheVariants.{Add, Remove}
use Rattle.event_manager.proofs.ExchangeLemmas.{exchanges_join}
use Rattle.bench.proofs.subscribers.TogglerMutEventSubscriber.process.Goals as goal

pub returns : goal.returns
returns g c = (
  (Remove c.empty_raw.result, c.remove-removed.result) ∷ (Add c.new_raw.result, c.add-added.result) ∷ [],
  _,
  (c.remove-removed.result, c.add-added.result, search rules),
  exchanges_join c.remove-removed.ensures.1 c.add-added.ensures.1,
)
