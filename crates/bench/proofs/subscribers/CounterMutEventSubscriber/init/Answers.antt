use Rattle.std.proofs.Common.{[], refl}
use Rattle.event_manager.proofs.ExchangeLemmas.{none_made, exchanges_join}
use Rattle.bench.proofs.subscribers.CounterMutEventSubscriber.init.Goals as goal

pub loop-k-init : goal.loop-k-init
loop-k-init g c = ([], [], refl, none_made c.args.ops.now)

pub loop-k-preserved : goal.loop-k-preserved
loop-k-preserved g c = (_, _, c.loop-k.invariant.2, exchanges_join c.loop-k.invariant.3 c.add.ensures.1)
