use Rattle.std.proofs.Common.{refl}
use Rattle.drive_tests.proofs.both.BothMutEventSubscriber.process.Goals as goal

pub returns : goal.returns
returns g c = (_, _, (_, _, refl, c.process.ensures.2, c.process-2.ensures.2), c.exchanges_join.ensures.made _ _ _ _ _ _ _ c.process.ensures.3 c.process-2.ensures.3)
