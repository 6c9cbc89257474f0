use Rattle.std.proofs.Common.{refl}
use Rattle.drive_tests.proofs.both.BothMutEventSubscriber.init.Goals as goal

pub returns : goal.returns
returns g c = (_, _, (_, _, refl, c.init.ensures.2, c.init-2.ensures.2), c.exchanges_join.ensures.made _ _ _ _ _ _ _ c.init.ensures.3 c.init-2.ensures.3)
