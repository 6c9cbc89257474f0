use Rattle.std.proofs.Common.{arith}
use Rattle.event_manager.proofs.Kept.{loop_goes_on}
use Rattle.drive_tests.specs.Meters.{no_less}
use Rattle.drive_tests.proofs.going_on.run_loop.Goals as goal

pub returns : goal.returns
returns g c = loop_goes_on _ _ no_less (λ v. omega arith) (λ u v w first second. omega arith) (λ v event exchanges w served. served.1) _ _ _ _ _ _ c.run_with_timeout.ensures
