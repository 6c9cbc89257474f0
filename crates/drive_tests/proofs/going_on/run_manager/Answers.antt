use Rattle.std.proofs.Common.{arith}
use Rattle.event_manager.specs.declared.jobs.action.ActionOn.{ActionOn}
use Rattle.event_manager.proofs.Kept.{actions_go_on, manager_goes_on}
use Rattle.drive_tests.specs.declared.going_on.Advance.{Advance}
use Rattle.drive_tests.specs.Meters.{no_less}
use Rattle.drive_tests.proofs.going_on.run_manager.Goals as goal

pub returns : goal.returns
returns g c = manager_goes_on _ _ no_less (λ v. omega arith) (λ u v w first second. omega arith) (λ v event exchanges w served. served.1)
    _ (actions_go_on no_less _ (λ (job : ActionOn Advance). job.subscriber) (λ job. job.action) (λ action old reply new did. did.0)) _ _ _ _ _ _ c.next_id-next.ensures.below c.run_with_timeout.ensures
