use Rattle.std.proofs.Common.{arith}
use Rattle.event_manager.specs.declared.jobs.action.ActionOn.{ActionOn}
use Rattle.event_manager.specs.Kept.{keeps}
use Rattle.event_manager.proofs.Kept.{actions_go_on, run_good}
use Rattle.drive_tests.specs.declared.going_on.Advance.{Advance}
use Rattle.drive_tests.specs.Meters.{has_gone_on}
use Rattle.drive_tests.proofs.going_on.run_meters.Goals as goal

pub returns : goal.returns
returns g c = run_good _ _ has_gone_on (λ v exchanges w begun. rw begun.1 (omega arith)) (λ v event exchanges w served good. omega (arith, served.1, served.2, good))
    _ (actions_go_on (keeps has_gone_on) _ (λ (job : ActionOn Advance). job.subscriber) (λ job. job.action) (λ action old reply new did good. omega (arith, did.0, did.1, good))) _ _ _ c.with_senders.ensures
