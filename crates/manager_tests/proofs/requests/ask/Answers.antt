use Rattle.std.proofs.Common.{refl}
use Rattle.event_manager.specs.Registry.{Requested}
use Rattle.event_manager.proofs.LentSteps.{lent_step}
use Rattle.manager_tests.proofs.requests.ask.Goals as goal

pub returns-in-Ok : goal.returns-in-Ok
returns-in-Ok g c =
    let held = c.in-Ok.ensures.held in (
      Requested c.args.id _ c.request.ensures.0,
      (c.request.ensures.0, refl),
      lent_step _ _ c.in-Ok.ops.now c.request.new.self c.args.id held.0 _ c.request.ensures.0 c.in-Ok.ensures.found held.1 c.request.ensures.1 (c.event_ops.follows.holds c.request.new.self (rw c.in-Ok.is refl)),
    )
