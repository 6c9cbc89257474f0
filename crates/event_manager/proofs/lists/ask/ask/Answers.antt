use Rattle.std.proofs.Common.{refl}
use Rattle.event_loop.specs.Registry.{Requested}
use Rattle.event_manager.proofs.LentSteps.{lent_step}
use Rattle.event_manager.proofs.lists.ask.ask.Goals as goal

pub returns-in-Ok : goal.returns-in-Ok
returns-in-Ok g c =
    let held = c.in-Ok.ensures.held in
    let made = c.make_requests.ensures in (
      Requested c.args.id made.0 made.1,
      (made.0, made.1, refl, made.2, made.3),
      lent_step _ _ c.in-Ok.ops.now c.make_requests.new.ops c.args.id held.0 made.0 made.1 c.in-Ok.ensures.found held.1 made.4 (c.event_ops.follows.holds c.make_requests.new.ops (rw c.in-Ok.is refl)),
    )
