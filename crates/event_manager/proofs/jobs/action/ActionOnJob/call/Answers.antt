use Rattle.std.proofs.Common.{rules, ◌≡◌, Err, refl, [], ◌∷◌}
use Rattle.event_loop.specs.Registry.{Replaced, Refused}
use Rattle.event_manager.proofs.OneStep.{replaced_step, refused_step}
use Rattle.event_manager.proofs.jobs.action.ActionOnJob.call.Goals as goal

pub returns-clause-stepped : goal.returns-clause-stepped
returns-clause-stepped g c =
    let id = c.args.self.subscriber in
    let old = c.in_ok-subscriber.subscriber.now in
    let new = c.act.new.subscriber in (
      Replaced id old new ∷ [],
      (old, new, refl, c.act.ensures.done),
      replaced_step _ _ id old new c.in_ok-subscriber.ensures.found (c.subscriber_mut.follows.holds new (rw c.in_ok-subscriber.was refl)),
    )

pub returns-in_err-subscriber-clause-stepped : goal.returns-in_err-subscriber-clause-stepped
returns-in_err-subscriber-clause-stepped g c =
    let id = c.args.self.subscriber in
    let is : c.from_residual.result ≡ Err c.in_err-subscriber.field-0.0 = search rules in
    rw is (
      Refused id ∷ [],
      (refl, c.in_err-subscriber.ensures.lost.0),
      refused_step _ _ id c.in_err-subscriber.ensures.lost.1 (rw c.in_err-subscriber.was at c.subscriber_mut.follows.holds-at-none),
    )
