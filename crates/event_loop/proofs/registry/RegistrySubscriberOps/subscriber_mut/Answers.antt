use Rattle.std.proofs.Common.{refl, sym, ap}
use Rattle.std.proofs.lemmas.Bool.{false≢true}
use Rattle.std.specs.FinMap.{insert}
use Rattle.event_loop.specs.Subscribers.{loop_state}
use Rattle.event_loop.proofs.registry.RegistrySubscriberOps.subscriber_mut.Goals as goal

pub returns-in-Some : goal.returns-in-Some
returns-in-Some g c =
    let held = rw c.number.ensures at c.in-Some.ensures.value in
    let before = loop_state c.args.self.now in (
      (
        refl,
        λ w _. ap (λ id. record before { registry = record before.registry { values = insert before.registry.values id w } }) c.number.ensures,
        tt,
      ),
      record { lent = tt; found = sym held; lost = tt },
    )

pub returns-in-None : goal.returns-in-None
returns-in-None g c =
    let none = rw c.number.ensures at c.in-None.ensures.value in (
      (refl, (λ w e. absurd (false≢true e)), refl),
      record { lent = tt; found = tt; lost = (refl, sym none) },
    )
