use Rattle.std.proofs.Common.{arith, refl, [], ◌∷◌}
use Rattle.event_loop.specs.declared.events.Request.TheVariants.{Remove}
use Rattle.inboxes.proofs.inbox.InboxMutEventSubscriber.process.Goals as goal
use Rattle.inboxes.proofs.inbox.InboxMutEventSubscriber.process.Goals.{then-self, else-self}

pub returns : goal.returns
returns g c =
    let taken = c.take-taken.ensures.taken in
    rw (← c.self.view_is) (elim c.if-self.branch [
      | then-self w ↦ ((Remove c.self.inside.ready, w.remove.result) ∷ [], w.remove.ensures.0, (rw w.if-self.true refl, refl, (taken.0, rw taken.2 refl, taken.1, grind arith)), rw w.ops-is w.remove.ensures.1)
      | else-self w ↦ ([], [], (rw w.if-self.false refl, refl, (taken.0, rw taken.2 refl, taken.1, grind arith)), rw w.ops-is search)
    ])
