use Rattle.std.proofs.Common.{refl, sym, ap, ◌∙◌, inl, inr}
use Rattle.event_loop.proofs.Positions.{nobody_position, served_position, not_owned, not_there, found_id}
use Rattle.event_loop.proofs.registry.Registry.dispatch_next.Goals as goal
use Rattle.dispatch_tables.proofs.Owning.{owner_id}

pub returns-then-ready_entry : goal.returns-then-ready_entry
returns-then-ready_entry g c =
    let ready_entry = c.in-Some.ensures in
    nobody_position _ c.args.self.now _ _ _ _ ready_entry.0 ready_entry.1 ready_entry.2 refl (inl c.if-ready_entry.true) refl ready_entry.3

pub returns-in_default-owner : goal.returns-in_default-owner
returns-in_default-owner g c =
    let ready_entry = c.in-Some.ensures in
    nobody_position _ c.args.self.now _ _ _ _ ready_entry.0 ready_entry.1 ready_entry.2 refl (inr (not_owned c.args.self.now _ _ _ ready_entry.2 (ap owner_id (sym c.owner.ensures.value) ∙ ap found_id c.in_default-owner.is))) refl ready_entry.3

pub returns-in_default-get_mut_at : goal.returns-in_default-get_mut_at
returns-in_default-get_mut_at g c =
    let ready_entry = c.in-Some.ensures in
    let none = sym c.in_default-get_mut_at.ensures.value in
    nobody_position _ c.args.self.now _ _ _ _ ready_entry.0 ready_entry.1 ready_entry.2 refl (inr (not_there c.args.self.now _ _ _ _ ready_entry.2 (ap owner_id (sym c.owner.ensures.value) ∙ ap found_id c.in-Some-owner.is) none)) refl ready_entry.3

pub returns : goal.returns
returns g c =
    let ready_entry = c.in-Some.ensures in
    let called = rw c.turn_to.ensures at c.process.ensures in
    served_position _ c.args.self.now _ _ _ ready_entry.0 c.next_ready.new.self c.in-Some-owner.owner.id c.in-Some-get_mut_at.subscriber.now c.process.new.self called.0 called.1
    (rw c.if-ready_entry.false at ready_entry.1) ready_entry.2 (ap owner_id (sym c.owner.ensures.value) ∙ ap found_id c.in-Some-owner.is) (sym c.in-Some-get_mut_at.ensures.value) (rw c.of_entry.ensures at called.2) called.3.made refl ready_entry.3
