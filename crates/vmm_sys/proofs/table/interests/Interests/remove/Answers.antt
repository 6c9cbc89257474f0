use Rattle.vmm_sys.proofs.Prelude.{◌≡◌, ◌+◌, ◌≤◌, ◌∙◌, ap, arith, length, take, None, get_or-set_same, length-take, held, InterestsState, slot_at}
use Rattle.vmm_sys.proofs.Held.{slot-last, held-cut}
use Rattle.vmm_sys.proofs.Slots.{holds-within, in-slots-same}
use Rattle.vmm_sys.proofs.table.interests.Interests.remove.Goals as goal

last-is : (c : goal.After-truncate) → length c.self.inside.slots.items ≤ c.args.slot + 1
last-is c =
    let len = c.len.ensures ∙ c.self.inside.slots.ok.0 in
    let test = c.if-len-slot-eq1.true in
    omega arith

is-empty : (c : goal.After-truncate) → slot_at c.self.inside.slots.items c.args.slot ≡ None
is-empty c =
    let old = c.args.self.now.slots in
    let within = holds-within old c.args.slot c.args.descriptor c.requires in
    ap (λ (s : InterestsState). slot_at s.slots c.args.slot) (c.self.view_is ∙ c.empty.ensures) ∙ get_or-set_same old c.args.slot None None within

pub invariant_of-self : goal.invariant_of-self
invariant_of-self c =
    let slots = c.self.inside.slots.items in
    let last = c.args.slot in
    let room = c.self.invariant.1 in
    let cut = length-take last slots in
    let used = room.used in (
      rw c.truncate.ensures.items (in-slots-same c.self.inside.places.items slots (take last slots) (λ t. slot-last slots last t (last-is c) (is-empty c)) c.self.invariant.0),
      rw (c.truncate.ensures.items, c.truncate.ensures.capacity) (record { descriptors = room.descriptors; slots = room.slots; marks = room.marks; used = omega arith }),
    )

pub returns-then-len-slot-eq1-clause-list : goal.returns-then-len-slot-eq1-clause-list
returns-then-len-slot-eq1-clause-list c =
    let slots = c.self.inside.slots.items in
    let last = c.args.slot in
    ap held c.truncate.ensures.items ∙ held-cut slots last (last-is c) (is-empty c) ∙ ap (λ (s : InterestsState). held s.slots) (c.self.view_is ∙ c.empty.ensures)
