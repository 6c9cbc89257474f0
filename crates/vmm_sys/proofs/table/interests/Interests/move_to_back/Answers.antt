use Rattle.vmm_sys.proofs.Prelude.{◌≡◌, ◌<◌, ◌*◌, ◌∙◌, sym, subst, arith, length, None, IsSome, length_push, InterestsState, slot_at, AreMarked}
use Rattle.vmm_sys.proofs.Held.{slot-moved, slot-grown}
use Rattle.vmm_sys.proofs.Slots.{in-slots-same}
use Rattle.vmm_sys.proofs.SlotMarks.{fit-grown}
use Rattle.vmm_sys.proofs.table.interests.Interests.move_to_back.Goals as goal

pub invariant_of-self : goal.invariant_of-self
invariant_of-self c =
    let slots = c.self.inside.slots.items in
    let unused = subst (λ (s : InterestsState). length s.slots < 3 * s.room) (sym c.self.view_is) c.requires.unused in
    let room = c.self.invariant.1 in
    let more = length_push slots None in (
      rw c.push_reserved.ensures.items (in-slots-same c.self.inside.places.items slots _ (slot-grown slots) c.self.invariant.0),
      rw (c.push_reserved.ensures.items, c.push_reserved.ensures.capacity) (record { descriptors = room.descriptors; slots = room.slots; marks = room.marks; used = omega arith }),
    )

pub returns-clause-slots : goal.returns-clause-slots
returns-clause-slots c =
    let slots = c.self.inside.slots.items in
    let some = subst (λ (s : InterestsState). IsSome (slot_at s.slots c.args.slot)) (sym c.self.view_is) c.requires.some in
    let last : c.len-last.result ≡ length slots = c.len-last.ensures ∙ c.self.inside.slots.ok.0 in
    rw (← c.self.view_is) (c.shift.ensures.slots ∙ rw (c.push_reserved.ensures.items, last) (slot-moved slots c.args.slot some))

pub returns-clause-marks : goal.returns-clause-marks
returns-clause-marks c = λ p h.
    let slots = c.self.inside.slots.items in
    let fit = subst (AreMarked p) (sym c.self.view_is) h in
    let last : c.len-last.result ≡ length slots = c.len-last.ensures ∙ c.self.inside.slots.ok.0 in
    c.shift.ensures.marks p (rw (c.push_reserved.ensures.items, last) (fit-grown p c.self.inside.ready slots fit))
