use Rattle.vmm_sys.proofs.Prelude.{◌≡◌, ℕ, ◌≤◌, ◌∙◌, ap, sym, subst, arith, length, take, length-take, InterestsState, AreMarked, slot_at}
use Rattle.vmm_sys.proofs.Closing.{Closing-start, Closing-step, closed_same}
use Rattle.vmm_sys.proofs.Slots.{in-slots-same}
use Rattle.vmm_sys.proofs.SlotMarks.{fit-same}
use Rattle.vmm_sys.proofs.table.interests.Interests.close_up.Goals as goal

pub loop-slot-init : goal.loop-slot-init
loop-slot-init c = Closing-start c.args.self.now

pub loop-slot-preserved : goal.loop-slot-preserved
loop-slot-preserved c =
    let test = c.loop-slot-test.true in
    let len = c.len-slot-end.ensures in
    let ok = c.self.inside.slots.ok.0 in
    let v = ap (λ (s : InterestsState). length s.slots) c.self.view_is in
    let e = c.close_slot-next.ensures in
    Closing-step c.loop-slot.invariant (omega arith) c.close_slot-next.new.self c.close_slot-next.result e.room e.empty e.stays e.moves e.marks

pub invariant_of-self : goal.invariant_of-self
invariant_of-self c =
    let test = c.loop-slot-test.false in
    let len = c.len-slot-end.ensures in
    let ok = c.self.inside.slots.ok.0 in
    let v = ap (λ (s : InterestsState). length s.slots) c.self.view_is in
    let le : length c.args.self.now.slots ≤ c.loop-slot.slot = omega arith in
    let slots = c.self-2.inside.slots.items in
    let w = ap (λ (s : InterestsState). s.slots) c.self-2.view_is in
    let same : (s : ℕ) → slot_at (take c.loop-slot.next slots) s ≡ slot_at slots s = λ s. ap (λ l. slot_at (take c.loop-slot.next l) s) w ∙ closed_same c.loop-slot.invariant le s ∙ sym (ap (λ l. slot_at l s) w) in
    let room = c.self-2.invariant.1 in
    let cut = length-take c.loop-slot.next slots in
    let used = room.used in (
      rw c.truncate.ensures.items (in-slots-same c.self-2.inside.places.items slots (take c.loop-slot.next slots) same c.self-2.invariant.0),
      rw (c.truncate.ensures.items, c.truncate.ensures.capacity) (record { descriptors = room.descriptors; slots = room.slots; marks = room.marks; used = omega arith }),
    )

pub returns-clause-marks : goal.returns-clause-marks
returns-clause-marks c = λ p h.
    let test = c.loop-slot-test.false in
    let len = c.len-slot-end.ensures in
    let ok = c.self.inside.slots.ok.0 in
    let v = ap (λ (s : InterestsState). length s.slots) c.self.view_is in
    let le : length c.args.self.now.slots ≤ c.loop-slot.slot = omega arith in
    let slots = c.self-2.inside.slots.items in
    let w = ap (λ (s : InterestsState). s.slots) c.self-2.view_is in
    let same : (s : ℕ) → slot_at (take c.loop-slot.next slots) s ≡ slot_at slots s = λ s. ap (λ l. slot_at (take c.loop-slot.next l) s) w ∙ closed_same c.loop-slot.invariant le s ∙ sym (ap (λ l. slot_at l s) w) in
    let fit = subst (AreMarked p) (sym c.self-2.view_is) (c.loop-slot.invariant.marks p h) in
    let cut = length-take c.loop-slot.next slots in
    rw c.truncate.ensures.items (fit-same p c.self-2.inside.ready slots (take c.loop-slot.next slots) (omega arith) same fit)
