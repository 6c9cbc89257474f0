use Rattle.vmm_sys.proofs.Prelude.{◌≡◌, ◌<◌, ◌∙◌, ap, sym, subst, refl, arith, length, length-set, get_or, Some, None, InterestsState, slot_at, AreMarkedBut, IsSome, get_or_read}
use Rattle.vmm_sys.proofs.Held.{slot-within, some-within}
use Rattle.vmm_sys.proofs.Slots.{in-slots-shift, holds-below, holds-by}
use Rattle.vmm_sys.proofs.SlotMarks.{fit-shift}
use Rattle.vmm_sys.proofs.table.interests.Interests.shift.Goals as goal

pub index_mut-requires-3 : goal.index_mut-requires-3
index_mut-requires-3 c =
    let slots = c.self.inside.slots.items in
    let i = c.in-Some.interest in
    let lt = some-within slots c.args.from (subst (λ (s : InterestsState). IsSome (slot_at s.slots c.args.from)) (sym c.self.view_is) c.requires.some) in
    let at : slot_at slots c.args.from ≡ Some i = sym (get_or_read slots c.args.from (Some i) lt (sym c.in-Some.is ∙ c.index.ensures ∙ ap (get_or slots c.args.from) c.in-Some.is) None) in
    rw c.self.inside.places.ok.0 (holds-below c.self.inside.places.items slots c.self.invariant.0 c.args.from i.descriptor (holds-by slots c.args.from i.descriptor i at refl))

pub invariant_of-self : goal.invariant_of-self
invariant_of-self c =
    let slots = c.self.inside.slots.items in
    let i = c.in-Some.interest in
    let lt = some-within slots c.args.from (subst (λ (s : InterestsState). IsSome (slot_at s.slots c.args.from)) (sym c.self.view_is) c.requires.some) in
    let at : slot_at slots c.args.from ≡ Some i = sym (get_or_read slots c.args.from (Some i) lt (sym c.in-Some.is ∙ c.index.ensures ∙ ap (get_or slots c.args.from) c.in-Some.is) None) in
    let empty = subst (λ (s : InterestsState). slot_at s.slots c.args.to ≡ None) (sym c.self.view_is) c.requires.none in
    let used = subst (λ (s : InterestsState). c.args.to < length s.slots) (sym c.self.view_is) c.requires.used in
    let room = c.self.invariant.1 in (
      in-slots-shift c.self.inside.places.items slots c.self.invariant.0 c.args.from c.args.to i at empty used,
      rw length-set (record { descriptors = room.descriptors; slots = room.slots; marks = rw c.move_mark.ensures.length room.marks; used = rw (length-set, length-set) room.used }),
    )

pub returns-clause-marks : goal.returns-clause-marks
returns-clause-marks c = λ p h.
    let slots = c.self.inside.slots.items in
    let i = c.in-Some.interest in
    let lt = some-within slots c.args.from (subst (λ (s : InterestsState). IsSome (slot_at s.slots c.args.from)) (sym c.self.view_is) c.requires.some) in
    let at : slot_at slots c.args.from ≡ Some i = sym (get_or_read slots c.args.from (Some i) lt (sym c.in-Some.is ∙ c.index.ensures ∙ ap (get_or slots c.args.from) c.in-Some.is) None) in
    let empty = subst (λ (s : InterestsState). slot_at s.slots c.args.to ≡ None) (sym c.self.view_is) c.requires.none in
    let used = subst (λ (s : InterestsState). c.args.to < length s.slots) (sym c.self.view_is) c.requires.used in
    let fit = subst (AreMarkedBut c.args.to p) (sym c.self.view_is) h in
    let r1 = c.self.invariant.1.used in
    let r2 = c.self.invariant.1.marks in
    let within = slot-within slots c.args.from i at in
    fit-shift p c.self.inside.ready c.move_mark.new.ready slots c.args.from c.args.to i fit at empty (omega arith) (omega arith) used c.move_mark.ensures.marked c.move_mark.ensures.unmarked
