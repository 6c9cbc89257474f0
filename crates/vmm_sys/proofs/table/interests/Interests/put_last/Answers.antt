use Rattle.vmm_sys.proofs.Prelude.{◌<◌, ◌*◌, sym, subst, arith, length, length-set, Some, length_push, InterestsState, NoneHolds}
use Rattle.vmm_sys.proofs.Slots.{in-slots-push}
use Rattle.vmm_sys.proofs.table.interests.Interests.put_last.Goals as goal

pub invariant_of-self : goal.invariant_of-self
invariant_of-self c =
    let i = c.args.interest in
    let places = c.self.inside.places.items in
    let slots = c.self.inside.slots.items in
    let none = subst (λ (s : InterestsState). NoneHolds s.slots i.descriptor) (sym c.self.view_is) c.requires.absent in
    let below = subst (λ (s : InterestsState). i.descriptor < s.room) (sym c.self.view_is) c.requires.room in
    let unused = subst (λ (s : InterestsState). length s.slots < 3 * s.room) (sym c.self.view_is) c.requires.unused in
    let pushed = in-slots-push places slots c.self.invariant.0 i none below in
    let room = c.self.invariant.1 in
    let more = length_push slots (Some i) in (
      rw (c.push_reserved.ensures.items, c.len.ensures, c.self.inside.slots.ok.0) pushed,
      rw (length-set, c.push_reserved.ensures.items, c.push_reserved.ensures.capacity) (record { descriptors = room.descriptors; slots = room.slots; marks = room.marks; used = omega arith }),
    )
