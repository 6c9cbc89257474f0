use Rattle.vmm_sys.proofs.Prelude.{sym, subst, length-set, InterestsState, Holds}
use Rattle.vmm_sys.proofs.Slots.{in-slots-replace}
use Rattle.vmm_sys.proofs.table.interests.Interests.replace.Goals as goal

pub invariant_of-self : goal.invariant_of-self
invariant_of-self c =
    let h = subst (λ (s : InterestsState). Holds s.slots c.args.slot c.args.interest.descriptor) (sym c.self.view_is) c.requires in
    let room = c.self.invariant.1 in rw c.set_event.ensures (
      in-slots-replace c.self.inside.places.items c.self.inside.slots.items c.self.invariant.0 c.args.slot c.args.interest h,
      record { descriptors = room.descriptors; slots = room.slots; marks = room.marks; used = rw length-set room.used },
    )
