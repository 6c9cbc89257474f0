use Rattle.vmm_sys.proofs.Prelude.{sym, subst, length-set, InterestsState, Holds}
use Rattle.vmm_sys.proofs.Slots.{in-slots-remove, holds-below}
use Rattle.vmm_sys.proofs.table.interests.Interests.empty.Goals as goal

pub index_mut-requires-2 : goal.index_mut-requires-2
index_mut-requires-2 c =
    let h = subst (λ (s : InterestsState). Holds s.slots c.args.slot c.args.descriptor) (sym c.self.view_is) c.requires in
    rw c.self.inside.places.ok.0 (holds-below c.self.inside.places.items c.self.inside.slots.items c.self.invariant.0 c.args.slot c.args.descriptor h)

pub invariant_of-self : goal.invariant_of-self
invariant_of-self c =
    let h = subst (λ (s : InterestsState). Holds s.slots c.args.slot c.args.descriptor) (sym c.self.view_is) c.requires in
    let room = c.self.invariant.1 in (
      in-slots-remove c.self.inside.places.items c.self.inside.slots.items c.self.invariant.0 c.args.slot c.args.descriptor h,
      rw length-set (record { descriptors = room.descriptors; slots = room.slots; marks = room.marks; used = rw length-set room.used }),
    )
