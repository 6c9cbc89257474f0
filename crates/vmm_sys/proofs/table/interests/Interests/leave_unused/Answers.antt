use Rattle.vmm_sys.proofs.Prelude.{◌≤◌, ◌∙◌, ap, subst, arith, length, Some, length-map, held, InterestsState}
use Rattle.vmm_sys.proofs.Held.{held-full}
use Rattle.vmm_sys.proofs.Slots.{held-enough}
use Rattle.vmm_sys.proofs.table.interests.Interests.leave_unused.Goals as goal

pub returns-then-len-count-clause-list : goal.returns-then-len-count-clause-list
returns-then-len-count-clause-list c = ap held c.close_up.ensures.slots ∙ held-full (held c.args.self.now.slots)

pub returns-then-len-count-clause-unused : goal.returns-then-len-count-clause-unused
returns-then-len-count-clause-unused c =
    let enough = held-enough c.self.inside.places.items c.self.inside.slots.items c.self.invariant.0 in
    let few = subst (λ (s : InterestsState). length (held s.slots) ≤ s.room) c.self.view_is enough in
    let l = ap length c.close_up.ensures.slots ∙ length-map (held c.args.self.now.slots) Some in
    let room = c.close_up.ensures.room in
    let count = c.requires in
    omega arith
