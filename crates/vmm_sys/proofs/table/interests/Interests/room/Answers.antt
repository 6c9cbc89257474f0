use Rattle.vmm_sys.proofs.Prelude.{◌≤◌, length, subst, InterestsState, held}
use Rattle.vmm_sys.proofs.Slots.{held-enough}
use Rattle.vmm_sys.proofs.table.interests.Interests.room.Goals as goal

pub returns-clause-enough : goal.returns-clause-enough
returns-clause-enough c =
    let enough = held-enough c.self.inside.places.items c.self.inside.slots.items c.self.invariant.0 in
    subst (λ (s : InterestsState). length (held s.slots) ≤ c.len.result) c.self.view_is (rw (c.len.ensures, c.self.inside.places.ok.0) enough)
