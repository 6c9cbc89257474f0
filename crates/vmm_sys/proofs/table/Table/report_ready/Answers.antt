use Rattle.vmm_sys.proofs.Prelude.{length, held}
use Rattle.vmm_sys.proofs.Reachable.{reachable-moved}
use Rattle.vmm_sys.proofs.table.Table.report_ready.Goals as goal

pub invariant_of-self : goal.invariant_of-self
invariant_of-self c = (
  c.self.invariant.0,
  rw c.report.ensures.room c.self.invariant.1,
  rw c.deref.ensures.value at c.report.ensures.marks,
  rw (c.report.ensures.interests, c.deref.ensures.value) (reachable-moved (record { sources = c.self.inside.sources.items; interests = held c.self.inside.interests.slots; limit = c.self.inside.limit }) (length c.args.buffer.now) c.self.invariant.3),
  c.self.invariant.4,
  c.self.invariant.5,
  c.self.invariant.6,
)
