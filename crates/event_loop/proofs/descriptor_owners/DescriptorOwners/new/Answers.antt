use Rattle.event_loop.proofs.Consistent.{consistent_new}
use Rattle.event_loop.proofs.descriptor_owners.DescriptorOwners.new.Goals as goal

pub invariant_of-result : goal.invariant_of-result
invariant_of-result c = rw c.new.ensures (consistent_new c.new-2.result c.new-2.ensures.empty c.new-2.ensures.distinct)
