use Rattle.std.proofs.Common.{arith, ap, ◌+◌}
use Rattle.std.specs.FinMap.{len}
use Rattle.dispatch_tables.specs.Ownership.{Ownership}
use Rattle.dispatch_tables.proofs.Counting.{one_more_owner}
use Rattle.dispatch_tables.proofs.RaisedOwners.{raised_at_most, counted_more, from_bool_at_most}
use Rattle.event_loop.proofs.Consistent.{consistent_registered}
use Rattle.event_loop.proofs.OwnersBelow.{owners_at_most}
use Rattle.event_loop.proofs.descriptor_owners.DescriptorOwners.register.Goals as goal

pub overflow_add-self : goal.overflow_add-self
overflow_add-self c =
    let b = c.self.inside in
    omega (arith, owners_at_most b.owners c.self.invariant.are_descriptors, c.self.invariant.counted.0)

pub overflow_add-self-in-Ok : goal.overflow_add-self-in-Ok
overflow_add-self-in-Ok c =
    let b = c.self.inside in
    omega (arith, from_bool_at_most c.is_raised.result, c.from.ensures, raised_at_most b.owners b.owned b.raised c.self.invariant.counted, owners_at_most b.owners c.self.invariant.are_descriptors, c.self.invariant.counted.0)

pub invariant_of-self-in-Ok : goal.invariant_of-self-in-Ok
invariant_of-self-in-Ok c =
    let b = c.self.inside in
    let inv = c.self.invariant in
    let fd = c.number-fd.result in
    let one : Ownership = record { id = c.args.id; priority = c.args.priority } in
    let free = rw (← c.self.view_is, ← c.number-fd.ensures.value) at c.requires in
    let counted = counted_more b.owners b.owned b.raised inv.counted fd one free in
    rw (c.from.ensures, c.is_raised.ensures) (consistent_registered b.owners c.insert-2.new.self b.owned b.raised b.watched c.insert.new.self inv fd one (b.owned + 1) _ free c.number-fd.ensures.is_descriptor c.in-Ok.ensures.ok counted c.insert.ensures.distinct c.in_ok-index.ensures.ok)

pub returns-in-Ok-clause-more : goal.returns-in-Ok-clause-more
returns-in-Ok-clause-more c =
    let b = c.self.inside in
    let one : Ownership = record { id = c.args.id; priority = c.args.priority } in
    let free = rw (← c.self.view_is, ← c.number-fd.ensures.value) at c.requires in
    rw (← c.self.view_is) (omega (arith, ap len c.in-Ok.ensures.ok, one_more_owner b.owners c.number-fd.result one free))
