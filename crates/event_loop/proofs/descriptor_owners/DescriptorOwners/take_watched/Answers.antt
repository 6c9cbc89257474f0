use Rattle.std.proofs.Common.{sym, ap, arith, ◌∙◌}
use Rattle.event_loop.specs.RegistrationParts.{OwnerState, between_batches}
use Rattle.event_loop.proofs.Consistent.{consistent_taken}
use Rattle.event_loop.proofs.Watching.{owners_taken, owned_in_order, listed_are_descriptors}
use Rattle.event_loop.proofs.descriptor_owners.DescriptorOwners.take_watched.Goals as goal

pub invariant_of-self : goal.invariant_of-self
invariant_of-self c =
    let b = c.self.inside in
    let gone = rw c.deref.ensures.value at c.disown_all.ensures.disowned in
    consistent_taken b.owners c.disown_all.new.owners b.owned b.raised b.watched c.take-fds.new.self c.self.invariant c.args.id c.disown_all.new.owned c.disown_all.new.raised c.take-fds.result.items c.take-fds.ensures.value gone c.disown_all.ensures.counted c.take-fds.ensures.distinct c.take-fds.ensures.taken

pub returns-clause-owned : goal.returns-clause-owned
returns-clause-owned c =
    let list = c.take-fds.ensures.value in
    owned_in_order c.self.inside.owners c.take-fds.result.items c.args.id (λ fd. list fd ∙ c.self.invariant.are_watched c.args.id fd) c.take-fds.ensures.ascending (between_batches c.args.self.now) (ap (λ (s : OwnerState). s.owners) (sym c.self.view_is))

pub returns-clause-are_descriptors : goal.returns-clause-are_descriptors
returns-clause-are_descriptors c =
    let list = c.take-fds.ensures.value in
    listed_are_descriptors c.self.inside.owners c.take-fds.result.items c.args.id (λ fd. list fd ∙ c.self.invariant.are_watched c.args.id fd) c.self.invariant.are_descriptors

pub returns-clause-freed : goal.returns-clause-freed
returns-clause-freed c =
    let b = c.self.inside in
    let gone = rw c.deref.ensures.value at c.disown_all.ensures.disowned in
    let freed = owners_taken b.owners c.disown_all.new.owners b.watched c.args.id c.self.invariant.are_watched c.take-fds.result.items c.take-fds.ensures.value gone in
    rw (← c.self.view_is) (λ k. record { owners = freed k; endpoint = b.endpoint })

pub returns-clause-fewer : goal.returns-clause-fewer
returns-clause-fewer c =
    let counted = c.self.invariant.counted in
    rw (← c.self.view_is) (omega (arith, counted.0, c.disown_all.ensures.counted.0, c.disown_all.ensures.fewer))
