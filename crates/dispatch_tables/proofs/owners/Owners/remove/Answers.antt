use Rattle.std.proofs.Common.{refl, None}
use Rattle.dispatch_tables.proofs.OwnerMaps.{low_owner, high_owner, owner_taken_low, owner_taken_high, still_apart}
use Rattle.dispatch_tables.proofs.owners.Owners.remove.Goals as goal

pub returns-then-fd-lt-LOW_DESCRIPTORS-clause-value : goal.returns-then-fd-lt-LOW_DESCRIPTORS-clause-value
returns-then-fd-lt-LOW_DESCRIPTORS-clause-value c =
    let b = c.self.inside in
    rw (← c.self.view_is) (low_owner b.low.items b.high.entries c.args.fd _ c.self.invariant c.if-fd-lt-LOW_DESCRIPTORS.true c.take_at.ensures.value)

pub returns-then-fd-lt-LOW_DESCRIPTORS-clause-removed : goal.returns-then-fd-lt-LOW_DESCRIPTORS-clause-removed
returns-then-fd-lt-LOW_DESCRIPTORS-clause-removed c =
    let b = c.self.inside in
    rw (← c.self.view_is) (owner_taken_low b.low.items c.take_at.new.low.items b.high.entries b.high.entries c.args.fd c.self.invariant c.if-fd-lt-LOW_DESCRIPTORS.true c.take_at.ensures.taken)

pub invariant_of-self-2 : goal.invariant_of-self-2
invariant_of-self-2 c =
    let b = c.self.inside in
    still_apart b.low.items b.low.items b.high.entries c.take_from.new.high.entries c.args.fd c.self.invariant None c.if-fd-lt-LOW_DESCRIPTORS.false c.take_from.ensures.taken

pub returns-clause-value : goal.returns-clause-value
returns-clause-value c =
    let b = c.self.inside in
    rw (← c.self.view_is) (high_owner b.low.items b.high.entries c.args.fd _ c.self.invariant c.if-fd-lt-LOW_DESCRIPTORS.false c.take_from.ensures.value)

pub returns-clause-removed : goal.returns-clause-removed
returns-clause-removed c =
    let b = c.self.inside in
    rw (← c.self.view_is) (owner_taken_high b.low.items b.low.items b.high.entries c.take_from.new.high.entries c.args.fd c.self.invariant None c.if-fd-lt-LOW_DESCRIPTORS.false c.take_from.ensures.taken refl)
