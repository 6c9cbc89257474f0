use Rattle.std.proofs.Common.{refl, Some}
use Rattle.dispatch_tables.proofs.OwnerMaps.{owner_put_low, owner_put_high, still_apart}
use Rattle.dispatch_tables.proofs.owners.Owners.insert.Goals as goal

pub returns-then-fd-lt-LOW_DESCRIPTORS-clause-ok : goal.returns-then-fd-lt-LOW_DESCRIPTORS-clause-ok
returns-then-fd-lt-LOW_DESCRIPTORS-clause-ok c =
    let b = c.self.inside in
    rw (← c.self.view_is) (owner_put_low b.low.items c.put_at.new.low.items b.high.entries b.high.entries c.args.fd c.self.invariant _ c.in_ok-put_at.ensures.ok)

pub invariant_of-self-2 : goal.invariant_of-self-2
invariant_of-self-2 c =
    let b = c.self.inside in
    still_apart b.low.items b.low.items b.high.entries c.put_in.new.high.entries c.args.fd c.self.invariant (Some c.args.owner) c.if-fd-lt-LOW_DESCRIPTORS.false c.in_ok-put_in.ensures.ok

pub returns-clause-ok : goal.returns-clause-ok
returns-clause-ok c =
    let b = c.self.inside in
    rw (← c.self.view_is) (owner_put_high b.low.items b.low.items b.high.entries c.put_in.new.high.entries c.args.fd c.self.invariant (Some c.args.owner) c.if-fd-lt-LOW_DESCRIPTORS.false c.in_ok-put_in.ensures.ok c.args.owner refl)
