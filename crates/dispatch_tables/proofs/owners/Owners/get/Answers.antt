use Rattle.std.proofs.Common.{ap, ◌∙◌}
use Rattle.dispatch_tables.specs.Owners.{ownership_at}
use Rattle.dispatch_tables.proofs.OwnerMaps.{low_owner, high_owner}
use Rattle.dispatch_tables.proofs.owners.Owners.get.Goals as goal

pub returns-then-fd-lt-LOW_DESCRIPTORS : goal.returns-then-fd-lt-LOW_DESCRIPTORS
returns-then-fd-lt-LOW_DESCRIPTORS c =
    let b = c.self.inside in
    rw (← c.self.view_is) (low_owner b.low.items b.high.entries c.args.fd _ c.self.invariant c.if-fd-lt-LOW_DESCRIPTORS.true (c.copy_at.ensures ∙ ap (λ low. ownership_at low c.args.fd) c.deref.ensures.value))

pub returns : goal.returns
returns c =
    let b = c.self.inside in
    rw (← c.self.view_is) (high_owner b.low.items b.high.entries c.args.fd _ c.self.invariant c.if-fd-lt-LOW_DESCRIPTORS.false c.find_in.ensures)
