use Rattle.std.proofs.Common.{◌∙◌}
use Rattle.dispatch_tables.proofs.OwnerMaps.{owners_noted_low, owners_noted_high, noted_apart}
use Rattle.dispatch_tables.proofs.owners.Owners.set_index.Goals as goal

pub returns-then-fd-lt-LOW_DESCRIPTORS : goal.returns-then-fd-lt-LOW_DESCRIPTORS
returns-then-fd-lt-LOW_DESCRIPTORS c =
    let b = c.self.inside in
    owners_noted_low b.low.items c.set_index_at.new.low.items b.high.entries b.high.entries c.args.fd c.self.invariant c.set_index_at.ensures.same ∙ c.self.view_is

pub invariant_of-self-2 : goal.invariant_of-self-2
invariant_of-self-2 c =
    let b = c.self.inside in
    noted_apart b.low.items b.low.items b.high.entries c.set_index_in.new.high.entries c.args.fd c.self.invariant c.set_index_in.ensures

pub returns : goal.returns
returns c =
    let b = c.self.inside in
    owners_noted_high b.low.items b.low.items b.high.entries c.set_index_in.new.high.entries c.args.fd c.self.invariant c.set_index_in.ensures ∙ c.self.view_is
