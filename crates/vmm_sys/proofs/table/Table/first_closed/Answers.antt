use Rattle.vmm_sys.proofs.Prelude.{◌≡◌, subst}
use Rattle.vmm_sys.specs.Table.{TableState, first_closed}
use Rattle.vmm_sys.proofs.ClosedNumbers.{lowest, lowest-below}
use Rattle.vmm_sys.proofs.table.Table.first_closed.Goals as goal

pub returns-clause-first : goal.returns-clause-first
returns-clause-first c = subst (λ (t : TableState). c.first.result ≡ first_closed t) c.self.view_is (lowest c.self.inside.sources.items c.self.inside.closed c.self.invariant.6 c.first.result c.first.ensures.first)

pub returns-clause-below : goal.returns-clause-below
returns-clause-below c = lowest-below c.self.inside.sources.items c.self.inside.closed c.self.invariant.6 c.first.result c.self.inside.limit c.first.ensures.first c.self.invariant.4 c.self.invariant.0
