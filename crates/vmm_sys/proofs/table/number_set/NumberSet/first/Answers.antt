use Rattle.vmm_sys.proofs.Prelude.{sym, subst, MatchOption, IsFirstFrom, NoneFrom}
use Rattle.vmm_sys.proofs.Marks.{below-first}
use Rattle.vmm_sys.proofs.table.number_set.NumberSet.first.Goals as goal

pub invariant_of-self : goal.invariant_of-self
invariant_of-self c =
    let s = c.self.inside in
    let found = c.first_from-found.result in
    let here = subst (λ ms. MatchOption found (NoneFrom ms 0) (λ f. IsFirstFrom ms 0 f)) (sym c.self.view_is) c.first_from-found.ensures in
    (c.self.invariant.0, rw c.unwrap_or-self-inside.ensures (below-first s.numbers s.lowest c.self.invariant.1 found here))
