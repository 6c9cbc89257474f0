use Rattle.vmm_sys.proofs.Prelude.{sym, subst, max, MatchOption, IsFirstFrom, NoneFrom}
use Rattle.vmm_sys.proofs.Marks.{first_from-lowest}
use Rattle.vmm_sys.proofs.table.number_set.NumberSet.first_from.Goals as goal

pub returns : goal.returns
returns c =
    let s = c.self.inside in
    let n = c.args.number in
    let found = c.search.result in
    let from = subst (λ k. MatchOption found (NoneFrom c.args.self.now k) (λ f. IsFirstFrom c.args.self.now k f)) c.max.ensures c.search.ensures in
    let here = subst (λ ms. MatchOption found (NoneFrom ms (max n s.lowest)) (λ f. IsFirstFrom ms (max n s.lowest) f)) (sym c.self.view_is) from in
    subst (λ ms. MatchOption found (NoneFrom ms n) (λ f. IsFirstFrom ms n f)) c.self.view_is (first_from-lowest s.numbers s.lowest n c.self.invariant.1 found here)
