use Rattle.vmm_sys.proofs.Prelude.{subst, MatchOption, IsFirstFrom, NoneFrom}
use Rattle.vmm_sys.proofs.Marks.{found}
use Rattle.vmm_sys.proofs.table.number_set.NumberSet.search.Goals as goal

pub returns : goal.returns
returns c =
    let s = c.self.inside in
    subst (λ ms. MatchOption c.first_in_word.result (NoneFrom ms c.args.number) (λ n. IsFirstFrom ms c.args.number n)) c.self.view_is
    (found s.words s.numbers c.self.invariant.0.of_numbers c.args.number c.in_ok-word.word c.first_in_word.result c.in_default.ensures c.in_ok-word.ensures c.first_in_word.ensures)
