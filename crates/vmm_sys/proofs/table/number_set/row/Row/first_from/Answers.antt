use Rattle.vmm_sys.proofs.Prelude.{true, inl, inr, arith, cases_lt, slice_get_within}
use Rattle.vmm_sys.proofs.table.number_set.row.Row.first_from.Goals as goal

pub returns : goal.returns
returns c = λ m from marked.
    elim (cases_lt m c.loop-from.from) [
      | inl before ↦ c.loop-from.invariant.none m from before marked
      | inr past ↦
          let within = slice_get_within c.args.self.now m true marked in
          let end = c.loop-from-test.false in
          omega arith
    ]
