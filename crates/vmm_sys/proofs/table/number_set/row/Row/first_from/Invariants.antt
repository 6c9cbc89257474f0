use Rattle.vmm_sys.proofs.Prelude.{ℕ, ◌<◌, ◌≤◌, ◌-◌, length, IsMarked}
use Rattle.vmm_sys.proofs.table.number_set.row.Row.first_from.Given as goal

abbrev pub invariant-loop-from : goal.invariant-loop-from
invariant-loop-from l = record { on : l.fn.number ≤ l.from; none : (m : ℕ) → l.fn.number ≤ m → m < l.from → ¬ IsMarked l.self m }

abbrev pub decreases-loop-from : goal.decreases-loop-from
decreases-loop-from l = length l.self - l.from
