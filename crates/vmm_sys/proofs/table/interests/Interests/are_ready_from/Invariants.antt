use Rattle.vmm_sys.proofs.Prelude.{ℕ, ◌<◌, ◌≤◌, IsMarked}
use Rattle.vmm_sys.proofs.table.interests.Interests.are_ready_from.Given as goal

abbrev pub invariant-loop-s : goal.invariant-loop-s
invariant-loop-s l = (s : ℕ) → l.initial.slot ≤ s → s < l.s → IsMarked l.self.marks s
