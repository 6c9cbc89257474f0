use Rattle.vmm_sys.proofs.Prelude.{◌≡◌, ◌++◌, take, drop, map, held}
use Rattle.vmm_sys.specs.Table.{entry_of}
use Rattle.vmm_sys.proofs.table.readiness.report_from.Given as goal

abbrev pub invariant-loop-at : goal.invariant-loop-at
invariant-loop-at l = l.buffer ≡ map (entry_of l.sources) (take l.at (held (drop l.first l.interests.slots))) ++ drop l.at l.initial.buffer
