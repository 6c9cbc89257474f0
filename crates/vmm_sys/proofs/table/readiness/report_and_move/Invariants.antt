use Rattle.vmm_sys.specs.Table.{is_ready, entry_of}
use Rattle.vmm_sys.proofs.Walked.{Walked}
use Rattle.vmm_sys.proofs.table.readiness.report_and_move.Given as goal

abbrev pub invariant-loop-count : goal.invariant-loop-count
invariant-loop-count l = Walked (is_ready l.sources) (entry_of l.sources) l.initial.interests l.initial.buffer l.interests l.buffer l.count l.from
