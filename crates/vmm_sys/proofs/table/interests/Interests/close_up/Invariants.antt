use Rattle.vmm_sys.proofs.Closing.{Closing}
use Rattle.vmm_sys.proofs.table.interests.Interests.close_up.Given as goal

abbrev pub invariant-loop-slot : goal.invariant-loop-slot
invariant-loop-slot l = Closing l.initial.self l.self l.slot l.next
