use Rattle.std.proofs.Common.{ap}
use Rattle.vmm_sys.specs.Row.{marks_of}
use Rattle.vmm_sys.proofs.table.number_set.row.Row.new.Goals as goal

pub returns : goal.returns
unfolding marks_of
returns c = ap marks_of c.new.ensures.items
