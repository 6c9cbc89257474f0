use Rattle.std.proofs.Common.{ap, length, arith}
use Rattle.vmm_sys.proofs.Rows.{length-marks_of}
use Rattle.vmm_sys.proofs.table.number_set.row.Row.len.Goals as goal

pub returns-clause-len : goal.returns-clause-len
returns-clause-len c =
    let words = c.self.inside.words in
    let view = ap length c.self.view_is in
    let marks = length-marks_of words.items in
    let ok = words.ok.0 in
    let len = c.len.ensures in
    omega arith
