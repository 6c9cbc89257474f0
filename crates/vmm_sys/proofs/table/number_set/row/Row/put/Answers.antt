use Rattle.vmm_sys.proofs.Prelude.{true, false, length, ap, arith}
use Rattle.vmm_sys.proofs.Rows.{length-marks_of}
use Rattle.vmm_sys.proofs.Writes.{put_mark}
use Rattle.vmm_sys.proofs.table.number_set.row.Row.put.Goals as goal

pub index_mut-word-requires : goal.index_mut-word-requires
index_mut-word-requires c =
    let view = ap length c.self.view_is in
    let marks = length-marks_of c.self.inside.words.items in
    let ok = c.self.inside.words.ok.0 in
    omega arith

pub returns-then-mark-clause-marks : goal.returns-then-mark-clause-marks
returns-then-mark-clause-marks c = rw c.if-mark.true (put_mark c.self.inside.words.items c.args.self.now c.args.number c.index_mut-word.result.now true c.self.view_is c.requires c.index_mut-word.ensures.value (omega arith)).0

pub returns-then-mark-clause-above : goal.returns-then-mark-clause-above
returns-then-mark-clause-above c = rw c.if-mark.true (put_mark c.self.inside.words.items c.args.self.now c.args.number c.index_mut-word.result.now true c.self.view_is c.requires c.index_mut-word.ensures.value (omega arith)).1

pub returns-then-mark-clause-alone : goal.returns-then-mark-clause-alone
returns-then-mark-clause-alone c = (put_mark c.self.inside.words.items c.args.self.now c.args.number c.index_mut-word.result.now true c.self.view_is c.requires c.index_mut-word.ensures.value (omega arith)).2

pub returns-clause-marks : goal.returns-clause-marks
returns-clause-marks c = rw c.if-mark.false (put_mark c.self.inside.words.items c.args.self.now c.args.number c.index_mut-word.result.now false c.self.view_is c.requires c.index_mut-word.ensures.value (omega arith)).0

pub returns-clause-above : goal.returns-clause-above
returns-clause-above c = rw c.if-mark.false (put_mark c.self.inside.words.items c.args.self.now c.args.number c.index_mut-word.result.now false c.self.view_is c.requires c.index_mut-word.ensures.value (omega arith)).1

pub returns-clause-alone : goal.returns-clause-alone
returns-clause-alone c = (put_mark c.self.inside.words.items c.args.self.now c.args.number c.index_mut-word.result.now false c.self.view_is c.requires c.index_mut-word.ensures.value (omega arith)).2
