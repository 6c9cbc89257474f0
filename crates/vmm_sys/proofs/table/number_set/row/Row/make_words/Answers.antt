use Rattle.vmm_sys.proofs.Prelude.{◌≡◌, ◌≤◌, ◌*◌, ◌-◌, ◌++◌, ◌∙◌, length, replicate, ap, sym, subst, arith, false, append-nil, OnOk}
use Rattle.vmm_sys.proofs.Rows.{length-marks_of, resized}
use Rattle.vmm_sys.specs.Row.{marks_of}
use Rattle.vmm_sys.proofs.table.number_set.row.Row.make_words.Goals as goal

pub returns-then-words-len-clause-longer : goal.returns-then-words-len-clause-longer
returns-then-words-len-clause-longer c =
    let words = c.self.inside.words in
    let view = ap length c.self.view_is in
    let marks = length-marks_of words.items in
    let ok = words.ok.0 in
    let len = c.len.ensures in
    let none : 64 * c.args.words - length c.args.self.now ≡ 0 = omega arith in
    sym (ap (λ k. c.args.self.now ++ replicate k false) none ∙ append-nil c.args.self.now)

pub returns-clause-longer : goal.returns-clause-longer
returns-clause-longer c =
    let words = c.self.inside.words in
    let ok = words.ok.0 in
    let len = c.len.ensures in
    let more : length words.items ≤ c.args.words = omega arith in
    let items = c.resize.ensures.items in
    subst (λ ms. OnOk c.resize.result (marks_of c.resize.new.self.items ≡ ms ++ replicate (64 * c.args.words - length ms) false)) c.self.view_is
    (resized words.items c.resize.new.self.items c.args.words c.resize.result more (rw (← ok) items))
