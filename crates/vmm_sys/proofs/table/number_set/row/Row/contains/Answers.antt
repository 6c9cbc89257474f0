use Rattle.vmm_sys.proofs.Prelude.{◌≡◌, ◌/◌, ◌%◌, ◌<◌, ◌^◌, true, length, eqb, ap, subst, arith, ◌↔◌, bit_and, get_or_read, IsMarked}
use Rattle.vmm_sys.proofs.Rows.{length-marks_of, tests_mark}
use Rattle.vmm_sys.proofs.table.number_set.row.Row.contains.Goals as goal

pub index-requires : goal.index-requires
index-requires c =
    let view = ap length c.self.view_is in
    let marks = length-marks_of c.self.inside.words.items in
    let ok = c.self.inside.words.ok.0 in
    omega arith

pub returns : goal.returns
returns c =
    let words = c.self.inside.words.items in
    let n = c.args.number in
    let view = ap length c.self.view_is in
    let marks = length-marks_of words in
    let inside : n / 64 < length words = omega arith in
    let word = get_or_read words (n / 64) c.index.result.now inside c.index.ensures 0 in
    subst (λ ms. (eqb (bit_and (c.index.result.now / 2 ^ (n % 64)) 1) 1 ≡ true) ↔ IsMarked ms n) c.self.view_is (tests_mark words n c.index.result.now word)
