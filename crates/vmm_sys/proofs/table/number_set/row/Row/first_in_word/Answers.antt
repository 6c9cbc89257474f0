use Rattle.vmm_sys.proofs.Prelude.{◌+◌, ◌*◌, ◌<◌, ◌≤◌, ◌^◌, ◌∙◌, w64, length, get_or, ap, subst, sym, arith, IsEmptyWord, IsFirstFrom}
use Rattle.std.specs.Int.{trailing_zeros}
use Rattle.vmm_sys.proofs.Rows.{empty_from_zero, empty_past, first_of_word}
use Rattle.vmm_sys.proofs.table.number_set.row.Row.first_in_word.Goals as goal

pub returns-in_err-marks : goal.returns-in_err-marks
returns-in_err-marks c =
    let words = c.self.inside.words.items in
    let value = ap length c.deref.ensures.value in
    let past = c.in_err-marks.ensures.lookup.3 in
    let beyond : length words ≤ c.args.word = omega arith in
    rw c.from_residual.ensures (subst (λ ms. IsEmptyWord ms c.args.word) c.self.view_is (empty_past words c.args.word beyond))

pub returns-then-marks-eq0 : goal.returns-then-marks-eq0
returns-then-marks-eq0 c =
    let words = c.self.inside.words.items in
    let w = c.args.word in
    let word = c.in_ok-marks.ensures.lookup.3.1 0 ∙ ap (λ ws. get_or ws w 0) c.deref.ensures.value in
    subst (λ ms. IsEmptyWord ms w) c.self.view_is (empty_from_zero words w (sym word ∙ c.if-marks-eq0.true))

pub returns : goal.returns
returns c =
    let words = c.self.inside.words.items in
    let w = c.args.word in
    let marks = c.in_ok-marks.field-0.now in
    let word = c.in_ok-marks.ensures.lookup.3.1 0 ∙ ap (λ ws. get_or ws w 0) c.deref.ensures.value in
    let fits : marks < 2 ^ 64 = omega arith in
    subst (λ ms. IsFirstFrom ms (w * 64) (w * 64 + trailing_zeros w64 marks)) c.self.view_is (first_of_word words w marks fits word c.if-marks-eq0.false)
