use Rattle.vmm_sys.proofs.Prelude.{◌+◌, ◌<◌, ◌≤◌, ◌/◌, ◌%◌, ◌^◌, ◌∙◌, w64, length, get_or, refl, ap, subst, arith, IsFirstFrom, NoneInWordFrom}
use Rattle.std.specs.Int.{trailing_zeros}
use Rattle.vmm_sys.proofs.Rows.{none_in_word, first_in_word, none_past}
use Rattle.vmm_sys.proofs.table.number_set.row.Row.first_in_word_from.Goals as goal

pub returns-in_err-word : goal.returns-in_err-word
returns-in_err-word c =
    let words = c.self.inside.words.items in
    let value = ap length c.deref.ensures.value in
    let past = c.in_err-word.ensures.lookup.3 in
    let beyond : length words ≤ c.args.number / 64 = omega arith in
    rw c.from_residual.ensures (subst (λ ms. NoneInWordFrom ms c.args.number) c.self.view_is (none_past words c.args.number beyond))

pub returns-then-rest-eq0 : goal.returns-then-rest-eq0
returns-then-rest-eq0 c =
    let words = c.self.inside.words.items in
    let n = c.args.number in
    let word = c.in_ok-word.ensures.lookup.3.1 0 ∙ ap (λ ws. get_or ws (n / 64) 0) c.deref.ensures.value in
    subst (λ ms. NoneInWordFrom ms n) c.self.view_is (none_in_word words n c.in_ok-word.field-0.now word c.if-rest-eq0.true)

pub returns : goal.returns
returns c =
    let words = c.self.inside.words.items in
    let n = c.args.number in
    let marks = c.in_ok-word.field-0.now in
    let word = c.in_ok-word.ensures.lookup.3.1 0 ∙ ap (λ ws. get_or ws (n / 64) 0) c.deref.ensures.value in
    let fits : marks < 2 ^ 64 = omega arith in
    subst (λ ms. IsFirstFrom ms n (n + trailing_zeros w64 (marks / 2 ^ (n % 64)))) c.self.view_is
    (first_in_word words n marks (trailing_zeros w64 (marks / 2 ^ (n % 64))) fits word c.if-rest-eq0.false refl)
