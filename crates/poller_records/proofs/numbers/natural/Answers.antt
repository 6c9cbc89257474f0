use Rattle.std.proofs.Common.{arith, lit<, ◌≡◌, ◌≤◌, get_or, length, ap, sym, ◌∙◌, inl, inr, true≢false}
use Rattle.std.specs.Fmt.{decimal}
use Rattle.std.proofs.lemmas.Str.Pattern.{starts_char}
use Rattle.std.proofs.lemmas.Fmt.{parse-decimal}
use Rattle.std.proofs.lemmas.Result.{IfOk-at_ok}
use Rattle.poller_records.proofs.Decimals.{no_plus, length-decimal_zero, decimal_from_parse}
use Rattle.poller_records.proofs.numbers.natural.Goals as goal

pub returns-then-starts_with-clause-written : goal.returns-then-starts_with-clause-written
returns-then-starts_with-clause-written c number small is =
    let plus = starts_char 43 c.args.field.now _ c.starts_with.ensures.cases (lit< tt) (lit< tt) in
    absurd (no_plus c.args.field.now number small is (plus.0 c.if-starts_with.true))

pub returns-then-field-gt1-clause-written : goal.returns-then-field-gt1-clause-written
returns-then-field-gt1-clause-written c number small is =
    let zero = starts_char 48 c.args.field.now _ c.starts_with-2.ensures.cases (lit< tt) (lit< tt) in
    let short = length-decimal_zero number small (ap (λ bs. get_or bs 0 0) (sym is) ∙ zero.0 c.if-starts_with-2.true) in
    absurd (omega (arith, short, ap length is, c.if-field-gt1.true))

pub returns-in-Ok-clause-read : goal.returns-in-Ok-clause-read
returns-in-Ok-clause-read c =
    let plus = starts_char 43 c.args.field.now _ c.starts_with.ensures.cases (lit< tt) (lit< tt) in
    let zero = starts_char 48 c.args.field.now _ c.starts_with-2.ensures.cases (lit< tt) (lit< tt) in
    let no_zero : get_or c.args.field.now 0 0 ≡ 48 → length c.args.field.now ≤ 1 =
    λ is_zero. elim c.else-starts_with-2.either [ inl short ↦ short.1 | inr not ↦ absurd (true≢false (sym (zero.1 is_zero) ∙ not)) ] in
    IfOk-at_ok (λ n. c.args.field.now ≡ decimal n) c.in-Ok.is
    (decimal_from_parse c.args.field.now _ c.parse.ensures.value.0 (λ is_plus. true≢false (sym (plus.1 is_plus) ∙ c.if-starts_with.false)) no_zero)

pub returns-in-Ok-clause-written : goal.returns-in-Ok-clause-written
returns-in-Ok-clause-written c number small is =
    let read = sym c.in-Ok.is ∙ parse-decimal 64 number c.args.field.now _ small small is c.parse.ensures.value.0 in
    cc

pub returns-in-Err-clause-written : goal.returns-in-Err-clause-written
returns-in-Err-clause-written c number small is =
    let read = parse-decimal 64 number c.args.field.now _ small small is c.parse.ensures.value.0 in
    let not = c.in-Err.is in
    cc
