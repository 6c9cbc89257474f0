use Rattle.std.proofs.Common.{lit<, Ok}
use Rattle.std.proofs.lemmas.Str.Pattern.{strip_prefix_char}
use Rattle.std.proofs.lemmas.Option.{MatchOption-at_some, MatchOption-at_none}
use Rattle.poller_records.proofs.Decimals.{behind_minus, without_minus}
use Rattle.poller_records.proofs.numbers.integer.Goals as goal

pub returns-in-Some-clause-written : goal.returns-in-Some-clause-written
returns-in-Some-clause-written c =
    let cut = strip_prefix_char 45 c.args.field.now c.strip_prefix.result c.strip_prefix.ensures.cases (lit< tt) in
    behind_minus c.args.field.now c.in-Some.digits.now c.negative.result Ok
    (MatchOption-at_some _ _ c.in-Some.digits c.in-Some.is cut) c.negative.ensures.written

pub returns-in-None-clause-written : goal.returns-in-None-clause-written
returns-in-None-clause-written c =
    let cut = strip_prefix_char 45 c.args.field.now c.strip_prefix.result c.strip_prefix.ensures.cases (lit< tt) in
    without_minus c.args.field.now c.nonnegative.result Ok (MatchOption-at_none _ _ c.in-None.is cut) c.nonnegative.ensures.written
