use Rattle.std.proofs.Common.{refl, ◌∙◌}
use Rattle.std.proofs.lemmas.Int.{to_z-of_z}
use mir.Syntax.{w32}
use Rattle.poller_records.proofs.ReplayLemmas.{refused-found, report-found, report-missing}
use Rattle.poller_records.proofs.replay_poller.recorded_wait.Goals as goal

pub returns-in_default-answer-clause-found : goal.returns-in_default-answer-clause-found
returns-in_default-answer-clause-found c =
    let ms = c.if-not-is_number.ensures.0 refl ∙ to_z-of_z w32 c.args.ms c.ranges.ms in
    refused-found c.in-Some-Wait-default.ensures.cases.0 c.in-Some-Wait-default.field-0-0-is ms c.if-room-buffer.false c.args.buffer.now c.in_default-answer.is

pub returns-then-not-are_reported-clause-missing :
    goal.returns-then-not-are_reported-clause-missing
returns-then-not-are_reported-clause-missing c =
    let ms = c.if-not-is_number.ensures.0 refl ∙ to_z-of_z w32 c.args.ms c.ranges.ms in
    report-missing c.in-Some-Wait-default.ensures.cases.0 c.in-Some-Wait-default.field-0-0-is ms c.if-room-buffer.false c.in-Ok.is
    c.if-not-are_reported.ensures

pub returns-clause-found : goal.returns-clause-found
returns-clause-found c =
    let ms = c.if-not-is_number.ensures.0 refl ∙ to_z-of_z w32 c.args.ms c.ranges.ms in
    report-found c.in-Some-Wait-default.ensures.cases.0 c.in-Some-Wait-default.field-0-0-is ms c.if-room-buffer.false c.copy_report.new.places _
    c.in-Ok.is c.if-count-buffer.false c.if-count-behind.false c.copy_report.ensures
