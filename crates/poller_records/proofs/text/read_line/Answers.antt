use Rattle.std.proofs.Common.{◌==◌, map, sym, ap, ◌∙◌}
use Rattle.std.specs.List.{join_with_byte, slice_split}
use Rattle.std.proofs.lemmas.List.Splits.{join_with_byte-slice_split}
use Rattle.std.proofs.lemmas.Result.{IfOk-at_ok}
use Rattle.poller_records.proofs.Fields.{slice_split-line_of}
use Rattle.poller_records.proofs.text.read_line.Goals as goal

pub returns-in-Ok-clause-read : goal.returns-in-Ok-clause-read
returns-in-Ok-clause-read c =
    let fields = ap (map (λ field. field.now)) c.deref.ensures.value ∙ c.in_ok-fields.ensures in
    let read = IfOk-at_ok _ c.in-Ok.is c.entry.ensures.read in
    sym (join_with_byte-slice_split 32 c.args.line.now) ∙ ap (join_with_byte 32) (sym fields ∙ read)

pub returns-in-Ok-clause-written : goal.returns-in-Ok-clause-written
returns-in-Ok-clause-written c entry held is =
    let fields = ap (map (λ field. field.now)) c.deref.ensures.value ∙ c.in_ok-fields.ensures in
    let read = c.entry.ensures.written entry held (fields ∙ ap (slice_split (λ byte. byte == 32)) is ∙ slice_split-line_of entry held) in
    let found = c.in-Ok.is in
    cc

pub returns-clause-written : goal.returns-clause-written
returns-clause-written c entry held is =
    let fields = ap (map (λ field. field.now)) c.deref.ensures.value ∙ c.in_ok-fields.ensures in
    let read = c.entry.ensures.written entry held (fields ∙ ap (slice_split (λ byte. byte == 32)) is ∙ slice_split-line_of entry held) in
    let found = c.in-Err.is in
    cc
