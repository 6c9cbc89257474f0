use Rattle.std.proofs.Common.{◌≡◌, take, string_bytes}
use Rattle.poller_records.specs.Lines.{text_of}
use Rattle.poller_records.proofs.text.write_record.Given as goal

abbrev pub invariant-loop-entry : goal.invariant-loop-entry
invariant-loop-entry l = string_bytes l.text ≡ text_of (take l.entry-index l.entries)
