use Rattle.std.proofs.Common.{◌≡◌, ◌+◌, ◌++◌, map, take, vec_len, vec_capacity}
use Rattle.poller_records.specs.declared.record.RecordEntry.TheVariants.{Reported}
use Rattle.poller_records.proofs.recording_poller.push_call.Given as goal

abbrev pub invariant-loop-event : goal.invariant-loop-event
invariant-loop-event l = record {
  items : l.entries.items ≡ l.initial.entries.items ++ map Reported (take l.event-index l.report);
  len : vec_len l.entries ≡ vec_len l.initial.entries + l.event-index;
  room : vec_capacity l.entries ≡ vec_capacity l.initial.entries;
}
