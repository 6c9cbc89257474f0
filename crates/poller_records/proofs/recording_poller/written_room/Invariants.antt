use Rattle.std.specs.Prelude.{◌≡◌, vec_len, vec_capacity}
use Rattle.poller_records.proofs.recording_poller.written_room.Given as goal

abbrev pub invariant-loop-entry : goal.invariant-loop-entry
invariant-loop-entry l = (vec_len l.entries ≡ l._entry) × (vec_capacity l.entries ≡ l.most)
