use Rattle.std.proofs.Common.{take}
use Rattle.std.specs.List.{All}
use Rattle.poller_records.specs.Held.{IsEntry}
use Rattle.poller_records.proofs.laws.entries_are_held.Given as goal

abbrev pub invariant-loop-entry : goal.invariant-loop-entry
invariant-loop-entry l = All IsEntry (take l.entry-index l.entries)
