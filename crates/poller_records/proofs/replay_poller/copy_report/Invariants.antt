use Rattle.std.proofs.Common.{◌≡◌, map, take}
use Rattle.poller_records.specs.declared.record.RecordEntry.TheVariants.{Reported}
use Rattle.poller_records.proofs.replay_poller.copy_report.Given as goal

abbrev pub invariant-loop-at : goal.invariant-loop-at
invariant-loop-at l = take l.at l.report ≡ map Reported (take l.at l.places)
