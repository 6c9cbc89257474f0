use Rattle.std.proofs.Common.{sym}
use Rattle.std.proofs.lemmas.List.{take_all}
use Rattle.std.proofs.lemmas.List.Elements.{All-more, All-same}
use Rattle.poller_records.specs.Held.{IsEntry}
use Rattle.poller_records.proofs.laws.entries_are_held.Goals as goal

pub loop-entry-preserved : goal.loop-entry-preserved
loop-entry-preserved c =
    All-more IsEntry c.args.entries.now c.loop-entry.entry-index _ c.loop-entry-test.true c.loop-entry.invariant c.entry_is_held.ensures

pub returns : goal.returns
returns c = All-same IsEntry c.args.entries.now _ (sym (take_all c.loop-entry.entry-index c.args.entries.now c.loop-entry-test.false)) c.loop-entry.invariant
