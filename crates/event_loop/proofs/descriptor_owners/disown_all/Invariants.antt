use Rattle.std.proofs.Common.{◌≤◌, take}
use Rattle.dispatch_tables.specs.Owners.{AreCounted}
use Rattle.event_loop.specs.Releasing.{AreWithout}
use Rattle.event_loop.proofs.descriptor_owners.disown_all.Given as goal

abbrev pub invariant-loop-fd : goal.invariant-loop-fd
invariant-loop-fd l = record {
  disowned : AreWithout (take l.fd-index l.fds) l.initial.owners l.owners;
  counted : AreCounted l.owners l.owned l.raised;
  fewer : l.owned ≤ l.initial.owned;
}
