use Rattle.std.proofs.Common.{◌≡◌, ◌≤◌, false, take, map, length, vec_capacity}
use Rattle.dispatch_tables.specs.Classes.{numbered, classed_by, AreAllLowest}
use Rattle.dispatch_tables.proofs.dispatch_order.classify.Given as goal

abbrev pub invariant-loop-at : goal.invariant-loop-at
invariant-loop-at l = record {
  classed : map numbered l.classed.items ≡ map (classed_by l.owners) (take l.at l.buffer);
  lowest : l.raised ≡ false → AreAllLowest l.classed.items;
  capacity : vec_capacity l.initial.classed ≤ vec_capacity l.classed;
  long : length l.classed.items ≡ l.at;
}
