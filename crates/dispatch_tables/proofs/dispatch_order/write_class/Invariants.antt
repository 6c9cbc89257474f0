use Rattle.std.proofs.Common.{◌≡◌, ◌+◌, ◌++◌, take, length}
use Rattle.dispatch_tables.specs.Priority.{number_of}
use Rattle.dispatch_tables.specs.Classes.{entries_of_class}
use Rattle.dispatch_tables.proofs.dispatch_order.write_class.Given as goal

abbrev pub invariant-loop-one : goal.invariant-loop-one
invariant-loop-one l = record {
  long : length l.buffer ≡ length l.initial.buffer;
  place : l.to ≡ l.from + length (entries_of_class (number_of l.class) (take l.one-index l.classed));
  written : take l.to l.buffer ≡ take l.from l.initial.buffer ++ entries_of_class (number_of l.class) (take l.one-index l.classed);
}
