use Rattle.std.proofs.Common.{◌≤◌, length, take}
use Rattle.std.specs.Io.KnownBytes.{Appends}
use Rattle.evloop_script.proofs.output.write_whole.Given as goal

abbrev pub invariant-writes : goal.invariant-writes
invariant-writes g l = record {
  within : l.done ≤ length l.bytes;
  written : Appends (g.O.Write.contents l.fn.out) (g.O.Write.contents l.out) (take l.done l.bytes);
}
