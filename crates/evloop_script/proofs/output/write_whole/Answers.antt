use Rattle.std.proofs.Common.{ℕ, ◌+◌, ◌≤◌, length, drop, arith, length-drop}
use Rattle.std.proofs.lemmas.List.{take_rest}
use Rattle.std.proofs.KnownBytes.{Appends-kept}
use Rattle.evloop_script.proofs.Written.{one_more_write}
use Rattle.evloop_script.proofs.output.write_whole.Goals as goal
use Rattle.evloop_script.proofs.output.write_whole.Goals.{in-Ok, in-Err}

pub writes-preserved : goal.writes-preserved
writes-preserved g c =
    let bytes = c.args.bytes.now in
    let done = c.writes.done in
    elim c.match-write.branch [
      | in-Ok w ↦ record {
        within = omega (arith, rw take_rest at w.in-Ok.ensures.bound, length-drop done bytes);
        written = rw w.done-is (one_more_write _ _ _ bytes done _ c.writes.invariant.written (rw take_rest at w.in-Ok.ensures.bytes));
      }
      | in-Err w ↦ record {
        within = omega arith;
        written = rw w.done-is (Appends-kept _ _ _ _ c.writes.invariant.written w.in-Err.ensures.bytes);
      }
    ]
