use Rattle.std.proofs.Common.{subst}
use Rattle.recorder.specs.Recorded.{RanOver}
use Rattle.recorder.proofs.SameRun.{same_text}
use Rattle.recorder.proofs.recorded.run_twice.Goals as goal

pub returns-clause-same : goal.returns-clause-same
returns-clause-same g c complete =
    c.in_ok-replayed.ensures.tells c.in_ok-recorded.recorded.told
    (same_text _ _ c.args.devices.now c.in_ok-recorded.recorded.told _ c.deref.result.now _ c.deref.ensures complete c.in_ok-recorded.ensures)

pub returns-clause-replayed : goal.returns-clause-replayed
returns-clause-replayed g c =
    subst (λ text. RanOver _ _ c.args.devices.now text c.in_ok-replayed.replayed) c.deref.ensures c.in_ok-replayed.ensures.runs
