use Rattle.std.proofs.Common.{◌∙◌, refl, ap, length, false, zero-add}
use Rattle.poller_records.specs.Replay.{start_of, replay_code}
use Rattle.poller_records.specs.PollerRun.{entries_of_calls}
use Rattle.poller_records.proofs.Reruns.{recorded-run, replayed-run}
use Rattle.poller_records.proofs.replay_poller.recorded_runs_replay.Goals as goal

pub returns-clause-recorded : goal.returns-clause-recorded
returns-clause-recorded g c before after calls full run =
    let kept = recorded-run g.P.Poller.may_ctl g.P.Poller.may_wait calls before after full run in
    (kept.1, kept.2)

pub returns-clause-replayed : goal.returns-clause-replayed
returns-clause-replayed g c before after calls others later left run asked rerun =
    let same = replayed-run g.P.Poller.may_ctl g.P.Poller.may_wait later calls others before after (start_of _) left run asked refl refl rerun in
    (same.0, same.1 ∙ ap (λ n. replay_code.code (record { passed = n; ahead = later; diverged = false })) (zero-add (length (entries_of_calls calls))))
