use Rattle.recorded_runs.proofs.SameTrace.{replay_is_the_run}
use Rattle.recorded_runs.proofs.laws.a_replay_is_the_run.Goals as goal

pub returns : goal.returns
returns g c = λ capacity before trace replay after replayed functions.
    replay_is_the_run g.S.MutEventSubscriber.begins g.S.MutEventSubscriber.serves g.J.Job.may functions capacity before trace replay after replayed
