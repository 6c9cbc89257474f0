use Rattle.event_manager.proofs.Histories.{histories_join, trace_is_history}
use Rattle.event_manager.proofs.ProjectedHistory.{non_interference}
use Rattle.event_manager.proofs.TracesWithoutJobs.{traces_project}
use Rattle.event_manager.proofs.laws.non_interference.Goals as goal

pub returns : goal.returns
returns g c = record {
  traces = λ before trace after h. trace_is_history g.S.MutEventSubscriber.begins g.S.MutEventSubscriber.serves g.J.Job.may before trace after h;
  joined = λ before history between more after h k. histories_join g.S.MutEventSubscriber.begins g.S.MutEventSubscriber.serves before history between more after h k;
  without_jobs = λ before trace after h. traces_project g.S.MutEventSubscriber.begins g.S.MutEventSubscriber.serves g.J.Job.may before trace after h;
  projected = λ before history after h. non_interference g.S.MutEventSubscriber.begins g.S.MutEventSubscriber.serves before history after h;
}
