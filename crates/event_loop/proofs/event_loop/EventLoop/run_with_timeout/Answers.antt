use Rattle.std.proofs.Common.{rules, ◌≡◌, Ok, Err}
use Rattle.std.proofs.lemmas.Int.{to_z-of_z}
use Rattle.event_loop.specs.LoopState.{no_job}
use Rattle.event_loop.specs.Subscribers.{loop_state}
use Rattle.event_loop.proofs.WithoutJobs.{without_jobs}
use Rattle.event_loop.proofs.event_loop.EventLoop.run_with_timeout.Goals as goal

pub returns : goal.returns
returns g c =
    let batch = rw (to_z-of_z _ _ c.ranges.ms) at c.in_ok-batch.ensures in
    without_jobs g.S.MutEventSubscriber.begins g.S.MutEventSubscriber.serves no_job g.P.EventPoller.controls g.P.EventPoller.waits
    0 (loop_state c.args.self.now.registry) (loop_state c.run_with_timeout.new.self) c.args.ms (Ok c.in_ok-batch.batch) batch

pub returns-in_err-batch : goal.returns-in_err-batch
returns-in_err-batch g c =
    let batch = rw (to_z-of_z _ _ c.ranges.ms) at c.in_err-batch.ensures in
    let is : c.from_residual.result ≡ Err c.in_err-batch.field-0.0 = search rules in
    rw is (without_jobs g.S.MutEventSubscriber.begins g.S.MutEventSubscriber.serves no_job g.P.EventPoller.controls g.P.EventPoller.waits
    0 (loop_state c.args.self.now.registry) (loop_state c.run_with_timeout.new.self) c.args.ms (Err c.in_err-batch.field-0.0) batch)
