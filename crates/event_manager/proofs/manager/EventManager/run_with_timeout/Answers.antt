use Rattle.std.proofs.Common.{rules, ◌≡◌, Ok, Err}
use Rattle.std.proofs.lemmas.Int.{to_z-of_z}
use Rattle.event_loop.specs.Subscribers.{loop_state}
use Rattle.event_loop.proofs.WithoutJobs.{without_jobs}
use Rattle.event_manager.proofs.JobLemmas.{with_jobs}
use Rattle.event_manager.proofs.manager.EventManager.run_with_timeout.Goals as goal

pub returns-then-batch : goal.returns-then-batch
returns-then-batch g c =
    let old = c.args.self.now in
    let batch = rw (to_z-of_z _ _ c.ranges.ms) at c.in_ok-batch.ensures in
    with_jobs g.S.MutEventSubscriber.begins g.S.MutEventSubscriber.serves g.J.Job.may g.P.EventPoller.controls g.P.EventPoller.waits
    old.channel c.run_jobs.new.self (loop_state old.registry) (loop_state c.run_with_timeout.new.self) (loop_state c.run_jobs.new.registry) c.args.ms c.in_ok-batch.batch batch c.if-batch.true c.run_jobs.ensures.0 c.run_jobs.ensures.1

pub returns-else-batch : goal.returns-else-batch
returns-else-batch g c =
    let old = c.args.self.now in
    let batch = rw (to_z-of_z _ _ c.ranges.ms) at c.in_ok-batch.ensures in
    without_jobs g.S.MutEventSubscriber.begins g.S.MutEventSubscriber.serves g.J.Job.may g.P.EventPoller.controls g.P.EventPoller.waits
    old.channel (loop_state old.registry) (loop_state c.run_with_timeout.new.self) c.args.ms (Ok c.in_ok-batch.batch) batch

pub returns-in_err-batch : goal.returns-in_err-batch
returns-in_err-batch g c =
    let old = c.args.self.now in
    let batch = rw (to_z-of_z _ _ c.ranges.ms) at c.in_err-batch.ensures in
    let is : c.from_residual.result ≡ Err c.in_err-batch.field-0.0 = search rules in
    rw is (without_jobs g.S.MutEventSubscriber.begins g.S.MutEventSubscriber.serves g.J.Job.may g.P.EventPoller.controls g.P.EventPoller.waits
    old.channel (loop_state old.registry) (loop_state c.run_with_timeout.new.self) c.args.ms (Err c.in_err-batch.field-0.0) batch)
