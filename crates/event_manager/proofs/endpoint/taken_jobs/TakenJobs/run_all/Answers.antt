use Rattle.std.proofs.Common.{arith, ◌≡◌, [], ◌∷◌, reverse, ap, subst, ◌∙◌}
use Rattle.std.proofs.lemmas.List.{nil_from_length, reverse-reverse, reverse-append}
use Rattle.event_manager.specs.JobQueue.{TicketsFollow, tickets_and_jobs}
use Rattle.event_manager.specs.JobRuns.{JobsAreRun, Taken}
use Rattle.event_loop.specs.Subscribers.{loop_state}
use Rattle.event_manager.proofs.JobLemmas.{no_job_ran, first_job_ran}
use Rattle.event_manager.proofs.endpoint.taken_jobs.TakenJobs.run_all.Goals as goal

pub loop-entry-preserved : goal.loop-entry-preserved
loop-entry-preserved g c =
    let left = ap reverse c.in-Some.ensures.items ∙ reverse-append c.pop.new.self.items (c.in-Some.entry ∷ []) in
    let ran = c.loop-entry.self-inside.ran in
    let follow = subst (TicketsFollow ran) left c.loop-entry.invariant.1 in (
      omega (arith, c.loop-entry.invariant.0, c.in-Some.ensures.len),
      follow.1,
      λ after m rest. c.loop-entry.invariant.2 after m (rw left (first_job_ran g.S.MutEventSubscriber.begins g.S.MutEventSubscriber.serves g.J.Job.may g.P.EventPoller.controls g.P.EventPoller.waits
          ran m (loop_state c.loop-entry.registry) (loop_state c.run.new.registry) after c.in-Some.entry.ticket c.in-Some.entry.job (tickets_and_jobs (reverse c.pop.new.self.items)) follow.0 c.run.ensures rest)),
    )

pub returns-clause-ran : goal.returns-clause-ran
returns-clause-ran g c =
    let none : c.loop-entry.self-inside.entries.items ≡ [] = nil_from_length c.loop-entry.self-inside.entries.items (omega (arith, c.in_default.ensures.cases)) in
    let before = loop_state c.args.registry.now in
    let registry = loop_state c.loop-entry.registry in
    let n = c.loop-entry.self-inside.ran in
    let all = c.loop-entry.invariant.2 registry n (rw none (no_job_ran g.S.MutEventSubscriber.begins g.S.MutEventSubscriber.serves g.J.Job.may g.P.EventPoller.controls g.P.EventPoller.waits n registry)) in
    subst (λ (t : Taken _). JobsAreRun g.S.MutEventSubscriber.begins g.S.MutEventSubscriber.serves g.J.Job.may g.P.EventPoller.controls g.P.EventPoller.waits before t.ran (tickets_and_jobs t.entries) registry n) c.self.view_is (rw (c.reverse.ensures.items, reverse-reverse) at all)
