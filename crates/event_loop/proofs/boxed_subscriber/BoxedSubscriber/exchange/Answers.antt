use Rattle.event_loop.proofs.StepExchangeLemmas.{so_far_start, so_far_more}
use Rattle.event_loop.proofs.boxed_subscriber.BoxedSubscriber.exchange.Goals as goal

pub loop-wanted-init : goal.loop-wanted-init
loop-wanted-init g c =
    so_far_start (λ i. (g.dyn-1.0.entry i).1) g.P.EventPoller.controls g.P.EventPoller.waits c.args.start c.args.self.now.0 c.next-wanted.new.self.0 c.args.ops.now c.next-wanted.result c.next-wanted.ensures.stepped

pub loop-wanted-preserved : goal.loop-wanted-preserved
loop-wanted-preserved g c =
    let so_far = rw c.in-Some.is at c.loop-wanted.invariant in
    so_far_more (λ i. (g.dyn-1.0.entry i).1) g.P.EventPoller.controls g.P.EventPoller.waits c.args.start c.args.self.now.0 c.loop-wanted.self.0 c.next-wanted-in-Some.new.self.0 c.args.ops.now c.loop-wanted.ops c.request-answer.new.self c.in-Some.request c.request-answer.result c.next-wanted-in-Some.result c.request-answer.ensures.0 so_far c.request-answer.ensures.1 c.next-wanted-in-Some.ensures.stepped
