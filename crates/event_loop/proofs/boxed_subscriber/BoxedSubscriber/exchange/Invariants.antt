use Rattle.event_loop.specs.StepExchanges.{at_most_left}
use Rattle.event_loop.proofs.StepExchangeLemmas.{ExchangedSoFar}
use Rattle.event_loop.proofs.boxed_subscriber.BoxedSubscriber.exchange.Given as goal

abbrev pub invariant-loop-wanted : goal.invariant-loop-wanted
invariant-loop-wanted g l = ExchangedSoFar (λ i. (g.dyn-1.0.entry i).1) g.P.EventPoller.controls g.P.EventPoller.waits l.fn.start l.fn.self.0 l.self.0 l.fn.ops l.ops l.wanted

abbrev pub decreases-loop-wanted : goal.decreases-loop-wanted
decreases-loop-wanted g l = at_most_left l.wanted ((g.dyn-1.0.entry l.self.0.vtable).1.requests_left l.self.0.value)
