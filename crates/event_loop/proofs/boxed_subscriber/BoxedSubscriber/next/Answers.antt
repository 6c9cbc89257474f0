use Rattle.std.proofs.Common.{◌≡◌, refl, subst}
use Rattle.event_loop.specs.StepExchanges.{LeavesFewer}
use Rattle.event_loop.proofs.boxed_subscriber.BoxedSubscriber.next.Goals as goal

pub returns-clause-stepped : goal.returns-clause-stepped
returns-clause-stepped g c =
    let i = c.deref_box_mut-1.result.now.0 in
    let w = c.next.new.self in
    subst (λ p. (x : (g.dyn-1.0.entry p.0).0.Denot) × ◌≡◌ {A = (j : g.dyn-1.0.I) × (g.dyn-1.0.entry j).0.Denot} (i, w) (p.0, x) × (g.dyn-1.0.entry p.0).1.requests p.1 c.args.input c.next.result x) c.deref_box_mut-1.ensures.value.1 (w, refl, c.next.ensures.0)

pub returns-clause-fewer : goal.returns-clause-fewer
returns-clause-fewer g c =
    let n = (g.dyn-1.0.entry c.deref_box_mut-1.result.now.0).1.requests_left c.next.new.self in
    subst (λ p. LeavesFewer c.args.input c.next.result ((g.dyn-1.0.entry p.0).1.requests_left p.1) n) c.deref_box_mut-1.ensures.value.1 c.next.ensures.1
