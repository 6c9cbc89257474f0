use Rattle.std.proofs.Common.{sym, subst, map}
use Rattle.event_loop.specs.Subscribers.{IsDispatched}
use Rattle.event_loop.proofs.Positions.{so_far_position, so_far_end}
use Rattle.event_loop.proofs.registry.Registry.dispatch.Goals as goal

pub loop-is_endpoint-preserved : goal.loop-is_endpoint-preserved
loop-is_endpoint-preserved g c =
    so_far_position g.S.MutEventSubscriber.serves g.P.EventPoller.controls g.P.EventPoller.waits c.args.self.now c.loop-is_endpoint.self c.dispatch_next.new.self _ c.loop-is_endpoint.endpoint_ready c.in-Some.is_endpoint c.loop-is_endpoint.invariant c.in-Some.ensures

pub returns : goal.returns
returns g c =
    let over = c.in_default.ensures in
    let entry = so_far_end g.S.MutEventSubscriber.serves g.P.EventPoller.controls g.P.EventPoller.waits c.args.self.now c.loop-is_endpoint.self _ c.loop-is_endpoint.endpoint_ready c.loop-is_endpoint.invariant over.1 in
    subst (λ r. IsDispatched g.S.MutEventSubscriber.serves g.P.EventPoller.controls g.P.EventPoller.waits c.args.self.now r (map (λ p. p.0) c.args.self.now.ops.epoll.registrations.ready) c.loop-is_endpoint.endpoint_ready) (sym over.0) entry
