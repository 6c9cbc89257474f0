use Rattle.std.proofs.Common.{length, map}
use Rattle.event_loop.proofs.Positions.{DispatchedSoFar}
use Rattle.event_loop.proofs.registry.Registry.dispatch.Given as goal

abbrev pub invariant-loop-is_endpoint : goal.invariant-loop-is_endpoint
invariant-loop-is_endpoint g l = DispatchedSoFar g.S.MutEventSubscriber.serves g.P.EventPoller.controls g.P.EventPoller.waits l.initial.self l.self (map (λ p. p.0) l.initial.self.ops.epoll.registrations.ready) l.endpoint_ready

abbrev pub decreases-loop-is_endpoint : goal.decreases-loop-is_endpoint
decreases-loop-is_endpoint g l = length l.self.ops.epoll.registrations.ready
