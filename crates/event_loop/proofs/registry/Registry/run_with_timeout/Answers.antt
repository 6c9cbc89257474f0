use Rattle.std.proofs.lemmas.Int.{to_z-of_z}
use Rattle.event_loop.proofs.Positions.{waited_all_pending, batch_ok}
use Rattle.event_loop.proofs.registry.Registry.run_with_timeout.Goals as goal

pub dispatch-endpoint_ready-requires : goal.dispatch-endpoint_ready-requires
dispatch-endpoint_ready-requires g c =
    let waited = c.wait.ensures in
    waited_all_pending c.args.self.now.ops.epoll.registrations c.wait.new.self waited.0 c.wait.result c.in-Ok.count waited.2 c.in-Ok.is

pub returns-in-Ok : goal.returns-in-Ok
returns-in-Ok g c =
    let waited = c.wait.ensures in
    let fits = to_z-of_z _ _ c.ranges.ms in
    let led = rw fits at waited.1 in
    batch_ok g.S.MutEventSubscriber.serves g.P.EventPoller.controls g.P.EventPoller.waits c.args.self.now c.dispatch-endpoint_ready.new.self c.wait.new.self c.wait.new.poller c.args.ms waited.0 c.wait.result c.in-Ok.count c.dispatch-endpoint_ready.result led waited.2 c.in-Ok.is c.dispatch-endpoint_ready.ensures
