use Rattle.std.proofs.Common.{refl, ◌∙◌}
use Rattle.event_loop.proofs.Releasing.{deleted_none, deleted_more, released}
use Rattle.event_loop.proofs.epoll.EpollWrapper.release.Goals as goal

pub loop-fd-init : goal.loop-fd-init
loop-fd-init g c = record { so_far = deleted_none g.P.EventPoller.controls g.P.EventPoller.waits c.deref-fd-items.result.now c.args.self.now.poller; same = refl }

pub loop-fd-preserved : goal.loop-fd-preserved
loop-fd-preserved g c =
    let asked = rw c.empty_raw-event.ensures at c.control.ensures in
    let more = deleted_more g.P.EventPoller.controls g.P.EventPoller.waits c.deref-fd-items.result.now c.loop-fd.fd-index c.args.self.now.poller c.loop-fd.self.poller c.control.new.self c.control.result c.loop-fd-test.true asked c.loop-fd.invariant.so_far in
    record { so_far = more; same = c.loop-fd.invariant.same }

pub returns : goal.returns
returns g c =
    let fds = c.deref-fd-items.result.now in
    let owned = rw (← c.deref-fd-items.ensures.value) at c.take_watched-fds.ensures.owned in
    released g.P.EventPoller.controls g.P.EventPoller.waits fds c.args.id c.loop-fd.fd-index c.args.self.now (record { registrations = c.take_watched-fds.new.self; poller = c.args.self.now.poller }) (record { registrations = c.keep_room.new.self; poller = c.loop-fd.self.poller }) owned c.take_watched-fds.ensures.freed (c.keep_room.ensures ∙ c.loop-fd.invariant.same) c.loop-fd-test.false c.loop-fd.invariant.so_far
