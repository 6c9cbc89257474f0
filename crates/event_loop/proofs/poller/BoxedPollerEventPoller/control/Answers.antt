use Rattle.std.proofs.Common.{subst, pos}
use Rattle.std.proofs.lemmas.Int.{to_z_pos}
use mir.Syntax.{w32}
use Rattle.event_loop.specs.PollerRelations.{entry_of_event}
use Rattle.event_loop.proofs.poller.BoxedPollerEventPoller.control.Goals as goal

pub returns : goal.returns
returns g c =
    let h = rw (to_z_pos w32 c.args.fd c.requires, c.epoll_event.ensures) at c.ctl.ensures in
    let t = (g.dyn-1.0.entry c.deref_box_mut-1.result.now.0).1.meaning c.ctl.new.self in
    (c.deref_box_mut-1.ensures.value.0, subst (λ p. (g.dyn-1.0.entry p.0).1.may_ctl ((g.dyn-1.0.entry p.0).1.meaning p.1) c.args.op (pos c.args.fd) (entry_of_event c.args.event) c.ctl.result t) c.deref_box_mut-1.ensures.value.1 h)
