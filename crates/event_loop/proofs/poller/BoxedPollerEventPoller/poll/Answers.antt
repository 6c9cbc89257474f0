use Rattle.std.proofs.Common.{subst, length}
use Rattle.std.proofs.lemmas.Int.{to_z-of_z}
use Rattle.vmm_sys.specs.Poller.{reported}
use Rattle.event_loop.proofs.Buffer.{waits_by}
use Rattle.event_loop.proofs.poller.BoxedPollerEventPoller.poll.Goals as goal

pub returns-clause-answer : goal.returns-clause-answer
returns-clause-answer g c =
    let fits = to_z-of_z _ _ c.ranges.ms in
    let h = rw fits at c.wait.ensures.1 in
    let t = (g.dyn-1.0.entry c.deref_box_mut-1.result.now.0).1.meaning c.wait.new.self in
    let i = c.args.self.now.0.vtable in
    let may = subst (λ p. (g.dyn-1.0.entry p.0).1.may_wait ((g.dyn-1.0.entry p.0).1.meaning p.1) c.args.ms (length c.args.buffer.now) c.wait.result (reported c.wait.result c.wait.new.buffer) t) c.deref_box_mut-1.ensures.value.1 h in
    (c.deref_box_mut-1.ensures.value.0, waits_by (g.dyn-1.0.entry i).1 _ t c.args.ms (length c.args.buffer.now) c.wait.new.buffer c.wait.result (rw c.wait.auto.buffer c.wait.ensures.0) may)
