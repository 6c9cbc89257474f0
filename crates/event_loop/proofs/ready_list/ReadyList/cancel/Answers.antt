use Rattle.std.proofs.Common.{vec_len, vec_capacity, ◌-◌}
use Rattle.event_loop.proofs.Buffer.{ready_cancelled}
use Rattle.event_loop.proofs.ready_list.ReadyList.cancel.Goals as goal

pub returns-then-self-clause-cancelled : goal.returns-then-self-clause-cancelled
returns-then-self-clause-cancelled c =
    let b = c.self.inside in
    let list = c.enter.new.list in
    let entered = rw (c.number.ensures.value) at c.enter.ensures.entered in
    let marked = ready_cancelled b.buffer.items b.cancelled.items list.items c.args.events.fd b.at b.count entered in
    rw (← c.self.view_is) (λ k. record { capacity = vec_len b.buffer; ready = marked k; room = vec_capacity list - vec_len list })
