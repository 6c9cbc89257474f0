use Rattle.std.proofs.Common.{refl, arith, ap, sym, ◌∙◌, ◌∷◌, ◌+◌, ◌==◌}
use Rattle.dispatch_tables.specs.Event.{event_of_entry}
use Rattle.event_loop.specs.ReadyList.{ready_of}
use Rattle.event_loop.proofs.Buffer.{ready_more}
use Rattle.event_loop.proofs.ready_list.ReadyList.next_ready.Goals as goal

pub returns-else-self-2-clause-taken : goal.returns-else-self-2-clause-taken
returns-else-self-2-clause-taken c =
    let b = c.self.inside in
    let inv = c.self.invariant in
    let e = c.index.result.now in
    let more = ready_more b.buffer.items b.cancelled.items b.at b.count e c.if-self.true (omega (arith, inv.1, b.buffer.ok.0)) c.index.ensures in
    let answer = rw (c.low_half-fd.ensures, c.deref.ensures.value) at c.cancelled_at.ensures.answer in
    rw (← c.self.view_is) (_, more ∙ ap (λ m. (event_of_entry e, m) ∷ ready_of b.buffer.items b.cancelled.items (b.at + 1) b.count) (sym answer), refl, ap (λ fd. fd == c.args.endpoint) c.low_half-fd.ensures)
