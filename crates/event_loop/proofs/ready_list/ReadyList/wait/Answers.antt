use Rattle.std.proofs.Common.{rules, ◌≡◌, refl, arith, sym, ap, subst, ◌∙◌, Ok, Err, take, map, length, ◌≤◌, vec_len}
use Rattle.std.proofs.lemmas.List.{with_items_is}
use Rattle.std.specs.Vec.{with_items}
use Rattle.std.proofs.lemmas.Int.{to_z-of_z}
use Rattle.dispatch_tables.specs.Ownership.{class_in}
use Rattle.dispatch_tables.specs.ClassOrder.{IsOrdered}
use Rattle.dispatch_tables.specs.Event.{event_of_entry}
use Rattle.event_loop.specs.ReadyList.{ready_of}
use Rattle.event_loop.proofs.Buffer.{ready_all_pending, length_events}
use Rattle.event_loop.proofs.ready_list.ReadyList.wait.Goals as goal

pub returns-in_err-count-clause-waited : goal.returns-in_err-count-clause-waited
returns-in_err-count-clause-waited g c =
    let fits = to_z-of_z _ _ c.ranges.ms in
    let answer = rw (fits, c.deref_mut.ensures.len) at c.in_err-count.ensures.answer in
    let is : c.from_residual.result ≡ Err c.in_err-count.field-0.0 = search rules in
    rw (← c.self.view_is) (Err c.in_err-count.field-0.0, (_, answer, tt, refl), (is, refl))

pub returns-clause-waited : goal.returns-clause-waited
returns-clause-waited g c =
    let fits = to_z-of_z _ _ c.ranges.ms in
    let answer = rw (fits, c.deref_mut.ensures.len) at c.in_ok-count.ensures.answer in
    let b = c.self.inside in
    let state = c.args.owners.now in
    let buffer = c.poll.new.buffer in
    let now = c.order.new.report in
    let n = c.in_ok-count.count in
    let below : n ≤ length buffer = omega (arith, c.poll.auto.buffer, c.in_ok-count.ensures.count_fits) in
    let whole : length buffer ≡ vec_len b.buffer = omega (arith, c.poll.auto.buffer, c.deref_mut.ensures.len) in
    let report = map event_of_entry (take n buffer) in
    let within : length report ≤ vec_len b.buffer = omega (arith, length_events buffer n below, below, whole) in
    let counted = ap Ok (sym (length_events buffer n below)) in
    let waited = c.deref_mut-2.ensures.value ∙ with_items_is b.buffer buffer whole in
    let ordered = subst (λ l. IsOrdered (λ fd. class_in state.owners fd) (map event_of_entry (take n l)) (map event_of_entry (take n now))) waited c.order.ensures.ordered in
    let items = with_items_is (with_items b.buffer buffer) now (omega (arith, c.order.auto.report, c.deref_mut-2.ensures.len)) in
    let came = ap (λ items. ready_of items c.clear.new.self.items 0 n) items ∙ ap (λ l. ready_of now l 0 n) c.clear.ensures.items ∙ ready_all_pending now n in
    rw (← c.self.view_is) (Ok report, (_, answer, within, refl), (map event_of_entry (take n now), ordered, counted, λ k. record { owners = state.owners; endpoint = state.endpoint; capacity = vec_len b.buffer; ready = came k }))
