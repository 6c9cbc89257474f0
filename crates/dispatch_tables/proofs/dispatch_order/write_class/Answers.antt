use Rattle.std.proofs.Common.{ap, sym, ◌∙◌, arith, eq-eqb, ne_eqb, length}
use Rattle.dispatch_tables.specs.Priority.{number_of}
use Rattle.dispatch_tables.proofs.ClassEntries.{other_is, one_longer, has_room, written}
use Rattle.dispatch_tables.proofs.dispatch_order.write_class.Goals.{then-number, else-number}
use Rattle.dispatch_tables.proofs.dispatch_order.write_class.Goals as goal

pub bounds-buffer-to : goal.bounds-buffer-to
bounds-buffer-to c =
    let inv = c.loop-one.invariant in
    let is = eq-eqb _ _ (sym c.number.ensures.value ∙ c.if-number.true ∙ c.number-in-loop-one.ensures.value) in
    let room = has_room (λ one. number_of one.class) (λ one. one.entry) (number_of c.args.class) c.args.classed.now c.loop-one.one-index _ c.loop-one-test.true is in
    omega (arith, c.requires, inv.long, inv.place, room)

pub loop-one-preserved : goal.loop-one-preserved
loop-one-preserved c = elim c.if-number.branch [
  | then-number w ↦
      let inv = c.loop-one.invariant in
      let at = c.loop-one.one-index in
      let n = number_of c.args.class in
      let is = eq-eqb _ _ (sym c.number.ensures.value ∙ w.if-number.true ∙ c.number-in-loop-one.ensures.value) in
      let room = has_room (λ one. number_of one.class) (λ one. one.entry) n c.args.classed.now at _ c.loop-one-test.true is in
      let longer = one_longer (λ one. number_of one.class) (λ one. one.entry) n c.args.classed.now at _ c.loop-one-test.true is in
      rw (w.to-is, w.buffer-is) record {
        long = ap length (sym w.buffer-is) ∙ c.if-number.auto.buffer ∙ inv.long;
        place = omega (arith, inv.place, longer);
        written = written (λ one. number_of one.class) (λ one. one.entry) n c.args.classed.now at _ c.loop-one-test.true is c.args.buffer.now c.loop-one.buffer c.args.from c.loop-one.to (omega (arith, c.requires, inv.long, inv.place, room)) inv.written;
      }
  | else-number w ↦
      let inv = c.loop-one.invariant in
      let differ = ne_eqb _ _ (λ e. w.if-number.false (c.number.ensures.value ∙ e ∙ sym c.number-in-loop-one.ensures.value)) in
      let same = other_is (λ one. number_of one.class) (λ one. one.entry) (number_of c.args.class) c.args.classed.now c.loop-one.one-index _ c.loop-one-test.true differ in
      rw (w.to-is, w.buffer-is, same) inv
]
