use Rattle.std.proofs.Common.{◌≡◌, ◌++◌, sym, ap, ◌∙◌, arith, length, take, append_assoc}
use Rattle.dispatch_tables.specs.Classes.{entries_of_class}
use Rattle.dispatch_tables.proofs.ClassEntries.{all_classes}
use Rattle.dispatch_tables.proofs.dispatch_order.write_classes.Goals as goal

pub write_class-at-requires : goal.write_class-at-requires
write_class-at-requires c = omega (arith, c.requires, all_classes c.args.classed.now)

pub write_class-at-requires-2 : goal.write_class-at-requires-2
write_class-at-requires-2 c = omega (arith, c.requires, all_classes c.args.classed.now, c.write_class-at.ensures.place, c.write_class-at.auto.buffer)

pub write_class-at-requires-3 : goal.write_class-at-requires-3
write_class-at-requires-3 c =
    omega (arith, c.requires, all_classes c.args.classed.now, c.write_class-at.ensures.place, c.write_class-at.auto.buffer, c.write_class-at-2.ensures.place, c.write_class-at-2.auto.buffer)

pub write_class-requires : goal.write_class-requires
write_class-requires c =
    omega (arith, c.requires, all_classes c.args.classed.now, c.write_class-at.ensures.place, c.write_class-at.auto.buffer, c.write_class-at-2.ensures.place, c.write_class-at-2.auto.buffer, c.write_class-at-3.ensures.place, c.write_class-at-3.auto.buffer)

pub returns : goal.returns
returns c =
    let classed = c.args.classed.now in
    let highest = entries_of_class 3 classed in
    let high = entries_of_class 2 classed in
    let low = entries_of_class 1 classed in
    let lowest = entries_of_class 0 classed in
    let whole : c.write_class.result ≡ length classed = omega (arith, all_classes classed, c.write_class-at.ensures.place, c.write_class-at-2.ensures.place, c.write_class-at-3.ensures.place, c.write_class.ensures.place) in
    ap (λ n. take n c.write_class.new.buffer) (sym whole)
    ∙ c.write_class.ensures.written
    ∙ ap (λ l. l ++ lowest) (c.write_class-at-3.ensures.written ∙ ap (λ l. l ++ low) (c.write_class-at-2.ensures.written ∙ ap (λ l. l ++ high) c.write_class-at.ensures.written))
    ∙ append_assoc (highest ++ high) low lowest
    ∙ append_assoc highest high (low ++ lowest)
