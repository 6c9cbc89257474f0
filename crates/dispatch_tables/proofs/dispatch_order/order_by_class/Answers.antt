use Rattle.std.proofs.Common.{sym, ap, ◌∙◌, length, take, ◌++◌}
use Rattle.std.proofs.lemmas.List.{length-take-le}
use Rattle.dispatch_tables.specs.Classes.{entries_of_class}
use Rattle.dispatch_tables.proofs.ClassEntries.{same_length, lowest_in_order, written_in_order}
use Rattle.dispatch_tables.proofs.dispatch_order.order_by_class.Goals as goal

pub returns-then-classify-clause-ordered : goal.returns-then-classify-clause-ordered
returns-then-classify-clause-ordered c =
    let report = take c.args.count c.args.buffer.now in
    let classed = c.classify.new.classed.items in
    let now = c.write_classes.new.buffer in
    let listed = c.deref.ensures.value in
    let whole = ap length listed ∙ same_length c.args.owners.now classed report c.classify.ensures.classed ∙ length-take-le c.args.count c.args.buffer.now c.requires.within in
    written_in_order c.args.owners.now classed report (take c.args.count now) c.classify.ensures.classed
    (ap (λ n. take n now) (sym whole) ∙ c.write_classes.ensures ∙ ap (λ l. entries_of_class 3 l ++ (entries_of_class 2 l ++ (entries_of_class 1 l ++ entries_of_class 0 l))) listed)

pub returns-else-classify-clause-ordered : goal.returns-else-classify-clause-ordered
returns-else-classify-clause-ordered c = lowest_in_order c.args.owners.now c.classify.new.classed.items (take c.args.count c.args.buffer.now) c.classify.ensures.classed (c.classify.ensures.lowest c.if-classify.false)
