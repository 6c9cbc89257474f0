use Rattle.std.specs.Vec.Iter.{into_iter_items}
use Rattle.evloop.proofs.lines.make_line.Goals as goal

pub returns-in-Ask-clause-made : goal.returns-in-Ask-clause-made
returns-in-Ask-clause-made g c = rw c.in-Ask.is (rw c.deref.ensures.value at (c.make_ask.ensures.made (into_iter_items c.args.reactions.now)))

pub returns-in-Leave-clause-made : goal.returns-in-Leave-clause-made
returns-in-Leave-clause-made g c = rw c.in-Leave.is (rw c.deref-in-Leave.ensures.value at (c.make_leave.ensures.made (into_iter_items c.args.reactions.now)))

pub returns-in-Run-clause-made : goal.returns-in-Run-clause-made
returns-in-Run-clause-made g c = rw c.in-Run.is (c.make_run.ensures.made c.args.ids.now.items (into_iter_items c.args.reactions.now))
