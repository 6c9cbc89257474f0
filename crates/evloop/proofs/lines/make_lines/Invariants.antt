use Rattle.std.proofs.Common.{[]}
use Rattle.std.specs.Vec.Iter.{into_iter_items}
use Rattle.event_manager.specs.Manager.{state_of}
use Rattle.evloop_script.specs.Printed.{written_by}
use Rattle.evloop.proofs.LinesSoFar.{IsRunSoFar}
use Rattle.evloop.proofs.lines.make_lines.Given as goal

abbrev pub invariant-loop-line : goal.invariant-loop-line
invariant-loop-line g l = IsRunSoFar g.J.Job.may g.P.EventPoller.controls g.P.EventPoller.waits
    (record { ids = []; reactions = l.fn.reactions.items; written = written_by g.O.Write.contents l.fn.printer }) l.fn.lines.items (state_of l.fn.manager)
    l.line-iterator.rest.items (record { ids = l.ids.items; reactions = into_iter_items l.reactions; written = written_by g.O.Write.contents l.printer }) (state_of l.manager)
