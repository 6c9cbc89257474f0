use Rattle.std.proofs.Common.{arith}
use Rattle.std.proofs.lemmas.List.{nil_from_length}
use Rattle.evloop.proofs.LinesSoFar.{next_run, all_run, last_run, same_fault}
use Rattle.evloop.proofs.lines.make_lines.Goals as goal

pub loop-line-preserved : goal.loop-line-preserved
loop-line-preserved g c =
    next_run g.J.Job.may g.P.EventPoller.controls g.P.EventPoller.waits c.make_line.result
    (rw c.in-Some.ensures.steps.0 at c.loop-line.invariant) c.make_line.ensures.made c.in_ok-make_line.was

pub returns-in_err-make_line-clause-made : goal.returns-in_err-make_line-clause-made
returns-in_err-make_line-clause-made g c =
    last_run g.J.Job.may g.P.EventPoller.controls g.P.EventPoller.waits c.make_line.result c.from_residual.result _
    (rw c.in-Some.ensures.steps.0 at c.loop-line.invariant) c.make_line.ensures.made
    (same_fault c.make_line.result c.from_residual.result _ c.in_err-make_line.was c.from_residual.ensures.1)

pub returns-clause-made : goal.returns-clause-made
returns-clause-made g c =
    let left = c.loop-line.line-iterator.rest in
    all_run g.J.Job.may g.P.EventPoller.controls g.P.EventPoller.waits c.loop-line.invariant
    (nil_from_length left.items (omega (arith, left.ok.0, c.in-None.ensures.steps.0)))
