use Rattle.std.proofs.Common.{Err, refl, sym, inr, ◌∙◌}
use Rattle.event_manager.specs.Error.TheVariants.{InvalidId}
use Rattle.event_manager.specs.Manager.{state_of}
use Rattle.event_manager.proofs.TraceSoFar.{none_driven}
use Rattle.evloop_script.specs.declared.output.OutputLine.TheVariants.{Left}
use Rattle.evloop.specs.Lines.{done_of}
use Rattle.evloop.proofs.LinesSoFar.{line_printed, made_under, unmade_under}
use Rattle.evloop.proofs.lines.make_leave.Goals as goal

pub returns-clause-made : goal.returns-clause-made
returns-clause-made g c = λ reactions.
    let got = sym c.id_of.ensures ∙ c.in-Some.is in
    let then = line_printed c.args.ids.now reactions c.print-2.result _ (Left c.args.name (done_of c.in-Removed.left)) _ (rw c.done-answer.ensures at c.print-2.ensures.printed) (rw c.done-answer.ensures at c.print-2.ensures.part) in
    inr (
      _,
      record { ids = c.args.ids.now; reactions = reactions; written = then.0 },
      (c.in-Removed.left, made_under _ c.in-Some.id _ got, (refl, refl), then.1),
      rw c.in-Removed.is at c.in_ok-left.ensures.driven,
      then.2,
    )

pub returns-in_default-clause-made : goal.returns-in_default-clause-made
returns-in_default-clause-made g c = λ reactions.
    let got = sym c.id_of.ensures ∙ c.in_default.is in
    let then = line_printed c.args.ids.now reactions c.print.result _ (Left c.args.name (Err InvalidId)) _ c.print.ensures.printed c.print.ensures.part in
    inr (
      _,
      record { ids = c.args.ids.now; reactions = reactions; written = then.0 },
      (Err InvalidId, unmade_under _ _ got, (refl, refl), then.1),
      none_driven _ _ g.J.Job.may g.P.EventPoller.controls g.P.EventPoller.waits (state_of c.args.manager.now) c.next_id-next.ensures.below,
      then.2,
    )
