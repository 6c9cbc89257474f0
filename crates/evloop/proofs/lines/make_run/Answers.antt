use Rattle.std.proofs.Common.{refl, inr}
use Rattle.evloop_script.specs.declared.output.OutputLine.TheVariants.{Ran}
use Rattle.evloop.proofs.LinesSoFar.{line_printed}
use Rattle.evloop.proofs.lines.make_run.Goals as goal

pub returns-clause-made : goal.returns-clause-made
returns-clause-made g c = λ ids reactions.
    let then = line_printed ids reactions c.print.result _ (Ran c.in-Ran.answer) _ c.print.ensures.printed c.print.ensures.part in
    inr (
      _,
      record { ids = ids; reactions = reactions; written = then.0 },
      (c.in-Ran.answer, refl, (refl, refl), then.1),
      rw c.in-Ran.is at c.in_ok-answer.ensures.driven,
      then.2,
    )
