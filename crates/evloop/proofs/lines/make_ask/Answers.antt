use Rattle.std.proofs.Common.{◌≡◌, Ok, Err, refl, sym, inr, ◌∙◌, rules}
use Rattle.std.proofs.lemmas.List.Elements.{same_from_all_zip}
use Rattle.event_manager.specs.Error.TheVariants.{InvalidId}
use Rattle.event_manager.specs.Manager.{state_of}
use Rattle.event_manager.proofs.TraceSoFar.{none_driven}
use Rattle.evloop_script.specs.Printed.{written_by}
use Rattle.evloop_script.specs.declared.output.OutputLine.TheVariants.{AskRefused}
use Rattle.evloop.proofs.LinesSoFar.{line_printed, made_under, unmade_under}
use Rattle.evloop.proofs.lines.make_ask.Goals as goal

pub returns-in-Asked-Ok-clause-made : goal.returns-in-Asked-Ok-clause-made
returns-in-Asked-Ok-clause-made g c = λ reactions.
    let got = sym c.id_of.ensures ∙ c.in-Some.is in
    let same : c.deref.result.now ≡ c.args.requests.items = search (rules, same_from_all_zip) in
    inr (
      _,
      record { ids = c.args.ids.now; reactions = reactions; written = written_by g.O.Write.contents c.print_replies.new.printer },
      (Ok c.in-Asked-Ok.answers, made_under _ c.in-Some.id _ got, (refl, refl), rw (same, c.deref-in-Asked-Ok.ensures.value) at c.print_replies.ensures),
      rw c.in-Asked-Ok.field-0-is at (rw c.in-Asked-Ok.is at c.in_ok-answers.ensures.driven),
      refl,
    )

pub returns-in-Asked-Err-clause-made : goal.returns-in-Asked-Err-clause-made
returns-in-Asked-Err-clause-made g c = λ reactions.
    let got = sym c.id_of.ensures ∙ c.in-Some.is in
    let error = c.in-Asked-Err.error in
    let then = line_printed c.args.ids.now reactions c.print-in-Asked-Err.result _ (AskRefused c.args.name error) _ c.print-in-Asked-Err.ensures.printed c.print-in-Asked-Err.ensures.part in
    inr (
      _,
      record { ids = c.args.ids.now; reactions = reactions; written = then.0 },
      (Err error, made_under _ c.in-Some.id _ got, (refl, refl), then.1),
      rw c.in-Asked-Err.field-0-is at (rw c.in-Asked-Err.is at c.in_ok-answers.ensures.driven),
      then.2,
    )

pub returns-in_default-clause-made : goal.returns-in_default-clause-made
returns-in_default-clause-made g c = λ reactions.
    let got = sym c.id_of.ensures ∙ c.in_default.is in
    let then = line_printed c.args.ids.now reactions c.print.result _ (AskRefused c.args.name InvalidId) _ c.print.ensures.printed c.print.ensures.part in
    inr (
      _,
      record { ids = c.args.ids.now; reactions = reactions; written = then.0 },
      (Err InvalidId, unmade_under _ _ got, (refl, refl), then.1),
      none_driven _ _ g.J.Job.may g.P.EventPoller.controls g.P.EventPoller.waits (state_of c.args.manager.now) c.next_id-next.ensures.below,
      then.2,
    )
