use Rattle.std.proofs.Common.{refl, ap, inr, ◌∙◌, [], ◌∷◌, ◌++◌}
use Rattle.std.specs.Vec.Iter.{into_iter_items}
use Rattle.std.specs.Result.{result_ok}
use Rattle.evloop_script.specs.Printed.{written_by}
use Rattle.evloop_script.specs.declared.output.OutputLine.TheVariants.{Joined}
use Rattle.evloop.proofs.LinesSoFar.{on_fault, part_of_line, whole_line}
use Rattle.evloop.proofs.lines.make_join.Goals as goal

pub returns-in_err-print-clause-made : goal.returns-in_err-print-clause-made
returns-in_err-print-clause-made g c =
    let own = c.new-subscriber.ensures in
    let part = part_of_line (written_by g.O.Write.contents c.args.printer.now) (Joined c.args.name c.in-Added.answer) (written_by g.O.Write.contents c.print.new.self) c.print.ensures.part in
    inr (
      _,
      record { ids = c.args.ids.now.items ++ result_ok c.in-Added.answer ∷ []; reactions = into_iter_items c.next_of-own.new.reactions; written = part.0 },
      (c.new-subscriber.result, c.in-Added.answer, refl, refl, own.name, own.first, rw own.reactions c.next_of-own.ensures, part.1),
      rw c.in-Added.is at c.in_ok-answer.ensures.driven,
      on_fault _ _ _ c.from_residual-in_err-print.ensures.0 part.2,
    )

pub returns-in_err-push-clause-made : goal.returns-in_err-push-clause-made
returns-in_err-push-clause-made g c =
    let own = c.new-subscriber.ensures in
    inr (
      _,
      record { ids = c.args.ids.now.items ++ result_ok c.in-Added.answer ∷ []; reactions = into_iter_items c.next_of-own.new.reactions; written = written_by g.O.Write.contents c.print.new.self },
      (c.new-subscriber.result, c.in-Added.answer, refl, refl, own.name, own.first, rw own.reactions c.next_of-own.ensures, c.in_ok-print.ensures.printed),
      rw c.in-Added.is at c.in_ok-answer.ensures.driven,
      on_fault _ _ _ c.from_residual-in_err-push.ensures.0 (whole_line (written_by g.O.Write.contents c.args.printer.now) (Joined c.args.name c.in-Added.answer) (written_by g.O.Write.contents c.print.new.self) c.in_ok-print.ensures.printed c.in_ok-print.ensures.part),
    )

pub returns-clause-made : goal.returns-clause-made
returns-clause-made g c =
    let own = c.new-subscriber.ensures in
    inr (
      _,
      record { ids = c.push.new.self.items; reactions = into_iter_items c.next_of-own.new.reactions; written = written_by g.O.Write.contents c.print.new.self },
      (c.new-subscriber.result, c.in-Added.answer, refl, c.in_ok-push.ensures.items ∙ ap (λ got. c.args.ids.now.items ++ got ∷ []) c.ok.ensures.value, own.name, own.first, rw own.reactions c.next_of-own.ensures, c.in_ok-print.ensures.printed),
      rw c.in-Added.is at c.in_ok-answer.ensures.driven,
      refl,
    )
