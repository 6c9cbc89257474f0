use Rattle.std.proofs.Common.{refl, sym, ap, ◌∙◌, arith, [], ◌∷◌, ◌++◌}
use Rattle.std.proofs.lemmas.List.{length_push}
use Rattle.std.specs.Result.{result_and}
use Rattle.event_loop.specs.Exchange.{first_refusal}
use Rattle.event_loop.proofs.RequestsSoFar.{none_requested, one_more_requested, all_requested, next_refusal}
use Rattle.event_loop.proofs.ops.EventOps.request_all.Goals as goal

pub loop-index-init : goal.loop-index-init
loop-index-init g c = ([], refl, refl, none_requested c.args.requests.now c.args.self.now)

pub loop-index-preserved : goal.loop-index-preserved
loop-index-preserved g c =
    let here = c.loop-index.invariant in
    let next = c.request-next.result in (
      here.0 ++ next ∷ [],
      length_push here.0 next ∙ omega (arith, here.1),
      c.and-answer.ensures ∙ ap (λ answer. result_and answer c.answered_at.result) here.2 ∙ ap (result_and (first_refusal here.0)) c.answered_at.ensures ∙ sym (next_refusal 0 c.loop-index.index here.0 next (omega (arith, here.1))),
      one_more_requested here.3 c.loop-index-test.true c.index-requests-index.is c.request-next.ensures.1,
    )

pub returns : goal.returns
returns g c =
    let here = c.loop-index.invariant in
    let all = all_requested here.3 c.loop-index-test.false in
    (all.0, all.1, all.2, here.2 ∙ ap first_refusal (sym all.3), all.4)
