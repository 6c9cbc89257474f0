use Rattle.std.proofs.Common.{get_or, arith, ap, ◌∙◌}
use Rattle.std.proofs.lemmas.List.{length-replicate, length-set, take_all}
use Rattle.event_loop.proofs.RequestsSoFar.{none_requested, one_more_in_place, all_requested}
use Rattle.event_loop.proofs.ops.EventOps.request_each.Goals as goal

pub loop-index-init : goal.loop-index-init
loop-index-init g c = (length-replicate g.row.N _, none_requested c.args.requests c.args.self.now)

pub loop-index-preserved : goal.loop-index-preserved
loop-index-preserved g c =
    let here = c.loop-index.invariant in
    let known = c.well_formed in (
      length-set c.loop-index.answers c.loop-index.index c.request.result ∙ here.0,
      one_more_in_place c.loop-index.answers here.1 (omega (arith, known)) (omega (arith, here.0)) (ap (get_or c.args.requests c.loop-index.index) c.index-requests-index.is) c.request.ensures.1,
    )

pub returns : goal.returns
returns g c =
    let here = c.loop-index.invariant in
    let known = c.well_formed in
    let all = all_requested here.1 (omega (arith, known)) in
    (all.0, all.1, all.2, all.3 ∙ take_all c.loop-index.index c.loop-index.answers (omega (arith, here.0)), all.4)
