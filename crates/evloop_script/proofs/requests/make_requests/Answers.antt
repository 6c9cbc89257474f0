use Rattle.std.proofs.Common.{[]}
use Rattle.event_loop.proofs.RequestsSoFar.{none_requested, one_more_requested, all_requested}
use Rattle.evloop_script.proofs.requests.make_requests.Goals as goal

pub loop-request-init : goal.loop-request-init
loop-request-init g c = ([], none_requested c.args.requests.now c.args.ops.now)

pub loop-request-preserved : goal.loop-request-preserved
loop-request-preserved g c = (_, one_more_requested c.loop-request.invariant.1 c.loop-request-test.true c.request-item.is c.request-answer.ensures.1)

pub returns : goal.returns
returns g c =
    let all = all_requested c.loop-request.invariant.1 c.loop-request-test.false in
    (all.0, all.1, all.2, all.4)
