use Rattle.std.proofs.Common.{ap, arith, length, subst, sym}
use Rattle.event_loop.proofs.RequestsSoFar.{AreRequestedSoFar, none_requested, one_more_requested, all_requested}
use Rattle.event_manager.proofs.lists.ask.make_requests.Goals as goal

pub loop-request-init : goal.loop-request-init
loop-request-init g c = record {
  so_far = subst (λ answers. AreRequestedSoFar g.P.EventPoller.controls g.P.EventPoller.waits c.args.requests.now 0 answers c.args.ops.now c.args.ops.now) (sym c.requires.none) (none_requested c.args.requests.now c.args.ops.now);
  count = omega (arith, c.args.answers.now.ok.0, ap length c.requires.none);
  room = c.requires.room;
}

pub loop-request-preserved : goal.loop-request-preserved
loop-request-preserved g c =
    let here = c.loop-request.invariant in record {
      so_far = rw c.push_reserved.ensures.items (one_more_requested here.so_far c.loop-request-test.true c.request-item.is c.request-answer.ensures.1);
      count = omega (arith, here.count, c.push_reserved.ensures.len);
      room = omega (arith, here.room, c.push_reserved.ensures.capacity);
    }

pub returns : goal.returns
returns g c = all_requested c.loop-request.invariant.so_far c.loop-request-test.false
