use Rattle.std.proofs.Common.{List}
use Rattle.event_loop.specs.Exchange.{Answer}
use Rattle.event_loop.proofs.RequestsSoFar.{AreRequestedSoFar}
use Rattle.evloop_script.proofs.requests.make_requests.Given as goal

abbrev pub invariant-loop-request : goal.invariant-loop-request
invariant-loop-request g l = (answers : List Answer) × AreRequestedSoFar g.P.EventPoller.controls g.P.EventPoller.waits l.requests l.request-index answers l.initial.ops l.ops
