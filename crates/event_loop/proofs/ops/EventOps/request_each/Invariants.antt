use Rattle.std.proofs.Common.{◌≡◌, take, length}
use Rattle.event_loop.proofs.RequestsSoFar.{AreRequestedSoFar}
use Rattle.event_loop.proofs.ops.EventOps.request_each.Given as goal

abbrev pub invariant-loop-index : goal.invariant-loop-index
invariant-loop-index g l = (length l.answers ≡ g.row.N)
    × AreRequestedSoFar g.P.EventPoller.controls g.P.EventPoller.waits l.initial.requests l.index (take l.index l.answers) l.initial.self l.self
