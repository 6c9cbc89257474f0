use Rattle.std.proofs.Common.{◌≡◌, List, length}
use Rattle.event_loop.specs.Exchange.{Answer, first_refusal}
use Rattle.event_loop.proofs.RequestsSoFar.{AreRequestedSoFar}
use Rattle.event_loop.proofs.ops.EventOps.request_all.Given as goal

abbrev pub invariant-loop-index : goal.invariant-loop-index
invariant-loop-index g l = (answers : List Answer) × (length answers ≡ l.index) × (l.answer ≡ first_refusal answers)
    × AreRequestedSoFar g.P.EventPoller.controls g.P.EventPoller.waits l.requests l.index answers l.initial.self l.self
