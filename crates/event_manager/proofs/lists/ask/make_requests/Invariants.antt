use Rattle.std.proofs.Common.{◌≡◌, ◌≤◌, length, vec_len, vec_capacity}
use Rattle.event_loop.proofs.RequestsSoFar.{AreRequestedSoFar}
use Rattle.event_manager.proofs.lists.ask.make_requests.Given as goal

abbrev pub invariant-loop-request : goal.invariant-loop-request
invariant-loop-request g l = record {
  so_far : AreRequestedSoFar g.P.EventPoller.controls g.P.EventPoller.waits l.requests l.request-index l.answers.items l.initial.ops l.ops;
  count : vec_len l.answers ≡ l.request-index;
  room : length l.requests ≤ vec_capacity l.answers;
}
