use Rattle.std.proofs.Common.{◌+◌, ◌≤◌, map, reverse, vec_len, vec_capacity}
use Rattle.event_manager.specs.Manager.{state_of}
use Rattle.event_manager.proofs.TraceSoFar.{IsTracedSoFar}
use Rattle.event_manager.proofs.lists.drive.Given as goal

abbrev pub invariant-loop-planned : goal.invariant-loop-planned
invariant-loop-planned g l = record {
  so_far : IsTracedSoFar g.S.MutEventSubscriber.begins g.S.MutEventSubscriber.serves g.J.Job.may g.P.EventPoller.controls g.P.EventPoller.waits (state_of l.initial.manager) (state_of l.manager) (map (λ p. p.call) (reverse l.initial.plan.items)) (map (λ p. p.call) (reverse l.plan.items)) l.initial.replies.items l.replies.items;
  room : vec_len l.replies + vec_len l.plan ≤ vec_capacity l.replies;
}

abbrev pub decreases-loop-planned : goal.decreases-loop-planned
decreases-loop-planned g l = vec_len l.plan
