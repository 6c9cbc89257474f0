use Rattle.std.proofs.Common.{◌≡◌, ◌+◌, ◌++◌, map, reverse, vec_len}
use Rattle.event_manager.proofs.lists.plan.plan_all.Given as goal

abbrev pub invariant-loop-call : goal.invariant-loop-call
invariant-loop-call g l = record {
  kept : l.calls.items ++ map (λ p. p.call) (reverse l.plan.items) ≡ l.initial.calls.items;
  count : vec_len l.calls + vec_len l.plan ≡ vec_len l.initial.calls;
}

abbrev pub decreases-loop-call : goal.decreases-loop-call
decreases-loop-call g l = vec_len l.calls
