use Rattle.std.proofs.Common.{sym, subst}
use Rattle.event_loop.specs.Prelude.{LoopState, contents_of}
use Rattle.event_manager.specs.Reached.{IsReached}
use Rattle.event_manager.proofs.ReachedStates.{new_is_reached}
use Rattle.event_manager.proofs.tracked.TrackedManager.new_with_capacity.Goals as goal

-- a new manager
pub invariant_of-result : goal.invariant_of-result
invariant_of-result g c =
    let made = rw c.in_ok-manager.was at c.new_with_capacity.ensures in
    subst (λ (s : LoopState g.row.S.Denot g.row.P.Denot). IsReached g.S.MutEventSubscriber.begins g.S.MutEventSubscriber.serves g.J.Job.may (contents_of s)) (sym made.3)
    (new_is_reached g.S.MutEventSubscriber.begins g.S.MutEventSubscriber.serves g.J.Job.may _)
