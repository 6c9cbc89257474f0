-- No job waits unheard: by no step, and so by no list of steps. A send is such a list.
use Rattle.std.proofs.Common.{◌≡◌, ℕ, ◌+◌, true, false, refl, sym, List, [], ◌∷◌, None, Result, Ok, Err, arith}
use Rattle.event_loop.specs.declared.error.Error.{Error}
use Rattle.event_loop.specs.declared.error.Error.TheVariants.{ChannelSend, ChannelRecv, EventFd, Epoll, FdAlreadyRegistered, InvalidId, InvalidCapacity, OutOfMemory, IdsUsedUp, TicketsUsedUp}
use Rattle.event_manager.specs.JobQueue.{QueueState, IsSend}
use Rattle.event_manager.specs.WakeUps.{WakeState, StepsTo, AreSteps, ReachesQueue, NoJobWaitsUnheard}
use Rattle.event_manager.specs.declared.laws.WakeStep.{WakeStep}
use Rattle.event_manager.specs.declared.laws.WakeStep.TheVariants.{Ring, Queue}

module _ {J : Type 0} where
  step_is_heard : (step : WakeStep J) (before after : WakeState J) → StepsTo step before after → NoJobWaitsUnheard before → NoJobWaitsUnheard after
  step_is_heard _ before after did held = grind arith

  pub steps_are_heard : (before : WakeState J) (steps : List (WakeStep J)) (after : WakeState J) → AreSteps before steps after → NoJobWaitsUnheard before → NoJobWaitsUnheard after
  steps_are_heard before [] after is held = rw is held
  steps_are_heard before (step ∷ steps) after (between, did, more) held = steps_are_heard between steps after more (step_is_heard step before between did held)

  refused_leaves : (queue : QueueState J (Unit {0})) (job : J) (error : Error) (after : QueueState J (Unit {0})) → IsSend (λ rung. Unit {0}) queue job None (Err error) after → after ≡ queue
  refused_leaves queue job ChannelSend after (closed, same) = same
  refused_leaves queue job TicketsUsedUp after (opened, used, same) = same
  refused_leaves queue job OutOfMemory after (can, same) = same
  refused_leaves queue job (EventFd errno) after (can, rung, same) = same
  refused_leaves queue job ChannelRecv after refused = absurd refused
  refused_leaves queue job (Epoll errno) after refused = absurd refused
  refused_leaves queue job FdAlreadyRegistered after refused = absurd refused
  refused_leaves queue job InvalidId after refused = absurd refused
  refused_leaves queue job InvalidCapacity after refused = absurd refused
  refused_leaves queue job IdsUsedUp after refused = absurd refused

  -- a ring and then the job; or nothing
  pub send_is_steps : (before : WakeState J) (job : J) (answer : Result ℕ Error) (queue : QueueState J (Unit {0})) → before.job_is_to_come ≡ false
      → IsSend (λ rung. Unit {0}) before.queue job None answer queue → ReachesQueue before queue
  send_is_steps before job (Ok ticket) queue none (can, rung, is, grown) =
      let mid : WakeState J = record before { value = before.value + 1; job_is_to_come = true } in
      let after : WakeState J = record mid { queue = queue; job_is_to_come = false } in
      (Ring ∷ Queue job ∷ [], after, (mid, (none, Ok tt, refl, refl), (after, (refl, Ok ticket, (can, refl, is, grown), refl), refl)), refl, refl)
  send_is_steps before job (Err error) queue none refused = ([], before, refl, sym (refused_leaves before.queue job error queue refused), none)
