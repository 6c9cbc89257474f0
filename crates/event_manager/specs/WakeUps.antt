-- Lists of steps by a loop and by those who send it jobs, on their queue and on the counter that wakes the loop.
use Rattle.std.specs.Prelude.{◌≡◌, ◌+◌, ℕ, Bool, true, false, List, [], ◌∷◌, None, Result, Ok, Err, is_ok}
use Rattle.vmm_sys.specs.declared.errno.Errno.{Errno}
use Rattle.event_loop.specs.declared.error.Error.{Error}
use Rattle.event_manager.specs.JobQueue.{QueueState, IsSend, new_queue, after_take, after_close}
use Rattle.event_manager.specs.declared.laws.WakeStep.{WakeStep}
use Rattle.event_manager.specs.declared.laws.WakeStep.TheVariants.{Ring, Queue, Kick, Clear, Take, Close}

-- the queue; how many rings of the counter weren't cleared; whether the sender that has the queue's lock has rung for a job that is
-- still to come; whether the loop has cleared the counter, and its take is still to come
pub record WakeState (J : Type 0) : Type 0 where
  pub queue : QueueState J (Unit {0})
  pub value : ℕ
  pub job_is_to_come : Bool
  pub take_is_to_come : Bool

-- a ring adds one to the value, or is refused
abbrev pub rings : ℕ → Result (Unit {0}) Errno → ℕ → Type 0
rings value (Ok _) after = after ≡ value + 1
rings value (Err _) after = after ≡ value

-- a clear makes it 0, or is refused
abbrev pub clears : ℕ → Result ℕ Errno → ℕ → Type 0
clears value (Ok _) after = after ≡ 0
clears value (Err _) after = after ≡ value

module _ {J : Type 0} where
  -- a new queue, and a counter that nobody rang
  abbrev pub new_wake_state : WakeState J
  new_wake_state = record { queue = new_queue; value = 0; job_is_to_come = false; take_is_to_come = false }

  -- while a job is to come, its sender has the lock: nobody else rings for a job, and no take and no close is made
  abbrev pub StepsTo : WakeStep J → WakeState J → WakeState J → Type 0
  StepsTo Ring before after =
      (before.job_is_to_come ≡ false) × (answer : Result (Unit {0}) Errno) × rings before.value answer after.value
      × (after ≡ record before { value = after.value; job_is_to_come = is_ok answer })
  StepsTo (Queue job) before after =
      (before.job_is_to_come ≡ true) × (answer : Result ℕ Error) × IsSend (λ rung. rung ≡ Ok tt) before.queue job None answer after.queue
      × (after ≡ record before { queue = after.queue; job_is_to_come = false })
  StepsTo Kick before after = (answer : Result (Unit {0}) Errno) × rings before.value answer after.value × (after ≡ record before { value = after.value })
  StepsTo Clear before after = (answer : Result ℕ Errno) × clears before.value answer after.value × (after ≡ record before { value = after.value; take_is_to_come = true })
  StepsTo Take before after = (before.job_is_to_come ≡ false) × (after ≡ record before { queue = after_take before.queue; take_is_to_come = false })
  StepsTo Close before after = (before.job_is_to_come ≡ false) × (after ≡ record before { queue = after_close before.queue })

  -- each step from where the one before it led
  abbrev pub AreSteps : WakeState J → List (WakeStep J) → WakeState J → Type 0
  AreSteps before [] after = after ≡ before
  AreSteps before (step ∷ steps) after = (between : WakeState J) × StepsTo step before between × AreSteps between steps after

  -- while the counter's value is 0 and no take is to come, no job waits, and none was rung for that is still to come
  abbrev pub NoJobWaitsUnheard : WakeState J → Type 0
  NoJobWaitsUnheard state = state.value ≡ 0 → state.take_is_to_come ≡ false → (state.queue.waiting ≡ []) × (state.job_is_to_come ≡ false)

  -- Steps lead to this queue, and no job is to come before or after them: what one did with the lock held.
  abbrev pub ReachesQueue : WakeState J → QueueState J (Unit {0}) → Type 0
  ReachesQueue before queue = (steps : List (WakeStep J)) × (after : WakeState J) × AreSteps before steps after × (after.queue ≡ queue) × (after.job_is_to_come ≡ false)
