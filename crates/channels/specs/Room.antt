-- The senders' signal, which shows whether a queue has room.
use Rattle.std.specs.Prelude.{◌≡◌, ◌<◌, ℕ, Bool, true, false, not, ◌&&◌, length, List, [], ◌∷◌, Option, MatchBool, Result, Ok, Err}
use Rattle.vmm_sys.specs.declared.errno.Errno.{Errno}
use Rattle.channels.specs.Messages.{Messages, has_room}
use Rattle.channels.specs.Steps.{QueueWithCounter, StepsTo, new_queue_with_counter}
use Rattle.channels.specs.Steps as counter
use Rattle.channels.specs.declared.laws.QueueStep.{QueueStep}

-- a send would be refused as full
abbrev pub is_full : {M : Type 0} → Messages M → Bool
is_full q = q.is_open && not (has_room q.most (length q.waiting))

module _ {M S : Type 0} (raises : S → Result (Unit {0}) Errno → S → Type 0) (lowers : S → S → Type 0) where
  -- the senders' signal is raised where it wasn't and the queue isn't full, and lowered where it was and the queue is; else it is
  -- left alone, and so it is not raised where its raise is refused
  abbrev pub IsRoomUpdated : Messages M → Bool → S → Result (Unit {0}) Errno → Bool → S → Type 0
  IsRoomUpdated q was before (Ok _) is after =
      (is ≡ not (is_full q)) × MatchBool (is_full q) (MatchBool was (lowers before after) (after ≡ before)) (MatchBool was (after ≡ before) (raises before (Ok tt) after))
  IsRoomUpdated q was before (Err errno) is after = (is_full q ≡ false) × (was ≡ false) × (is ≡ false) × raises before (Err errno) after

-- a queue with its receiver's counter; whether its senders' counter counts as raised, the value of that one, and what the last update
-- answered
pub record QueueWithCounters (M : Type 0) : Type 0 where
  pub queue : QueueWithCounter M
  pub is_raised : Bool
  pub room : ℕ
  pub answer : Result (Unit {0}) Errno

module _ {M : Type 0} where
  -- the senders' counter was updated to the queue behind a step
  abbrev pub IsRoomCounterUpdated : QueueWithCounters M → QueueWithCounters M → Type 0
  IsRoomCounterUpdated before after = IsRoomUpdated counter.raises counter.lowers after.queue.messages before.is_raised before.room after.answer after.is_raised after.room

  -- a new queue, and counters that nobody rang
  abbrev pub new_queue_with_counters : Option ℕ → QueueWithCounters M
  new_queue_with_counters most = record { queue = new_queue_with_counter most; is_raised = false; room = 0; answer = Ok tt }

  -- a step on the queue, and then an update of the senders' counter
  abbrev pub StepsAndUpdates : QueueStep M → QueueWithCounters M → QueueWithCounters M → Type 0
  StepsAndUpdates step before after = StepsTo step before.queue after.queue × IsRoomCounterUpdated before after

  -- each step from where the one before it led
  abbrev pub AreStepsAndUpdates : QueueWithCounters M → List (QueueStep M) → QueueWithCounters M → Type 0
  AreStepsAndUpdates before [] after = after ≡ before
  AreStepsAndUpdates before (step ∷ steps) after = (between : QueueWithCounters M) × StepsAndUpdates step before between × AreStepsAndUpdates between steps after

  -- the senders' counter isn't 0 while it counts as raised; and where the last update wasn't refused it is 0 only while the queue is full
  abbrev pub NoRoomIsMissed : QueueWithCounters M → Type 0
  NoRoomIsMissed q = (q.is_raised ≡ true → 0 < q.room) × (q.answer ≡ Ok tt → q.room ≡ 0 → is_full q.queue.messages ≡ true)
