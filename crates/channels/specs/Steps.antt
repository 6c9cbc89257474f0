-- Lists of steps on a queue of messages and on its receiver's counter.
use Rattle.std.specs.Prelude.{◌≡◌, ◌<◌, ◌+◌, ℕ, true, List, [], ◌∷◌, ◌++◌, Option, option_to_list, Result, Ok, Err}
use Rattle.std.specs.declared.alloc.AllocError.{AllocError}
use Rattle.vmm_sys.specs.declared.errno.Errno.{Errno}
use Rattle.channels.specs.Messages.{Messages, new_messages, IsSend, IsLeave, IsTaken, IsReceived, IsClosed, IsJoined, IsLowered}
use Rattle.channels.specs.declared.errors.SendError.{SendError}
use Rattle.channels.specs.declared.laws.QueueStep.{QueueStep}
use Rattle.channels.specs.declared.laws.QueueStep.TheVariants.{Send, Ring, Take, Receive, Close, Join, Leave}

-- the messages, the value of their receiver's counter, and what was sent and returned so far, each in order
pub record QueueWithCounter (M : Type 0) : Type 0 where
  pub messages : Messages M
  pub value : ℕ
  pub sent : List M
  pub returned : List M

-- a ring adds one to the value, or is refused
abbrev pub raises : ℕ → Result (Unit {0}) Errno → ℕ → Type 0
raises value (Ok _) after = after ≡ value + 1
raises value (Err _) after = after ≡ value

-- a clear makes it 0
abbrev pub lowers : ℕ → ℕ → Type 0
lowers value after = after ≡ 0

module _ {M : Type 0} where
  -- a new queue, and a counter that nobody rang
  abbrev pub new_queue_with_counter : Option ℕ → QueueWithCounter M
  new_queue_with_counter most = record { messages = new_messages most; value = 0; sent = []; returned = [] }

  -- these were sent, and those returned
  abbrev pub Passes : QueueWithCounter M → List M → List M → QueueWithCounter M → Type 0
  Passes before sent returned after = (after.sent ≡ before.sent ++ sent) × (after.returned ≡ before.returned ++ returned)

  -- a message whose send was agreed to
  abbrev pub agreed : M → Result (Unit {0}) (SendError M) → List M
  agreed message (Ok _) = message ∷ []
  agreed message (Err _) = []

  -- a step does what the queue promises of its call, whatever that answers; a ring by somebody else leaves the messages
  abbrev pub StepsTo : QueueStep M → QueueWithCounter M → QueueWithCounter M → Type 0
  StepsTo (Send message) before after =
      (answer : Result (Unit {0}) (SendError M)) × IsSend raises before.messages before.value message answer after.messages after.value × Passes before (agreed message answer) [] after
  StepsTo Ring before after = (answer : Result (Unit {0}) Errno) × raises before.value answer after.value × (after.messages ≡ before.messages) × Passes before [] [] after
  StepsTo Take before after =
      (list : List M) × (answer : Result (Unit {0}) AllocError) × (taken : List M) × IsTaken before.messages list answer after.messages (list ++ taken)
      × IsLowered lowers before.messages before.value after.messages after.value × Passes before [] taken after
  StepsTo Receive before after =
      (answer : Option M) × IsReceived before.messages answer after.messages × IsLowered lowers before.messages before.value after.messages after.value
      × Passes before [] (option_to_list answer) after
  StepsTo Close before after =
      (all : List M) × IsClosed before.messages all after.messages × IsLowered lowers before.messages before.value after.messages after.value × Passes before [] all after
  StepsTo Join before after = (answer : Result (Unit {0}) AllocError) × IsJoined before.messages answer after.messages × (after.value ≡ before.value) × Passes before [] [] after
  StepsTo Leave before after = (answer : Result (Unit {0}) Errno) × IsLeave raises before.messages before.value answer after.messages after.value × Passes before [] [] after

  -- each step from where the one before it led
  abbrev pub AreSteps : QueueWithCounter M → List (QueueStep M) → QueueWithCounter M → Type 0
  AreSteps before [] after = after ≡ before
  AreSteps before (step ∷ steps) after = (between : QueueWithCounter M) × StepsTo step before between × AreSteps between steps after

  -- while the counter's value is 0, no message waits in an open queue, and not all senders have closed
  abbrev pub NoWakeUpIsLost : QueueWithCounter M → Type 0
  NoWakeUpIsLost queue = queue.value ≡ 0 → queue.messages.is_open ≡ true → (queue.messages.waiting ≡ []) × (0 < queue.messages.senders)

  -- what was returned, followed by what waits, is what was sent: no message is lost, doubled or made up, and none overtakes another
  abbrev pub IsInOrder : QueueWithCounter M → Type 0
  IsInOrder queue = queue.returned ++ queue.messages.waiting ≡ queue.sent
