-- No room is missed: by no step, and so by no list of steps.
use Rattle.std.proofs.Common.{List, [], ◌∷◌, arith}
use Rattle.channels.specs.Room.{QueueWithCounters, IsRoomCounterUpdated, AreStepsAndUpdates, NoRoomIsMissed}
use Rattle.channels.specs.declared.laws.QueueStep.{QueueStep}

module _ {M : Type 0} where
  pub telling_misses_none : (before after : QueueWithCounters M) → IsRoomCounterUpdated before after → NoRoomIsMissed before → NoRoomIsMissed after
  telling_misses_none before after did held = grind arith

  pub steps_miss_none : (before : QueueWithCounters M) (steps : List (QueueStep M)) (after : QueueWithCounters M) → AreStepsAndUpdates before steps after → NoRoomIsMissed before → NoRoomIsMissed after
  steps_miss_none before [] after is held = rw is held
  steps_miss_none before (step ∷ steps) after (between, (stepped, did), more) held = steps_miss_none between steps after more (telling_misses_none before between did held)
