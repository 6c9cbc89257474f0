-- No wake-up is lost: by no step, and so by no list of steps.
use Rattle.std.proofs.Common.{List, [], ◌∷◌, arith}
use Rattle.std.proofs.lemmas.List.{nil_from_length}
use Rattle.channels.specs.Steps.{QueueWithCounter, StepsTo, AreSteps, NoWakeUpIsLost}
use Rattle.channels.specs.declared.laws.QueueStep.{QueueStep}
use Rattle.channels.specs.declared.laws.QueueStep.TheVariants.{Receive}

module _ {M : Type 0} where
  step_loses_none : (step : QueueStep M) (before after : QueueWithCounter M) → StepsTo step before after → NoWakeUpIsLost before → NoWakeUpIsLost after
  step_loses_none Receive before after did held = grind (arith, nil_from_length after.messages.waiting)
  step_loses_none _ before after did held = grind arith

  pub steps_lose_none : (before : QueueWithCounter M) (steps : List (QueueStep M)) (after : QueueWithCounter M) → AreSteps before steps after → NoWakeUpIsLost before → NoWakeUpIsLost after
  steps_lose_none before [] after is held = rw is held
  steps_lose_none before (step ∷ steps) after (between, did, more) held = steps_lose_none between steps after more (step_loses_none step before between did held)
