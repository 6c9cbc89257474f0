-- A job for one subscriber.
use Rattle.std.specs.Prelude.{◌≡◌, ℕ, List, [], ◌∷◌, Result, Ok, Err}
use Rattle.event_loop.specs.Prelude.{LoopStep, Replaced, Refused}
use Rattle.event_loop.specs.declared.error.Error.{Error}
use Rattle.event_loop.specs.declared.error.Error.TheVariants.{InvalidId}

-- does: which reply an action may give, and which value it may leave. It was done to the subscriber of the id; or nobody has the id.
abbrev pub IsDoneTo : {S A T : Type 0} (does : A → S → T → S → Type 0) → ℕ → A → List (LoopStep S) → Result T Error → Type 0
IsDoneTo {S} does id action steps (Ok reply) = (old new : S) × (steps ≡ Replaced id old new ∷ []) × does action old reply new
IsDoneTo does id action steps (Err error) = (steps ≡ Refused id ∷ []) × (error ≡ InvalidId)
