-- A job that does an action, and then makes a request.
use Rattle.std.proofs.Common.{ℕ, Result, Ok, Err, List, [], ◌∷◌, ◌++◌, All}
use Rattle.std.proofs.lemmas.List.Elements.{All-nil, All-cons, All-append}
use Rattle.event_loop.specs.Prelude.{LoopStep, LoopState, HasStepped, HaveStepped, Begins, Controls, Waits, Answer}
use Rattle.event_loop.specs.LoopState.{IsRequest}
use Rattle.event_loop.specs.declared.error.Error.{Error}
use Rattle.event_loop.specs.declared.events.Request.{Request}
use Rattle.event_manager.specs.Actions.{IsDoneTo}
use Rattle.event_manager.specs.Kept.{StepGoesOn}
use Rattle.event_manager.specs.declared.jobs.action.ActionOn.{ActionOn}
use Rattle.event_manager.proofs.Kept.{actions_go_on}
use Rattle.event_manager.proofs.OneStep.{one_step, steps_join}

-- a request puts nothing in anybody's place
requested : {S : Type 0} (goes : S → S → Type 0) (id : ℕ) (request : Request) (answer : Result Answer Error) (step : LoopStep S) → IsRequest id request answer step → StepGoesOn goes step
requested goes id request (Ok entry) step is = rw is.1 tt
requested goes id request (Err error) step is = rw is.1 tt

-- an action is done, and then a request is made: what an action's new values keep, the job keeps
pub done_and_asked : {S P A T : Type 0} {begins : Begins S} {controls : Controls P} {waits : Waits P} (goes : S → S → Type 0) (does : A → S → T → S → Type 0) → ((action : A) (old : S) (told : T) (new : S) → does action old told new → goes old new)
    → (job : ActionOn A) (told : Result T Error) (id : ℕ) (request : Request) (answer : Result Answer Error) {before mid after : LoopState S P}
    → (steps : List (LoopStep S)) × IsDoneTo does job.subscriber job.action steps told × HaveStepped begins controls waits before steps mid
    → (step : LoopStep S) × IsRequest id request answer step × HasStepped begins controls waits mid step after
    → (steps : List (LoopStep S)) × All (StepGoesOn goes) steps × HaveStepped begins controls waits before steps after
done_and_asked {A = A} goes does keeps job told id request answer (steps, done, did) (step, asked, made) = (
  steps ++ step ∷ [],
  All-append (StepGoesOn goes) steps (step ∷ []) (actions_go_on goes does (λ (job : ActionOn A). job.subscriber) (λ job. job.action) keeps job steps told done)
      (All-cons (StepGoesOn goes) step [] (requested goes id request answer step asked) (All-nil (StepGoesOn goes))),
  steps_join _ _ _ _ _ did (one_step _ _ _ made),
)
