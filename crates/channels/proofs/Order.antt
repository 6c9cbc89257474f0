-- Messages come in order: by each step, and so by each list of steps.
use Rattle.std.proofs.Common.{◌≡◌, List, [], ◌∷◌, ◌++◌, refl, ap, sym, ◌∙◌, append_assoc}
use Rattle.std.specs.Prelude.{Ok, Err, Some, None}
use Rattle.std.proofs.lemmas.List.{append-nil, append_cancel_left}
use Rattle.channels.specs.Steps.{QueueWithCounter, Passes, StepsTo, AreSteps, IsInOrder}
use Rattle.channels.specs.declared.laws.QueueStep.{QueueStep}
use Rattle.channels.specs.declared.laws.QueueStep.TheVariants.{Send, Ring, Take, Receive, Close, Join, Leave}

module _ {M : Type 0} where
  -- what is returned, followed by what waits then, is what waited, followed by what is sent
  in_order : (before after : QueueWithCounter M) (sent returned : List M) → Passes before sent returned after
      → returned ++ after.messages.waiting ≡ before.messages.waiting ++ sent → IsInOrder before → IsInOrder after
  in_order before after sent returned (sends, returns) moved held =
      ap (λ l. l ++ after.messages.waiting) returns
      ∙ append_assoc before.returned returned after.messages.waiting
      ∙ ap (λ l. before.returned ++ l) moved
      ∙ sym (append_assoc before.returned before.messages.waiting sent)
      ∙ ap (λ l. l ++ sent) held
      ∙ sym sends

  -- nothing is sent or returned, and the same waits
  nothing : (before after : QueueWithCounter M) → Passes before [] [] after → after.messages ≡ before.messages → IsInOrder before → IsInOrder after
  nothing before after passed same held = in_order before after [] [] passed (ap (λ q. q.waiting) same ∙ sym (append-nil before.messages.waiting)) held

  step_keeps_order : (step : QueueStep M) (before after : QueueWithCounter M) → StepsTo step before after → IsInOrder before → IsInOrder after
  step_keeps_order (Send message) before after (Ok _, did, passed) held = in_order before after (message ∷ []) [] passed (ap (λ q. q.waiting) did.3) held
  step_keeps_order (Send message) before after (Err _, did, passed) held = nothing before after passed did.2 held
  step_keeps_order Ring before after (answer, rung, same, passed) held = nothing before after passed same held
  step_keeps_order Take before after (list, Ok _, taken, did, lowered, passed) held =
      in_order before after [] taken passed (ap (λ l. l ++ after.messages.waiting) (append_cancel_left list taken before.messages.waiting did.0) ∙ ap (λ q. before.messages.waiting ++ q.waiting) did.1) held
  step_keeps_order Take before after (list, Err _, taken, did, lowered, passed) held =
      in_order before after [] taken passed
      (ap (λ l. l ++ after.messages.waiting) (append_cancel_left list taken [] (did.0 ∙ sym (append-nil list))) ∙ ap (λ q. q.waiting) did.1 ∙ sym (append-nil before.messages.waiting)) held
  step_keeps_order Receive before after (Some message, did, lowered, passed) held = in_order before after [] (message ∷ []) passed (sym did.0 ∙ sym (append-nil before.messages.waiting)) held
  step_keeps_order Receive before after (None, did, lowered, passed) held = nothing before after passed did.1 held
  step_keeps_order Close before after (all, did, lowered, passed) held =
      in_order before after [] all passed (ap (λ l. l ++ after.messages.waiting) did.0 ∙ ap (λ q. before.messages.waiting ++ q.waiting) did.1) held
  step_keeps_order Join before after (Ok _, did, same, passed) held = in_order before after [] [] passed (ap (λ q. q.waiting) did.1 ∙ sym (append-nil before.messages.waiting)) held
  step_keeps_order Join before after (Err _, did, same, passed) held = nothing before after passed did.0 held
  step_keeps_order Leave before after (Ok _, did, passed) held = in_order before after [] [] passed (ap (λ q. q.waiting) did.0 ∙ sym (append-nil before.messages.waiting)) held
  step_keeps_order Leave before after (Err _, did, passed) held = nothing before after passed did.0 held

  pub steps_keep_order : (before : QueueWithCounter M) (steps : List (QueueStep M)) (after : QueueWithCounter M) → AreSteps before steps after → IsInOrder before → IsInOrder after
  steps_keep_order before [] after is held = rw is held
  steps_keep_order before (step ∷ steps) after (between, did, more) held = steps_keep_order between steps after more (step_keeps_order step before between did held)
