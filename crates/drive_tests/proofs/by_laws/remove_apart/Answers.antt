use Rattle.std.proofs.Common.{◌≡◌, ◌≢◌, ℕ, false, ap, sym, ◌∙◌, ne_eqb, Result, Ok, Err}
use Rattle.event_manager.specs.Error.{Error}
use Rattle.event_manager.specs.LoopState.{IsLeave}
use Rattle.event_manager.specs.Prelude.{LoopStep, is_id, id_of}
use Rattle.drive_tests.proofs.by_laws.remove_apart.Goals as goal

of_another : {S : Type 0} (id other : ℕ) (result : Result S Error) (step : LoopStep S) → other ≢ id → IsLeave id result step → is_id other (id_of step) ≡ false
of_another id other (Ok value) step differ (calls, is) = ap (λ s. is_id other (id_of s)) is ∙ ne_eqb id other (λ same. differ (sym same))
of_another id other (Err error) step differ (unknown, is) = ap (λ s. is_id other (id_of s)) is ∙ ne_eqb id other (λ same. differ (sym same))

pub returns : goal.returns
returns g c = λ other differ.
    c.others_are_untouched.ensures.steps _ c.remove_subscriber.ensures.0 _ c.remove_subscriber.ensures.2.stepped other (of_another c.args.id other _ _ differ c.remove_subscriber.ensures.1)
