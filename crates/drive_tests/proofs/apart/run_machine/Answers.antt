use Rattle.std.proofs.Common.{ℕ, List, [], ◌∷◌, refl, ap, ◌∙◌, inl, inr, Ok}
use Rattle.event_manager.specs.declared.jobs.action.ActionOn.{ActionOn}
use Rattle.event_manager.specs.Wants.{claimed_by}
use Rattle.event_manager.proofs.Apart.{joined_disjoint, new_within, actions_within, then_within, joined_within, ran_within, all_as_if_alone}
use Rattle.drive_tests.specs.declared.apart.Device.{Device}
use Rattle.drive_tests.specs.declared.apart.Pause.{Pause}
use Rattle.drive_tests.specs.Devices.{wants}
use Rattle.drive_tests.proofs.apart.run_machine.Goals as goal

pub returns : goal.returns
returns g c =
    let m = c.args.machine in
    let joined : List (ℕ × Device) = (c.in_ok-add_subscriber.field-0, m.disk) ∷ (c.in_ok-add_subscriber-2.field-0, m.network) ∷ (c.in_ok-add_subscriber-3.field-0, m.console) ∷ (c.in_ok-add_subscriber-4.field-0, m.timer) ∷ [] in
    let claims = claimed_by wants joined in
    let paused = actions_within wants claims _ (λ (job : ActionOn Pause). job.subscriber) (λ job. job.action) (λ action old reply new did fd want. want ∙ ap (λ (d : Device). d.own.fd) did) in
    let gets =
    then_within wants claims _ _ (joined_within wants claims _ _ m.disk (Ok _) (λ fd want. inl (refl, want)) (c.in_ok-add_subscriber.ensures))
    (then_within wants claims _ _ (joined_within wants claims _ _ m.network (Ok _) (λ fd want. inr (inl (refl, want))) (c.in_ok-add_subscriber-2.ensures))
    (then_within wants claims _ _ (joined_within wants claims _ _ m.console (Ok _) (λ fd want. inr (inr (inl (refl, want)))) (c.in_ok-add_subscriber-3.ensures))
    (then_within wants claims _ _ (joined_within wants claims _ _ m.timer (Ok _) (λ fd want. inr (inr (inr (inl (refl, want))))) (c.in_ok-add_subscriber-4.ensures))
    (ran_within wants claims _ _ paused c.run_with_timeout.ensures))))
    in
    all_as_if_alone wants claims _ _
    (λ v exchanges w begun. (λ fd want. want ∙ ap (λ (d : Device). d.own.fd) begun.1, rw begun.0.1 (refl, tt)))
    (λ v event exchanges w served. (λ fd want. want ∙ ap (λ (d : Device). d.own.fd) served.1, rw served.0 (tt, (refl, tt))))
    (joined_disjoint wants joined c.requires.apart) (new_within wants claims c.requires.new.0 c.requires.new.1) gets
