use Rattle.std.proofs.Common.{◌≡◌, ◌==◌, ◌∙◌, ap, sym, refl, true, eq-eqb}
use Rattle.event_manager.specs.declared.jobs.action.ActionOn.{ActionOn}
use Rattle.event_manager.specs.Wants.{by_test}
use Rattle.event_manager.proofs.Apart.{actions_within, ran_within}
use Rattle.drive_tests.specs.declared.apart.Device.{Device}
use Rattle.drive_tests.specs.declared.apart.Pause.{Pause}
use Rattle.drive_tests.specs.Devices.{is_own}
use Rattle.drive_tests.proofs.apart.run_within.Goals as goal

-- the descriptor of the one device is that of the other
same_own : (v w : Device) (fd : _) → w.own.fd ≡ v.own.fd → (fd == w.own.fd) ≡ true → (fd == v.own.fd) ≡ true
same_own v w fd same want = ap (λ own. fd == own) (sym same) ∙ want

pub returns : goal.returns
returns g c = λ claims within.
    let paused = actions_within (by_test is_own) (by_test claims) _ (λ (job : ActionOn Pause). job.subscriber) (λ job. job.action) (λ action old reply new did fd want. same_own old new fd (ap (λ (d : Device). d.own.fd) did) want) in
    let ran = ran_within (by_test is_own) (by_test claims) _ _ paused c.run_with_timeout.ensures in
    c.wants_keep_apart.ensures.kept is_own claims _ ran.history _ (record {
      is_history = ran.is_history;
      begins_within = λ v exchanges w begun. (λ fd want. same_own v w fd (ap (λ (d : Device). d.own.fd) begun.1) want, rw begun.0.1 (eq-eqb v.own.fd v.own.fd refl, tt));
      serves_within = λ v event exchanges w served. (λ fd want. same_own v w fd (ap (λ (d : Device). d.own.fd) served.1) want, rw served.0 (tt, (eq-eqb v.own.fd v.own.fd refl, tt)));
      starts = within;
      turns = ran.turns;
    })
