use Rattle.std.proofs.Common.{◌≡◌, ap, false}
use Rattle.event_manager.specs.declared.jobs.action.ActionOn.{ActionOn}
use Rattle.event_manager.proofs.Kept.{actions_go_on}
use Rattle.device_loop.specs.declared.api.ApiAction.{ApiAction}
use Rattle.device_loop.specs.Answers.{IsAnswer}
use Rattle.device_loop.specs.Pauses.{IsSameButPaused, with_flag}
use Rattle.device_loop.proofs.api.ApiRequestJobDevice.call.Goals as goal

pub returns-in_ok-call-in-Ask-clause-stepped : goal.returns-in_ok-call-in-Ask-clause-stepped
returns-in_ok-call-in-Ask-clause-stepped g c =
    let steps = c.call.ensures.stepped in
    (steps.0, actions_go_on IsSameButPaused _ (λ (job : ActionOn ApiAction). job.subscriber) (λ job. job.action) (λ (action : ApiAction) old reply new (did : IsAnswer action old reply × (new ≡ old)). ap (with_flag false) did.1) _ steps.0 _ steps.1, steps.2)
