use Rattle.device_loop.specs.declared.pause.SetFlag.{SetFlag}
use Rattle.device_loop.specs.Pauses.{IsSameButPaused}
use Rattle.event_manager.proofs.JobSteps.{done_and_asked}
use Rattle.device_loop.proofs.PausesOnly.{only_paused}
use Rattle.device_loop.proofs.pause.SetPausedJobDevice.call.Goals as goal

pub returns-in_err-branch-clause-stepped : goal.returns-in_err-branch-clause-stepped
returns-in_err-branch-clause-stepped g c = done_and_asked IsSameButPaused _ (λ (action : SetFlag) old told new did. only_paused action.0 old new did) _ _ _ _ _ c.call.ensures.stepped c.ask.ensures

pub returns-in_err-ask-clause-stepped : goal.returns-in_err-ask-clause-stepped
returns-in_err-ask-clause-stepped g c = done_and_asked IsSameButPaused _ (λ (action : SetFlag) old told new did. only_paused action.0 old new did) _ _ _ _ _ c.call.ensures.stepped c.ask.ensures

pub returns-clause-stepped : goal.returns-clause-stepped
returns-clause-stepped g c = done_and_asked IsSameButPaused _ (λ (action : SetFlag) old told new did. only_paused action.0 old new did) _ _ _ _ _ c.call.ensures.stepped c.ask.ensures
