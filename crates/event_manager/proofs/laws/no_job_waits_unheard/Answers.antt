use Rattle.event_manager.proofs.HeardJobs.{steps_are_heard, send_is_steps}
use Rattle.event_manager.proofs.laws.no_job_waits_unheard.Goals as goal

pub returns-clause-kept : goal.returns-clause-kept
returns-clause-kept g c = steps_are_heard

pub returns-clause-sends : goal.returns-clause-sends
returns-clause-sends g c = send_is_steps
