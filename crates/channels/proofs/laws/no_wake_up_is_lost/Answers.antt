use Rattle.channels.proofs.WakeUps.{steps_lose_none}
use Rattle.channels.proofs.laws.no_wake_up_is_lost.Goals as goal

pub returns-clause-kept : goal.returns-clause-kept
returns-clause-kept g c = steps_lose_none
