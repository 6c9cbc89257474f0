use Rattle.channels.proofs.Rooms.{steps_miss_none}
use Rattle.channels.proofs.laws.no_room_is_missed.Goals as goal

pub returns-clause-kept : goal.returns-clause-kept
returns-clause-kept g c = steps_miss_none
