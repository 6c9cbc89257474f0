use Rattle.channels.proofs.Order.{steps_keep_order}
use Rattle.channels.proofs.laws.messages_come_in_order.Goals as goal

pub returns-clause-kept : goal.returns-clause-kept
returns-clause-kept g c = steps_keep_order
