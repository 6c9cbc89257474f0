use Rattle.timerfd.proofs.Due.{first_due}
use Rattle.timerfd.proofs.timers.Timers.next_due.Goals as goal

pub returns : goal.returns
returns c = rw (← c.self.view_is) (first_due c.self.inside.dues c.self.inside.timers.items c.first.result c.self.invariant.1 c.first.ensures)
