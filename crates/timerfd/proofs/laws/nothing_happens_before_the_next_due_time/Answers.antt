use Rattle.timerfd.proofs.Due.{before_first}
use Rattle.timerfd.proofs.laws.nothing_happens_before_the_next_due_time.Goals as goal

pub returns : goal.returns
returns c = before_first
