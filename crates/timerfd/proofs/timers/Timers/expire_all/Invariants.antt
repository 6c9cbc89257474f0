use Rattle.timerfd.proofs.Steps.{EndAlike, due_count}
use Rattle.timerfd.proofs.timers.Timers.expire_all.Given as goal

-- once all have expired, they are what they are once those that were there at first have
abbrev pub invariant-loop-index : goal.invariant-loop-index
invariant-loop-index l = EndAlike l.now l.self l.initial.self

-- how many timers are due up to now
abbrev pub decreases-loop-index : goal.decreases-loop-index
decreases-loop-index l = due_count l.now l.self
