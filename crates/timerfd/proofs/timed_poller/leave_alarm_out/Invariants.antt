use Rattle.timerfd.proofs.Others.{Passed}
use Rattle.timerfd.proofs.timed_poller.leave_alarm_out.Given as goal

abbrev pub invariant-loop-at : goal.invariant-loop-at
invariant-loop-at l = Passed l.initial.buffer l.buffer l.at l.kept
