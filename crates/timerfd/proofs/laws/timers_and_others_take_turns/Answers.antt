use Rattle.timerfd.proofs.Turns.{one_asks_below, timers_come_first}
use Rattle.timerfd.proofs.laws.timers_and_others_take_turns.Goals as goal

pub returns-clause-others : goal.returns-clause-others
returns-clause-others g c = one_asks_below g.P.Poller.may_wait

pub returns-clause-timers : goal.returns-clause-timers
returns-clause-timers g c = timers_come_first g.P.Poller.may_wait
