use Rattle.std.proofs.Common.{◌≡◌}
use Rattle.timerfd.proofs.Steps.{EndAlike, due_count}
use Rattle.timerfd.proofs.timer_table.TimerTable.set_time.Given as goal

-- once all have expired, they are what they are once those that were there at first have
abbrev pub invariant-loop-index : goal.invariant-loop-index
invariant-loop-index l = record {
  interests : l.self.interests ≡ l.initial.self.interests;
  told : EndAlike l.now l.self.told l.initial.self.told;
}

-- how many timers are due up to now
abbrev pub decreases-loop-index : goal.decreases-loop-index
decreases-loop-index l = due_count l.now l.self.told
