use Rattle.std.proofs.Common.{true}
use Rattle.timerfd.specs.Timer.{expired}
use Rattle.timerfd.specs.Timers.{timer_at}
use Rattle.timerfd.proofs.Lines.{all_lines, tied_put, ready_once_expired, open_as_it_was}
use Rattle.timerfd.proofs.timer_table.TimerTable.expire_next.Goals as goal

pub set_ready-requires-clause-lines : goal.set_ready-requires-clause-lines
set_ready-requires-clause-lines c = all_lines c.self.inside.timers c.self.inside.table c.self.invariant

pub invariant_of-self-2 : goal.invariant_of-self-2
invariant_of-self-2 c =
    let timer = timer_at c.self.inside.timers.timers c.in_ok-index.index in
    let (within, due, expires) = c.in_ok-index.ensures in
    tied_put c.self.inside.timers c.self.inside.table c.self.invariant c.in_ok-index.index (expired c.args.now timer) true c.expire_next.new.self c.set_ready.new.table (open_as_it_was c.args.now timer) (λ there. ready_once_expired c.args.now timer due) expires c.set_ready.ensures
