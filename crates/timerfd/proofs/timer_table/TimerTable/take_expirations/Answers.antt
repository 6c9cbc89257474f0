use Rattle.std.proofs.Common.{refl, false}
use Rattle.timerfd.specs.Timers.{timer_at}
use Rattle.timerfd.proofs.Lines.{all_lines, tied_put}
use Rattle.timerfd.proofs.timer_table.TimerTable.take_expirations.Goals as goal

pub set_ready-requires-clause-lines : goal.set_ready-requires-clause-lines
set_ready-requires-clause-lines c = all_lines c.self.inside.timers c.self.inside.table c.self.invariant

pub invariant_of-self : goal.invariant_of-self
invariant_of-self c = tied_put c.self.inside.timers c.self.inside.table c.self.invariant c.args.index (record (timer_at c.self.inside.timers.timers c.args.index) { expirations = 0 }) false c.take_expirations-expirations.new.self c.set_ready.new.table refl (λ there. refl) c.take_expirations-expirations.ensures.timers c.set_ready.ensures
