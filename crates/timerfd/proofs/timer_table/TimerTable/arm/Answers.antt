use Rattle.std.proofs.Common.{false}
use Rattle.timerfd.specs.Timer.{armed}
use Rattle.timerfd.specs.Timers.{timer_at}
use Rattle.timerfd.proofs.Lines.{all_lines, armed_anew, tied_put}
use Rattle.timerfd.proofs.timer_table.TimerTable.arm.Goals as goal

pub set_ready-requires-clause-lines : goal.set_ready-requires-clause-lines
set_ready-requires-clause-lines c = all_lines c.self.inside.timers c.self.inside.table c.self.invariant

pub invariant_of-self : goal.invariant_of-self
invariant_of-self c =
    let t = timer_at c.self.inside.timers.timers c.args.index in
    let (same, none) = armed_anew c.args.due c.args.interval t in
    tied_put c.self.inside.timers c.self.inside.table c.self.invariant c.args.index (armed c.args.due c.args.interval t) false c.arm.new.self c.set_ready.new.table same none c.arm.ensures c.set_ready.ensures
