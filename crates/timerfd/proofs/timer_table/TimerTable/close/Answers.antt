use Rattle.std.proofs.lemmas.Int.{to_z-of_z}
use Rattle.std.proofs.Common.{refl}
use Rattle.vmm_sys.specs.declared.table.source.Source.TheVariants.{Closed}
use Rattle.timerfd.specs.Timer.{closed}
use Rattle.timerfd.proofs.Lines.{line_closed, tied_set}
use Rattle.timerfd.proofs.timer_table.TimerTable.close.Goals as goal

pub invariant_of-self-2 : goal.invariant_of-self-2
invariant_of-self-2 c =
    let table = c.self.inside.table in
    let answer = rw (c.in-Ok.ensures.1, to_z-of_z _ _ c.in-Ok.ensures.0) at c.close.ensures.answer in
    let lines = line_closed table c.close.new.self c.args.index c.close.result answer c.in_ok-close-in-Ok.was in
    tied_set c.self.inside.timers table c.self.invariant c.args.index closed Closed c.close-2.new.self c.close.new.self refl c.close-2.ensures lines
