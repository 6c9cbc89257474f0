use Rattle.std.proofs.Common.{◌≡◌, ◌∙◌, ap, if◌then◌else◌}
use Rattle.std.proofs.lemmas.Int.{to_z-of_z}
use Rattle.vmm_sys.specs.EventSet.{with_bits}
use Rattle.timerfd.proofs.Lines.{line_set}
use Rattle.timerfd.proofs.timer_table.set_ready.Goals as goal
use Rattle.timerfd.proofs.timer_table.set_ready.Goals.{then-ready, else-ready}

pub returns-in-Ok : goal.returns-in-Ok
returns-in-Ok c =
    let fits = c.in-Ok.ensures.0 in
    let set : c.if-ready.set ≡ with_bits (if c.args.ready then 0x1 else 0) = elim c.if-ready.branch [
      | then-ready w ↦ rw w.if-ready.true w.set-is
      | else-ready w ↦ rw w.if-ready.false (w.set-is ∙ ap with_bits w.empty-set.ensures)
    ] in
    rw (← set) (line_set c.args.table.now c.args.index c.if-ready.set c.set_line.result c.set_line.new.self c.requires.lines (rw (c.in-Ok.ensures.1, to_z-of_z _ _ fits) at c.set_line.ensures.answer))
