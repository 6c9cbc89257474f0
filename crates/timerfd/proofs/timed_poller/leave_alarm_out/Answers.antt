use Rattle.std.proofs.Common.{◌∙◌, ◌<◌, sym, arith, get_or, length}
use Rattle.std.proofs.lemmas.Bool.{eq-eqb, ne_eqb}
use Rattle.vmm_sys.specs.declared.entries.EpollEvent.{EpollEvent}
use Rattle.vmm_sys.specs.EventSet.{with_bits}
use Rattle.vmm_sys.specs.EpollEvent.{event, word_of}
use Rattle.timerfd.proofs.Others.{passed_other, passed_alarm}
use Rattle.timerfd.proofs.timed_poller.leave_alarm_out.Goals.{then-data, else-data}
use Rattle.timerfd.proofs.timed_poller.leave_alarm_out.Goals as goal

pub loop-at-preserved : goal.loop-at-preserved
loop-at-preserved c =
    let within : c.loop-at.at < length c.args.buffer.now = omega (arith, c.loop-at-test.true, c.requires) in
    let none : EpollEvent = event (with_bits 0) 0 in
    let entry = get_or c.loop-at.buffer c.loop-at.at none in
    elim c.if-data.branch [
      | then-data w ↦
          rw (w.buffer-is, w.kept-is) (passed_other c.args.buffer.now c.loop-at.buffer c.loop-at.at c.loop-at.kept c.loop-at.invariant within none
          (ne_eqb (word_of entry) 18446744073709551615 (λ is. w.if-data.true (c.data.ensures ∙ is))))
      | else-data w ↦
          rw (w.buffer-is, w.kept-is) (passed_alarm c.args.buffer.now c.loop-at.buffer c.loop-at.at c.loop-at.kept c.loop-at.invariant within none
          (eq-eqb (word_of entry) 18446744073709551615 (sym c.data.ensures ∙ w.if-data.false)))
    ]
