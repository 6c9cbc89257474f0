use Rattle.vmm_sys.proofs.Prelude.{◌≡◌, ◌∙◌, sym, Some, slot_at}
use Rattle.vmm_sys.specs.Table.{is_ready}
use Rattle.vmm_sys.proofs.SlotMarks.{fit-renew, fit-none}
use Rattle.vmm_sys.proofs.table.readiness.renew.Goals as goal

pub returns-in_default-clause-marks : goal.returns-in_default-clause-marks
returns-in_default-clause-marks c = λ p h e. fit-none c.args.descriptor p (is_ready c.args.sources.now) c.args.interests.now.marks c.args.interests.now.slots h e c.in_default.ensures

pub returns-clause-marks : goal.returns-clause-marks
returns-clause-marks c = λ p h e.
    let old = c.args.interests.now in
    let i = c.in-Some-interest_in.interest in
    let at : slot_at old.slots c.in-Some.slot ≡ Some i = sym c.interest_in.ensures ∙ c.in-Some-interest_in.is in
    rw (c.mark.ensures.marked, c.is_ready.ensures) (fit-renew c.args.descriptor c.in-Some.slot i p (is_ready c.args.sources.now) old.marks old.slots h e c.in-Some.ensures at c.mark.ensures.within)
