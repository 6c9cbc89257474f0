use Rattle.vmm_sys.proofs.Prelude.{◌≡◌, ◌<◌, ◌∙◌, ◌++◌, ◌∷◌, [], ap, arith, length, Some, rules, InterestsState}
use Rattle.vmm_sys.proofs.Held.{held-append}
use Rattle.vmm_sys.proofs.Slots.{none-kept}
use Rattle.vmm_sys.proofs.SlotMarks.{fit-push}
use Rattle.vmm_sys.proofs.table.interests.Interests.push_back.Goals as goal

pub put_last-requires-clause-absent : goal.put_last-requires-clause-absent
put_last-requires-clause-absent c = none-kept c.args.self.now.slots c.leave_unused.new.self.slots c.args.interest.descriptor c.leave_unused.ensures.list c.requires.absent

pub returns-clause-list : goal.returns-clause-list
returns-clause-list c =
    let i = c.args.interest in
    rw (c.mark.ensures.marked, c.put_last.ensures) (held-append c.leave_unused.new.self.slots (Some i ∷ []) ∙ ap (λ l. l ++ i ∷ []) c.leave_unused.ensures.list)

pub returns-clause-marks : goal.returns-clause-marks
returns-clause-marks c = λ p h e.
    let fit = c.leave_unused.ensures.marks p h in
    let same = ap (λ (s : InterestsState). length s.marks) c.put_last.ensures in
    let slot : c.len-slot.result ≡ length c.leave_unused.new.self.slots = search rules in
    let within : length c.leave_unused.new.self.slots < length c.leave_unused.new.self.marks = (let w = c.mark.ensures.within in omega arith) in
    rw (c.mark.ensures.marked, c.put_last.ensures, slot) (fit-push p c.leave_unused.new.self.marks c.leave_unused.new.self.slots c.args.interest c.args.ready fit within e)
