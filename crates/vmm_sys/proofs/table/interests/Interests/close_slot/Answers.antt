use Rattle.vmm_sys.proofs.Prelude.{◌<◌, ◌≤◌, ◌*◌, ◌+◌, sym, subst, arith, length, rules, InterestsState}
use Rattle.vmm_sys.proofs.table.interests.Interests.close_slot.Goals as goal

pub overflow_add-after : goal.overflow_add-after
overflow_add-after c =
    let order = c.requires.order in
    let lt = subst (λ (s : InterestsState). c.args.slot < length s.slots) (sym c.self.view_is) c.requires.used in
    let used = c.self.invariant.1.used in
    let few = c.self.invariant.1.descriptors in
    let small : c.args.next + 1 ≤ 3 * 2147483648 = omega arith in
    search rules
