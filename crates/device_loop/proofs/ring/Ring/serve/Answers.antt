use Rattle.std.proofs.Common.{rules, ◌≡◌, ◌+◌, ◌-◌, ◌≤◌, length, arith, length-take}
use Rattle.std.proofs.lemmas.Grind.{common_steps}
use Rattle.device_loop.proofs.Prefix.{prefix_stays}
use Rattle.device_loop.proofs.ring.Ring.serve.Goals as goal

-- src/ring.rt:91:9
pub invariant_of-self-2-clause-in_order : goal.invariant_of-self-2-clause-in_order
invariant_of-self-2-clause-in_order g c =
    let at : c.len-first.result ≡ length c.args.self.now.used.items = search rules in
    let fits : c.len-first.result + c.min-count.result ≤ length c.args.self.now.available.items = grind (arith, common_steps, length-take, c.args.self.now.in_order) in
    prefix_stays _ _ _ _ _ _ _ c.extend_from_slice.ensures.items c.deref.ensures.value c.args.self.now.in_order at (omega arith) fits
