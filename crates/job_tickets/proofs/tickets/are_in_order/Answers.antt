use Rattle.std.proofs.Common.{arith, vec_len}
use Rattle.std.proofs.lemmas.Grind.{get_or_default_zero}
use Rattle.job_tickets.proofs.Weighing.{not_in_order}
use Rattle.job_tickets.proofs.tickets.are_in_order.Goals as goal

pub returns-then-number-i : goal.returns-then-number-i
returns-then-number-i g c =
    let one = get_or_default_zero c.args.tickets.now.items c.loop-i.i c.index.result.now (omega arith) in
    let apart = not_in_order c.args.tickets.now.items (vec_len c.args.tickets.now) c.loop-i.i (omega arith) (λ is. c.if-number-i.true (omega arith)) in
    (λ no. cc, λ all. absurd (apart all))
