use Rattle.std.proofs.Common.{arith, ◌≡◌, ◌∙◌, ap, vec_len}
use Rattle.job_tickets.specs.Weights.{one_to, weight_to}
use Rattle.job_tickets.proofs.Weighing.{in_place}
use Rattle.job_tickets.proofs.tickets.Register.gather.Goals as goal

pub unreachable-requires : goal.unreachable-requires
unreachable-requires g c =
    let n = vec_len c.sort.new.tickets in
    let issued : c.self.inside.issued ≡ n = omega arith in
    let same = c.put_together.ensures ∙ c.self.invariant.2 ∙ ap weight_to issued in
    let all : c.sort.new.tickets.items ≡ one_to n = in_place c.sort.new.tickets.items n (omega arith) (omega arith) c.sort.ensures.order same in
    let told = c.if-not-are_in_order.ensures.1 all in
    cc
