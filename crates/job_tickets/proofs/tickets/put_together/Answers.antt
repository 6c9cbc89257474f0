use Rattle.std.proofs.Common.{arith, ◌∷◌, [], ap}
use Rattle.job_tickets.specs.Weights.{weigh, weight}
use Rattle.job_tickets.proofs.Weighing.{weigh-append}
use Rattle.job_tickets.proofs.tickets.put_together.Goals as goal

pub loop-ticket-preserved : goal.loop-ticket-preserved
loop-ticket-preserved g c =
    let is = c.in-Some.ensures in
    let more = weigh-append c.pop.new.self.items (c.in-Some.ticket ∷ []) in
    let was = ap weigh is.items in
    let number = ap weight c.ticket.view_is in
    (omega (arith, is.len), omega arith, omega arith)
