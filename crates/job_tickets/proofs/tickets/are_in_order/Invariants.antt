use Rattle.std.proofs.Common.{◌≡◌, take}
use Rattle.job_tickets.specs.Weights.{one_to}
use Rattle.job_tickets.proofs.tickets.are_in_order.Given as goal

abbrev pub invariant-loop-i : goal.invariant-loop-i
invariant-loop-i g l = take l.i l.tickets.items ≡ one_to l.i
