use Rattle.std.proofs.Common.{◌≡◌, ◌+◌, ◌^◌, vec_len}
use Rattle.job_tickets.specs.Weights.{weigh}
use Rattle.job_tickets.proofs.tickets.put_together.Given as goal

abbrev pub invariant-loop-ticket : goal.invariant-loop-ticket
invariant-loop-ticket g l = (l.rest.parts + vec_len l.tickets ≡ 2 ^ 63) × (l.rest.amount + weigh l.tickets.items ≡ weigh l.initial.tickets.items) × (l.book.total ≡ l.initial.book.total)

abbrev pub decreases-loop-ticket : goal.decreases-loop-ticket
decreases-loop-ticket g l = goal.left-loop-ticket g l
