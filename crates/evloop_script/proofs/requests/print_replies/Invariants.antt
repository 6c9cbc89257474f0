use Rattle.std.proofs.Common.{ℕ, List, Option, length, drop}
use Rattle.std.specs.List.{zip}
use Rattle.evloop_script.specs.Printed.{written_by, PrintsReplies}
use Rattle.evloop_script.proofs.requests.print_replies.Given as goal

-- with the replies that are left, all are printed
abbrev pub invariant-loop-request : goal.invariant-loop-request
invariant-loop-request g l =
    (after : Option (List ℕ)) → PrintsReplies (written_by g.O.Write.contents l.printer) l.name (drop (length l.yielded) (zip l.requests l.answers)) after
    → PrintsReplies (written_by g.O.Write.contents l.fn.printer) l.name (zip l.requests l.answers) after
