use Rattle.std.proofs.Common.{arith}
use Rattle.dispatch_tables.proofs.WatchListLemmas.{not_listed}
use Rattle.dispatch_tables.proofs.watch_lists.take_out.Goals as goal

pub returns-in_err-index : goal.returns-in_err-index
returns-in_err-index c = λ q. absurd (omega (arith, c.requires, not_listed c.args.fds.now.items c.args.fd (rw c.deref.ensures.value at c.in_err-index.ensures)))
