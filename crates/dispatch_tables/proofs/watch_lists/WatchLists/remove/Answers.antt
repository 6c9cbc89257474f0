use Rattle.std.proofs.Common.{arith}
use Rattle.dispatch_tables.proofs.WatchListLemmas.{only_list, none_listed}
use Rattle.dispatch_tables.proofs.watch_lists.WatchLists.remove.Goals as goal

pub take_at-requires-clause-listed : goal.take_at-requires-clause-listed
take_at-requires-clause-listed c = λ d. omega (arith, c.requires.listed, only_list c.args.self.now.lists.items c.args.id c.args.fd c.in-Some.place d c.requires.distinct.apart c.in-Some.ensures)

pub returns-in-None-clause-removed : goal.returns-in-None-clause-removed
returns-in-None-clause-removed c = absurd (omega (arith, c.requires.listed, none_listed c.args.self.now.lists.items c.args.id c.args.fd c.in-None.ensures))
