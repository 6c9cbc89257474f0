use Rattle.dispatch_tables.proofs.Ascending.{among_at}
use Rattle.dispatch_tables.proofs.cancelled.cancelled_at.Goals as goal

pub returns-clause-answer : goal.returns-clause-answer
returns-clause-answer c =
    let search = c.search-search in
    among_at c.args.list.now c.args.fd search.result.found search.result.at search.ensures.place
