use Rattle.std.proofs.Common.{sym, ap, subst, ◌∙◌, if◌then◌else◌, insert}
use Rattle.dispatch_tables.specs.Cancelled.{IsAscending, IsPlaceOf, HasEntered}
use Rattle.dispatch_tables.proofs.Ascending.{entered, still_ascending}
use Rattle.dispatch_tables.proofs.cancelled.enter.Goals as goal

pub returns-clause-ascending : goal.returns-clause-ascending
returns-clause-ascending c =
    let list = c.args.list.now.items in
    let at = c.search-search.result.at in
    let found = rw (c.deref.ensures.value) at c.search-search.ensures.place in
    let place = subst (λ b. IsPlaceOf list c.args.fd b at) c.if-search.false found in
    let items = c.insert.ensures.items ∙ ap (λ b. if b then insert list at c.args.fd else list) (c.insert.ensures.succeeds c.requires.room) in
    subst (λ l. IsAscending l) (sym items) (still_ascending list c.args.fd at place c.requires.ascending)

pub returns-clause-entered : goal.returns-clause-entered
returns-clause-entered c =
    let list = c.args.list.now.items in
    let at = c.search-search.result.at in
    let found = rw (c.deref.ensures.value) at c.search-search.ensures.place in
    let place = subst (λ b. IsPlaceOf list c.args.fd b at) c.if-search.false found in
    let items = c.insert.ensures.items ∙ ap (λ b. if b then insert list at c.args.fd else list) (c.insert.ensures.succeeds c.requires.room) in
    subst (λ l. HasEntered list c.args.fd l) (sym items) (entered list c.args.fd at place)
