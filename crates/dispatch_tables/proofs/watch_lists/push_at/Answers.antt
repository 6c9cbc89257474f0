use Rattle.std.proofs.Common.{◌≡◌, refl, sym, ap, ◌∙◌, cond, ◌==◌, ◌+◌, set, rules}
use Rattle.std.proofs.lemmas.List.Sums.{sum_by_push}
use Rattle.dispatch_tables.specs.WatchLists.{times_in, HasChangedAt}
use Rattle.dispatch_tables.specs.declared.watch_lists.WatchList.{WatchList}
use Rattle.dispatch_tables.proofs.WatchListLemmas.{read_list}
use Rattle.dispatch_tables.proofs.watch_lists.push_at.Goals as goal

pub returns-in_err-push-clause-err : goal.returns-in_err-push-clause-err
returns-in_err-push-clause-err c =
    let now = c.index_mut.result.now in
    let after : WatchList = record { id = now.id; fds = c.push.new.self } in
    let was = read_list c.args.lists.now.items c.args.place now after c.requires c.index_mut.ensures.value in
    let same : HasChangedAt c.args.place (λ before after. after ≡ before) c.args.lists.now.items (set c.args.lists.now.items c.args.place after) =
    (after, refl, ap (λ (l : WatchList). l.id) (sym was), c.in_err-push.ensures.items ∙ ap (λ (l : WatchList). l.fds.items) (sym was)) in
    search (rules, same)

pub returns-clause-ok : goal.returns-clause-ok
returns-clause-ok c =
    let now = c.index_mut.result.now in
    let after : WatchList = record { id = now.id; fds = c.push.new.self } in
    let was = read_list c.args.lists.now.items c.args.place now after c.requires c.index_mut.ensures.value in (
      after,
      refl,
      ap (λ (l : WatchList). l.id) (sym was),
      λ q.
          ap (λ l. times_in l q) c.in_ok-push.ensures.items
          ∙ sum_by_push (λ x. cond (x == q) 1 0) now.fds.items c.args.fd
          ∙ ap (λ (l : WatchList). times_in l.fds.items q + cond (c.args.fd == q) 1 0) (sym was),
    )
