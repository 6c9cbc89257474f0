use Rattle.std.proofs.Common.{refl, sym, ap, ◌∙◌}
use Rattle.dispatch_tables.specs.WatchLists.{times_in}
use Rattle.dispatch_tables.specs.declared.watch_lists.WatchList.{WatchList}
use Rattle.dispatch_tables.proofs.WatchListLemmas.{read_list}
use Rattle.dispatch_tables.proofs.watch_lists.take_at.Goals as goal

pub returns : goal.returns
returns c =
    let now = c.index_mut.result.now in
    let after : WatchList = record { id = now.id; fds = c.take_out.new.fds } in
    let was = read_list c.args.lists.now.items c.args.place now after c.requires.within c.index_mut.ensures.value in
    (after, refl, ap (λ (l : WatchList). l.id) (sym was), λ q. ap (λ (l : WatchList). times_in l.fds.items q) was ∙ c.take_out.ensures q)
