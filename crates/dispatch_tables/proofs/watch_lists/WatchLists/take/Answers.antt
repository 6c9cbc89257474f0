use Rattle.std.proofs.Common.{refl, sym, ap, ◌∙◌, cond, ◌==◌}
use Rattle.std.proofs.lemmas.List.Sorted.{sum_by-IsPermutation, IsNonDecreasingBy-from_sort}
use Rattle.dispatch_tables.specs.WatchLists.{times_in}
use Rattle.dispatch_tables.specs.declared.watch_lists.WatchList.{WatchList}
use Rattle.dispatch_tables.proofs.WatchListLemmas.{read_list, only_list, none_listed, none_of_none, times_none}
use Rattle.dispatch_tables.proofs.watch_lists.WatchLists.take.Goals as goal

pub returns-in-Some-clause-value : goal.returns-in-Some-clause-value
returns-in-Some-clause-value c = λ fd.
    let lists = c.args.self.now.lists.items in
    let now = c.index_mut.result.now in
    sum_by-IsPermutation (λ x. cond (x == fd) 1 0) c.replace-fds.result.items c.sort_unstable.new.self.items c.sort_unstable.ensures.permutation
    ∙ ap (λ l. times_in l fd) (ap (λ v. v.items) c.replace-fds.ensures.value)
    ∙ ap (λ (l : WatchList). times_in l.fds.items fd) c.index_mut.ensures.value
    ∙ sym (only_list lists c.args.id fd c.in-Some.place now c.requires.apart c.in-Some.ensures)

pub returns-in-Some-clause-taken : goal.returns-in-Some-clause-taken
returns-in-Some-clause-taken c =
    let lists = c.args.self.now.lists.items in
    let now = c.index_mut.result.now in
    let after : WatchList = record { id = now.id; fds = c.replace-fds.new.dest } in
    let is = c.in-Some.ensures in
    let was = read_list lists c.in-Some.place now now is.0 c.index_mut.ensures.value in
    times_none lists _ c.args.id c.in-Some.place is after refl (ap (λ (l : WatchList). l.id) (sym was) ∙ is.1 now) c.requires.apart (ap (λ v. v.items) c.replace-fds.ensures.after ∙ c.new.ensures.items)

pub returns-in-None-clause-value : goal.returns-in-None-clause-value
returns-in-None-clause-value c = λ fd. ap (λ l. times_in l fd) c.new-in-None.ensures.items ∙ sym (none_listed _ c.args.id fd c.in-None.ensures)

pub returns-in-None-clause-taken : goal.returns-in-None-clause-taken
returns-in-None-clause-taken c = none_of_none _ c.args.id c.in-None.ensures

pub returns-in-Some-clause-ascending : goal.returns-in-Some-clause-ascending
returns-in-Some-clause-ascending c = IsNonDecreasingBy-from_sort (λ x. x) c.sort_unstable.new.self.items c.sort_unstable.ensures.sorted
