-- What keeps owners and watch lists consistent.
use Rattle.std.proofs.Common.{◌≡◌, ℕ, ◌<◌, ◌^◌, sym, ap, subst, ◌∙◌, Option, Some, None, is_some, IsSome, arith, nat_cmp, cond, true, List}
use Rattle.std.proofs.lemmas.Bool.{false≢true}
use Rattle.std.specs.FinMap.{get, insert, remove, empty, len, get-empty}
use Rattle.event_loop.specs.Consistency.{AreConsistent, AreWatched, AreDescriptors}
use Rattle.event_loop.specs.Prelude.{is_id, Ownership, OwnerMap, owner_of}
use Rattle.event_loop.specs.Releasing.{AreWithout}
use Rattle.dispatch_tables.specs.Owners.{AreCounted}
use Rattle.dispatch_tables.specs.WatchLists.{times_in, times_watched, AreDistinct, HasOneMore, HasNone}
use Rattle.dispatch_tables.specs.declared.watch_lists.WatchLists.{WatchLists}
use Rattle.dispatch_tables.proofs.Counting.{held_one, one_fewer}
use Rattle.dispatch_tables.proofs.Owning.{owned_is_some, owner_id}
use Rattle.dispatch_tables.proofs.RaisedOwners.{none_counted}
use Rattle.event_loop.proofs.Watching.{watched_pushed, watched_removed, watched_taken, descriptors_pushed, descriptors_removed, descriptors_taken}

-- no registration
pub consistent_new : (lists : WatchLists) → ((i fd : ℕ) → times_watched lists i fd ≡ 0) → AreDistinct lists → AreConsistent empty 0 0 lists
consistent_new lists none distinct = record {
  are_descriptors = λ q some. absurd (false≢true (subst (λ (o : Option Ownership). IsSome o) (get-empty nat_cmp q) some));
  counted = none_counted;
  are_watched = λ i fd. none i fd ∙ ap (λ o. cond (is_id i (owner_id o)) 1 0) (sym (get-empty nat_cmp fd));
  distinct = distinct;
}

module _ (owner owners : OwnerMap) (owned raised : ℕ) (watched lists : WatchLists) (holds : AreConsistent owner owned raised watched) where
  -- a free descriptor gets an owner
  pub consistent_registered : (fd : ℕ) (one : Ownership) (n m : ℕ) → get owner fd ≡ None → fd < 2 ^ 31 → owners ≡ insert owner fd one → AreCounted (insert owner fd one) n m → AreDistinct lists → HasOneMore watched one.id fd lists → AreConsistent owners n m lists
  consistent_registered fd one n m free small is counted distinct has = record {
    are_descriptors = subst AreDescriptors (sym is) (descriptors_pushed owner fd one holds.are_descriptors small);
    counted = subst (λ o. AreCounted o n m) (sym is) counted;
    are_watched = subst (λ o. AreWatched o lists) (sym is) (watched_pushed owner watched lists fd holds.are_watched one free has);
    distinct = distinct;
  }

  module _ (fd id : ℕ) (held : owner_of owner fd ≡ Some id) (is : owners ≡ remove owner fd) where
    there : is_some (get owner fd) ≡ true
    there = owned_is_some (get owner fd) id held

    -- a descriptor loses its owner
    pub consistent_removed : (n m : ℕ) → AreCounted owners n m → AreDistinct lists → HasOneMore lists id fd watched → AreConsistent owners n m lists
    consistent_removed n m counted distinct has = record {
      are_descriptors = subst AreDescriptors (sym is) (descriptors_removed owner fd holds.are_descriptors);
      counted = counted;
      are_watched = subst (λ o. AreWatched o lists) (sym is) (watched_removed owner watched lists fd holds.are_watched id held has);
      distinct = distinct;
    }

    pub fewer_owners : len owners < len owner
    fewer_owners = omega (arith, held_one owner fd there, ap len is, one_fewer owner fd there)

  -- the descriptors of a whole list lose their owner
  pub consistent_taken : (id n m : ℕ) (fds : List ℕ) → ((fd : ℕ) → times_in fds fd ≡ times_watched watched id fd) → AreWithout fds owner owners → AreCounted owners n m → AreDistinct lists → HasNone watched id lists → AreConsistent owners n m lists
  consistent_taken id n m fds is gone counted distinct has = record {
    are_descriptors = descriptors_taken owner owners watched id holds.are_watched fds is gone holds.are_descriptors;
    counted = counted;
    are_watched = watched_taken owner owners watched id holds.are_watched fds is gone lists has;
    distinct = distinct;
  }
