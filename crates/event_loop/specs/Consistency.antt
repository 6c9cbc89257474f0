-- What holds of the owners and the watch lists together.
use Rattle.std.specs.Prelude.{◌≡◌, ℕ, ◌<◌, ◌^◌, if◌then◌else◌, IsSome}
use Rattle.std.specs.FinMap.{get}
use Rattle.dispatch_tables.specs.Ownership.{OwnerMap, owner_of}
use Rattle.dispatch_tables.specs.Owners.{AreCounted}
use Rattle.event_loop.specs.Registrations.{is_id}
use Rattle.dispatch_tables.specs.WatchLists.{times_watched, AreDistinct}
use Rattle.dispatch_tables.specs.declared.watch_lists.WatchLists.{WatchLists}

-- each owned descriptor is one from 0 up, as `i32` reads it
abbrev pub AreDescriptors : OwnerMap → Type 0
AreDescriptors owners = (q : ℕ) → IsSome (get owners q) → q < 2 ^ 31

-- each descriptor stands once in its owner's list, and in no other list
abbrev pub AreWatched : OwnerMap → WatchLists → Type 0
AreWatched owners watched = (i fd : ℕ) → times_watched watched i fd ≡ if is_id i (owner_of owners fd) then 1 else 0

-- `owned` counts the owners, `raised` those at a priority above the lowest
pub record AreConsistent (owners : OwnerMap) (owned raised : ℕ) (watched : WatchLists) : Type 0 where
  pub are_descriptors : AreDescriptors owners
  pub counted : AreCounted owners owned raised
  pub are_watched : AreWatched owners watched
  pub distinct : AreDistinct watched
