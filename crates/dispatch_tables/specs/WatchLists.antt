-- Which descriptors each id watches, as the code keeps them beside the owners.
use Rattle.std.specs.Prelude.{◌≡◌, ◌≢◌, ℕ, ◌+◌, ◌==◌, ◌<◌, ◌≤◌, if◌then◌else◌, length, slice_index_or, slice_set, List, All, AllPairs, count_by, sum_by}
use Rattle.dispatch_tables.specs.declared.watch_lists.WatchList.{WatchList}
use Rattle.dispatch_tables.specs.declared.watch_lists.WatchLists.{WatchLists}

-- how often a descriptor stands in a list; in the list of id i
abbrev pub times_in : List ℕ → ℕ → ℕ
times_in fds fd = count_by (λ x. x == fd) fds

abbrev pub times_among : List WatchList → ℕ → ℕ → ℕ
times_among lists i fd = sum_by (λ list. if list.id == i then times_in list.fds.items fd else 0) lists

abbrev pub times_watched : WatchLists → ℕ → ℕ → ℕ
times_watched watched i fd = times_among watched.lists.items i fd

-- the list at this place is that of id i; no list is
abbrev pub IsListOf : List WatchList → ℕ → ℕ → Type 0
IsListOf lists i place = (place < length lists) × ((d : WatchList) → (slice_index_or lists place d).id ≡ i)

abbrev pub LacksList : List WatchList → ℕ → Type 0
LacksList lists i = All (λ list. list.id ≢ i) lists

-- no two lists are of one id; none is of a later one than this
abbrev pub AreApart : List WatchList → Type 0
AreApart lists = AllPairs (λ a b. a.id ≢ b.id) lists

abbrev pub AreUpTo : ℕ → List WatchList → Type 0
AreUpTo newest lists = All (λ list. list.id ≤ newest) lists

pub record AreDistinct (watched : WatchLists) : Type 0 where
  pub apart : AreApart watched.lists.items
  pub up_to_newest : AreUpTo watched.newest watched.lists.items

-- the descriptor stands once more in the list, and the others as often as before
abbrev pub IsOneMore : List ℕ → ℕ → List ℕ → Type 0
IsOneMore before fd after = (q : ℕ) → times_in after q ≡ times_in before q + (if fd == q then 1 else 0)

-- the list at a place has changed so, and no other
abbrev pub HasChangedAt : ℕ → (List ℕ → List ℕ → Type 0) → List WatchList → List WatchList → Type 0
HasChangedAt place changes before after =
    (list : WatchList) × (after ≡ slice_set before place list) × (list.id ≡ (slice_index_or before place list).id) × changes (slice_index_or before place list).fds.items list.fds.items

-- the descriptor stands once more in the list of id i, and all else as often as before
abbrev pub HasOneMore : WatchLists → ℕ → ℕ → WatchLists → Type 0
HasOneMore before i fd after = (j q : ℕ) → times_watched after j q ≡ times_watched before j q + (if j == i then (if fd == q then 1 else 0) else 0)

-- nothing stands in the list of id i, and all else as often as before
abbrev pub HasNone : WatchLists → ℕ → WatchLists → Type 0
HasNone before i after = (j q : ℕ) → times_watched after j q ≡ if j == i then 0 else times_watched before j q

-- each list has what it had
abbrev pub HasSameLists : WatchLists → WatchLists → Type 0
HasSameLists before after = (j q : ℕ) → times_watched after j q ≡ times_watched before j q
