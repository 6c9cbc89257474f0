-- The in-process table: what it holds, and what each call answers and leaves.
use Rattle.std.specs.Prelude.{ℕ, ℤ, pos, negsuc, ◌+◌, ◌≤◌, ◌≡◌, ◌⊎◌, Bool, true, false, not, ◌==◌, nat_lt, nat_le, if◌then◌else◌, List, [], ◌∷◌, ◌++◌, length, map, filter, take, drop, remove, slice_get, slice_set, position, Option, Some, None, Result, Ok, Err, IsOk}
use Rattle.std.specs.Int.RustNames.{bit_and, bit_or}
use Rattle.std.specs.List.{All, count_by}
use Rattle.vmm_sys.specs.declared.entries.EpollEvent.{EpollEvent}
use Rattle.vmm_sys.specs.declared.entries.ControlOperation.{ControlOperation}
use Rattle.vmm_sys.specs.declared.entries.ControlOperation.TheVariants.{Add, Modify, Delete}
use Rattle.vmm_sys.specs.declared.event_set.EventSet.{EventSet}
use Rattle.vmm_sys.specs.declared.errno.Errno.{Errno}
use Rattle.vmm_sys.specs.declared.errno.TheConstants.Errno.{EBADF, EINVAL, EEXIST, ENOENT, EAGAIN, EMFILE, ENOMEM}
use Rattle.vmm_sys.specs.declared.table.source.Source.{Source}
use Rattle.vmm_sys.specs.declared.table.source.Source.TheVariants.{Counter, Line, Closed}
use Rattle.vmm_sys.specs.declared.table.interests.Interest.{Interest}
use Rattle.vmm_sys.specs.EventSet.{bits_of, with_bits}
use Rattle.vmm_sys.specs.EpollEvent.{event, set_of, word_of}
use Rattle.vmm_sys.specs.Lists.{without_first}

-- what the descriptors stand for, by their numbers, closed ones too; the interests, in the order in which a wait looks at them; how many descriptors may be open
pub record TableState : Type 0 where
  pub sources : List Source
  pub interests : List Interest
  pub limit : ℕ

-- the table before any call; its descriptors may be 0 to 2147483647
abbrev pub new_table : TableState
new_table = record { sources = []; interests = []; limit = 2147483648 }

-- a source of a number that was closed
abbrev pub is_closed : Source → Bool
is_closed (Counter value) = false
is_closed (Line set) = false
is_closed Closed = true

-- whether what is found at a number is open: it was opened, and not closed since
abbrev pub is_open : Option Source → Bool
is_open None = false
is_open (Some s) = not (is_closed s)

-- descriptor n is open
abbrev pub IsOpen : List Source → ℕ → Type 0
IsOpen sources n = is_open (slice_get sources n) ≡ true

-- What an interest reports

-- the state of a source: a counter has IN above 0 and OUT below its highest value, 18446744073709551614; a line has what was set; what is closed has nothing
abbrev pub state_of : Source → ℕ
state_of (Counter value) = bit_or (if nat_lt 0 value then 0x1 else 0) (if nat_lt value 18446744073709551614 then 0x4 else 0)
state_of (Line set) = bits_of set
state_of Closed = 0

-- a number that was never opened has the empty state
abbrev pub state_at : Option Source → ℕ
state_at None = 0
state_at (Some s) = state_of s

-- what is wanted, ERROR (0x8) or HANG_UP (0x10), as far as the source has it
abbrev pub ready_bits : List Source → Interest → ℕ
ready_bits sources i = bit_and (bit_or (bits_of (set_of i.event)) 0x18) (state_at (slice_get sources i.descriptor))

abbrev pub is_ready : List Source → Interest → Bool
is_ready sources i = not (ready_bits sources i == 0)

-- the entry of a ready interest
abbrev pub entry_of : List Source → Interest → EpollEvent
entry_of sources i = event (with_bits (ready_bits sources i)) (word_of i.event)

-- What a call answers and leaves

-- a call that is agreed answers a and leaves `after`; a refused one leaves the table as it was
abbrev pub Answers : {A : Type 0} → Result (A × TableState) Errno → TableState → Result A Errno → TableState → Type 0
Answers (Ok (a, after)) before result now = (result ≡ Ok a) × (now ≡ after)
Answers (Err errno) before result now = (result ≡ Err errno) × (now ≡ before)

-- memory was refused to a call that would have been agreed, and the table is as it was
abbrev pub MemoryRefused : {A : Type 0} → Result (A × TableState) Errno → TableState → Result A Errno → TableState → Type 0
MemoryRefused r before result now = IsOk r × (result ≡ Err ENOMEM) × (now ≡ before)

abbrev pub AnswersWithMemory : {A : Type 0} → Result (A × TableState) Errno → TableState → Result A Errno → TableState → Type 0
AnswersWithMemory r before result now = Answers r before result now ⊎ MemoryRefused r before result now

-- Openings

-- the lowest number that was closed
abbrev pub first_closed : TableState → Option ℕ
first_closed t = position is_closed t.sources

-- the lowest closed number is given, or else the next one
abbrev pub open_at : TableState → Source → Option ℕ → Result (ℤ × TableState) Errno
open_at t s (Some n) = Ok (pos n, record t { sources = slice_set t.sources n s })
open_at t s None =
    if nat_le t.limit (length t.sources) then Err EMFILE
    else Ok (pos (length t.sources), record t { sources = t.sources ++ s ∷ [] })

abbrev pub open_of : TableState → Source → Result (ℤ × TableState) Errno
open_of t s = open_at t s (first_closed t)

abbrev pub add_counter_of : TableState → ℕ → Result (ℤ × TableState) Errno
add_counter_of t value = if value == 18446744073709551615 then Err EINVAL else open_of t (Counter value)

abbrev pub add_line_of : TableState → Result (ℤ × TableState) Errno
add_line_of t = open_of t (Line (with_bits 0))

-- Changes of the interest list

-- the number of an open descriptor
abbrev pub opened : TableState → ℤ → Option ℕ
opened t (pos n) = if is_open (slice_get t.sources n) then Some n else None
opened t (negsuc n) = None

-- whether an interest is of this descriptor
abbrev pub is_of : ℕ → Interest → Bool
is_of n i = i.descriptor == n

-- the place of a descriptor's interest
abbrev pub place_of : TableState → ℕ → Option ℕ
place_of t n = position (is_of n) t.interests

-- whether the event of Add or Modify has one of the four modes
abbrev pub has_mode : ControlOperation → EpollEvent → Bool
has_mode Add e = not (bit_and (bits_of (set_of e)) 0xF0000000 == 0)
has_mode Modify e = not (bit_and (bits_of (set_of e)) 0xF0000000 == 0)
has_mode Delete e = false

abbrev pub with_interests : TableState → List Interest → Result (Unit {0} × TableState) Errno
with_interests t interests = Ok (tt, record t { interests = interests })

-- the change with an interest, by the place of the one that its descriptor has
abbrev pub changed : TableState → ControlOperation → Interest → Option ℕ → Result (Unit {0} × TableState) Errno
changed t Add i None = with_interests t (t.interests ++ i ∷ [])
changed t Add i (Some k) = Err EEXIST
changed t Modify i None = Err ENOENT
changed t Modify i (Some k) = with_interests t (slice_set t.interests k i)
changed t Delete i None = Err ENOENT
changed t Delete i (Some k) = with_interests t (remove t.interests k)

abbrev pub ctl_at : TableState → ControlOperation → Option ℕ → EpollEvent → Result (Unit {0} × TableState) Errno
ctl_at t op None e = Err EBADF
ctl_at t op (Some n) e = if has_mode op e then Err EINVAL else changed t op (record { descriptor = n; event = e }) (place_of t n)

abbrev pub ctl_of : TableState → ControlOperation → ℤ → EpollEvent → Result (Unit {0} × TableState) Errno
ctl_of t op fd e = ctl_at t op (opened t fd) e

-- Closings

-- the interests without the one at a place
abbrev pub without : List Interest → Option ℕ → List Interest
without interests None = interests
without interests (Some k) = remove interests k

-- the descriptor is closed, and its interest is gone
abbrev pub close_at : TableState → Option ℕ → Result (Unit {0} × TableState) Errno
close_at t None = Err EBADF
close_at t (Some n) = Ok (tt, record t { sources = slice_set t.sources n Closed; interests = without t.interests (place_of t n) })

abbrev pub close_of : TableState → ℤ → Result (Unit {0} × TableState) Errno
close_of t fd = close_at t (opened t fd)

-- Reads, writes and settings

-- the source of a descriptor
abbrev pub source_of : TableState → ℤ → Option Source
source_of t (pos n) = slice_get t.sources n
source_of t (negsuc n) = None

abbrev pub with_source : TableState → ℤ → Source → TableState
with_source t (pos n) s = record t { sources = slice_set t.sources n s }
with_source t (negsuc n) s = t

abbrev pub write_to : TableState → ℤ → ℕ → Option Source → Result (Unit {0} × TableState) Errno
write_to t fd value (Some (Counter held)) =
    if value == 18446744073709551615 then Err EINVAL
    else if nat_lt 18446744073709551614 (held + value) then Err EAGAIN
    else Ok (tt, with_source t fd (Counter (held + value)))
write_to t fd value (Some (Line set)) = Err EBADF
write_to t fd value (Some Closed) = Err EBADF
write_to t fd value None = Err EBADF

abbrev pub write_of : TableState → ℤ → ℕ → Result (Unit {0} × TableState) Errno
write_of t fd value = write_to t fd value (source_of t fd)

abbrev pub read_from : TableState → ℤ → Option Source → Result (ℕ × TableState) Errno
read_from t fd (Some (Counter held)) = if held == 0 then Err EAGAIN else Ok (held, with_source t fd (Counter 0))
read_from t fd (Some (Line set)) = Err EBADF
read_from t fd (Some Closed) = Err EBADF
read_from t fd None = Err EBADF

abbrev pub read_of : TableState → ℤ → Result (ℕ × TableState) Errno
read_of t fd = read_from t fd (source_of t fd)

abbrev pub set_at : TableState → ℤ → EventSet → Option Source → Result (Unit {0} × TableState) Errno
set_at t fd set (Some (Counter held)) = Err EBADF
set_at t fd set (Some (Line old)) = Ok (tt, with_source t fd (Line set))
set_at t fd set (Some Closed) = Err EBADF
set_at t fd set None = Err EBADF

abbrev pub set_line_of : TableState → ℤ → EventSet → Result (Unit {0} × TableState) Errno
set_line_of t fd set = set_at t fd set (source_of t fd)

-- Waits

-- the first c ready interests
abbrev pub first_ready : List Source → List Interest → ℕ → List Interest
first_ready sources interests c = take c (filter (is_ready sources) interests)

-- the interests with these at the back, in their order
abbrev pub first_ready_last : List Source → List Interest → ℕ → List Interest
first_ready_last sources interests c = without_first (is_ready sources) interests c ++ first_ready sources interests c

-- the interests that a wait with room for c reports
abbrev pub chosen : TableState → ℕ → List Interest
chosen t c = first_ready t.sources t.interests c

-- they move to the back
abbrev pub moved_back : TableState → ℕ → TableState
moved_back t c = record t { interests = first_ready_last t.sources t.interests c }

abbrev pub wait_of : TableState → ℕ → Result (List EpollEvent × TableState) Errno
wait_of t c =
    if c == 0 then Err EINVAL
    else Ok (map (entry_of t.sources) (chosen t c), moved_back t c)

-- the entries of a wait
abbrev pub reported_entries : Result (List EpollEvent × TableState) Errno → List EpollEvent
reported_entries (Ok (entries, after)) = entries
reported_entries (Err errno) = []

-- the number of the entries in place of them
abbrev pub counted : Result (List EpollEvent × TableState) Errno → Result (ℕ × TableState) Errno
counted (Ok (entries, after)) = Ok (length entries, after)
counted (Err errno) = Err errno

-- the buffer after a wait: its entries in front, and what stood behind them
abbrev pub filled : Result (List EpollEvent × TableState) Errno → List EpollEvent → List EpollEvent
filled r buffer = reported_entries r ++ drop (length (reported_entries r)) buffer

-- What calls keep

-- the value of a counter is at most 18446744073709551614
abbrev pub HasAllowedValue : Source → Type 0
HasAllowedValue (Counter value) = value ≤ 18446744073709551614
HasAllowedValue (Line set) = Unit {0}
HasAllowedValue Closed = Unit {0}

-- each table that calls have made: its counters have allowed values; its interests are of open descriptors, one of each at most, and without modes
pub record IsReachable (t : TableState) : Type 0 where
  pub values : All HasAllowedValue t.sources
  pub descriptors : All (λ i. IsOpen t.sources i.descriptor) t.interests
  pub one_each : (n : ℕ) → count_by (is_of n) t.interests ≤ 1
  pub without_modes : All (λ i. has_mode Add i.event ≡ false) t.interests
