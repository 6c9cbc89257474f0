-- Timers with a list of interests in them: they are the descriptors of a table.
use Rattle.std.specs.Prelude.{ℕ, ◌≡◌, ◌≤◌, ◌⊎◌, ◌==◌, ◌^◌, ◌++◌, ◌∷◌, [], Bool, not, if◌then◌else◌, List, length, map, slice_get, slice_set, Option, Some, None, Result, Ok, Err}
use Rattle.std.specs.List.{All}
use Rattle.vmm_sys.specs.declared.errno.Errno.{Errno}
use Rattle.vmm_sys.specs.declared.errno.TheConstants.Errno.{EMFILE, ENOMEM}
use Rattle.vmm_sys.specs.declared.event_set.EventSet.{EventSet}
use Rattle.vmm_sys.specs.declared.table.source.Source.{Source}
use Rattle.vmm_sys.specs.declared.table.source.Source.TheVariants.{Line, Closed}
use Rattle.vmm_sys.specs.declared.table.interests.Interest.{Interest}
use Rattle.vmm_sys.specs.EventSet.{with_bits}
use Rattle.vmm_sys.specs.Table.{TableState, IsReachable, is_open, first_closed, moved_back}
use Rattle.timerfd.specs.declared.timer.Timer.{Timer}
use Rattle.timerfd.specs.Timer.{disarmed, closed}
use Rattle.timerfd.specs.Timers.{TimersAt, with_timer}

-- the timers, and the interests in them, in the order in which a report looks at them
pub record TimerTableState : Type 0 where
  pub told : TimersAt
  pub interests : List Interest

-- other timers, or another time, and the same interests
abbrev pub with_told : TimerTableState → TimersAt → TimerTableState
with_told s told = record s { told = told }

-- ready for IN (0x1), or for nothing
abbrev pub line : Bool → Source
line ready = Line (with_bits (if ready then 0x1 else 0))

-- an open timer is ready while it has expirations to take
abbrev pub line_of : Timer → Source
line_of t = if t.is_open then line (not (t.expirations == 0)) else Closed

-- the timers as descriptors of a table, numbered by their indices
abbrev pub table_of : TimerTableState → TableState
table_of s = record { sources = map line_of s.told.timers; interests = s.interests; limit = 2147483648 }

-- calls lead to these timers: to the table of their lines, of which there are 2147483648 at most
abbrev pub AreReached : TimerTableState → Type 0
AreReached s = IsReachable (table_of s) × (length s.told.timers ≤ 2 ^ 31)

-- this table has the timers as its lines
abbrev pub IsTableOf : TimersAt → TableState → Type 0
IsTableOf told table = (table ≡ table_of (record { told = told; interests = table.interests })) × (length told.timers ≤ 2 ^ 31)

-- each of these is a line, or closed
abbrev pub AreLines : List Source → Type 0
AreLines sources = All (λ s. ((set : EventSet) × (s ≡ Line set)) ⊎ (s ≡ Closed)) sources

-- a line in place of that of a number; where none is open there, nothing changes
abbrev pub with_line : List Source → ℕ → Source → List Source
with_line sources n s = if is_open (slice_get sources n) then slice_set sources n s else sources

-- a timer is opened: the lowest closed one, if there is one, or one behind all others
abbrev pub IsOpened : Option ℕ → TimersAt → ℕ → TimersAt → Type 0
IsOpened (Some lowest) before index after = (index ≡ lowest) × (after ≡ with_timer before lowest disarmed)
IsOpened None before index after = (index ≡ length before.timers) × (after ≡ record before { timers = before.timers ++ disarmed ∷ [] })

-- a timer is closed, with its interest; or the call is refused, and nothing changes
abbrev pub Closes : Result (Unit {0} × TableState) Errno → ℕ → TimerTableState → Result (Unit {0}) Errno → TimerTableState → Type 0
Closes (Ok (_, after)) index before answer now = (answer ≡ Ok tt) × (now ≡ record { told = with_timer before.told index closed; interests = after.interests })
Closes (Err errno) index before answer now = (answer ≡ Err errno) × (now ≡ before)

-- a call that is agreed changes the interests alone; a refused one changes nothing
abbrev pub Changes : Result (Unit {0} × TableState) Errno → TimerTableState → Result (Unit {0}) Errno → TimerTableState → Type 0
Changes (Ok (_, after)) before answer now = (answer ≡ Ok tt) × (now ≡ record before { interests = after.interests })
Changes (Err errno) before answer now = (answer ≡ Err errno) × (now ≡ before)

-- the interests that a report with this room writes stand last
abbrev pub reported_by : TimerTableState → ℕ → TimerTableState
reported_by s room = record s { interests = (moved_back (table_of s) room).interests }

-- why no timer is added: memory was refused, or 2147483648 are open
abbrev pub IsOpeningError : TimerTableState → Errno → Type 0
IsOpeningError s e = (e ≡ ENOMEM) ⊎ ((e ≡ EMFILE) × (first_closed (table_of s) ≡ None) × (length s.told.timers ≡ 2 ^ 31))
