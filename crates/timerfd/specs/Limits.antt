-- For how long the poller below is waited for.
use Rattle.std.specs.Prelude.{ℕ, ℤ, pos, negsuc, ◌≡◌, ◌+◌, ◌-◌, ◌/◌, ◌%◌, min, Bool, if◌then◌else◌, Option, Some, None, is_some, find}
use Rattle.vmm_sys.specs.Table.{is_ready}
use Rattle.timerfd.specs.Dues.{IsFirstOf, dues}
use Rattle.timerfd.specs.TimerTable.{TimerTableState, table_of}

-- whether a timer is ready for what is wanted of it
abbrev pub has_ready : TimerTableState → Bool
has_ready s = is_some (find (is_ready (table_of s).sources) s.interests)

-- how many milliseconds it is until this time, in nanoseconds, rounded up
abbrev pub ms_until : ℕ → ℕ → ℕ
ms_until now due = (due - now) / 1000000 + min 1 ((due - now) % 1000000)

-- the lesser of a limit and these milliseconds; a negative limit is none
abbrev pub lesser : ℤ → ℕ → ℤ
lesser (pos ms) left = pos (min ms left)
lesser (negsuc _) left = pos (min left 2147483647)

-- not at all where a timer is ready; else until the first timer is due, at most, where the time is known
abbrev pub limit_of : TimerTableState → Bool → Option ℕ → ℤ → ℤ
limit_of s is_known None ms = if has_ready s then pos 0 else ms
limit_of s is_known (Some due) ms = if has_ready s then pos 0 else if is_known then lesser ms (ms_until s.told.time due) else ms

-- this is the limit where one of these milliseconds was given
abbrev pub IsLimit : TimerTableState → Bool → ℤ → ℤ → Type 0
IsLimit s is_known ms limit = (first : Option ℕ) × IsFirstOf (dues s.told.timers) first × (limit ≡ limit_of s is_known first ms)
