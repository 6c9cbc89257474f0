-- Timers by index, at a time.
use Rattle.std.specs.Prelude.{ℕ, ◌≡◌, ◌<◌, nat_lt, true, false, List, length, map, slice_index_or, slice_set, if◌then◌else◌}
use Rattle.std.specs.List.{All}
use Rattle.timerfd.specs.declared.timer.Timer.{Timer}
use Rattle.timerfd.specs.Timer.{disarmed, expired}
use Rattle.timerfd.specs.Dues.{is_due}

-- the time that was told last, and the timers
pub record TimersAt : Type 0 where
  pub time : ℕ
  pub timers : List Timer

-- the timer of this index; disarmed, where there is none
abbrev pub timer_at : List Timer → ℕ → Timer
timer_at timers index = slice_index_or timers index disarmed

-- this timer in place of that of this index; where there is none, nothing changes
abbrev pub with_timer : TimersAt → ℕ → Timer → TimersAt
with_timer s index t = record s { timers = slice_set s.timers index t }

-- told that it is now: each timer that is due up to now has expired. A time before the one that was told last changes nothing
abbrev pub told : ℕ → TimersAt → TimersAt
told now s = if nat_lt now s.time then s else record { time = now; timers = map (expired now) s.timers }

-- none of the timers is due up to now, and nothing changed
abbrev pub NoneIsDue : ℕ → TimersAt → TimersAt → Type 0
NoneIsDue now before after = All (λ t. is_due now t.due ≡ false) before.timers × (after ≡ before)

-- the timer of this index, due up to now, has expired, and no other
abbrev pub HasExpired : ℕ → TimersAt → ℕ → TimersAt → Type 0
HasExpired now before index after =
    (index < length before.timers) × (is_due now (timer_at before.timers index).due ≡ true)
    × (after ≡ with_timer before index (expired now (timer_at before.timers index)))
