-- One timer, and what it is once a time has come.
use Rattle.std.specs.Prelude.{ℕ, ◌+◌, ◌-◌, ◌*◌, ◌/◌, ◌^◌, ◌==◌, nat_le, nat_lt, min, if◌then◌else◌, true, false, Option, Some, None}
use Rattle.timerfd.specs.declared.timer.Timer.{Timer}

-- how often a timer that is due is due up to now: once, and once more for each whole interval since (n / 0 is 0)
abbrev pub times_due : ℕ → ℕ → ℕ → ℕ
times_due now due interval = 1 + (now - due) / interval

-- a time, where 64 bits hold it; else never
abbrev pub in_range : ℕ → Option ℕ
in_range time = if nat_lt time (2 ^ 64) then Some time else None

-- when it is due next: at the first of its times above now; without an interval never
abbrev pub due_after : ℕ → ℕ → ℕ → Option ℕ
due_after now due interval = if interval == 0 then None else in_range (due + times_due now due interval * interval)

-- due up to now, it has expired; the count stops at its highest value
abbrev pub expired_since : ℕ → ℕ → Timer → Timer
expired_since now due t = record t {
  due = due_after now due t.interval;
  expirations = min (t.expirations + times_due now due t.interval) (2 ^ 64 - 1);
}

-- the timer once it is now: due up to now, it has expired; else it is as it was
abbrev pub expired : ℕ → Timer → Timer
expired now t = elim t.due [ None ↦ t | Some due ↦ if nat_le due now then expired_since now due t else t ]

-- open, not due, with nothing to take
abbrev pub disarmed : Timer
disarmed = record { due = None; interval = 0; expirations = 0; is_open = true }

-- closed, not due, with nothing to take
abbrev pub closed : Timer
closed = record { due = None; interval = 0; expirations = 0; is_open = false }

-- an open timer once it is due at a time, and after each interval, with nothing to take; a closed one stays as it is
abbrev pub armed : ℕ → ℕ → Timer → Timer
armed due interval t = if t.is_open then record t { due = Some due; interval = interval; expirations = 0 } else t

-- an open timer once it isn't due, with nothing to take; a closed one stays as it is
abbrev pub stopped : Timer → Timer
stopped t = if t.is_open then record t { due = None; interval = 0; expirations = 0 } else t
