-- When timers are due: a time in nanoseconds, or `None`, never.
use Rattle.std.specs.Prelude.{ℕ, ◌≡◌, ◌≤◌, nat_le, Bool, false, List, map, Option, Some, None}
use Rattle.std.specs.List.{All, Contains}
use Rattle.std.specs.Option.{IfSome}
use Rattle.timerfd.specs.declared.timer.Timer.{Timer}

-- it is up to now
abbrev pub is_due : ℕ → Option ℕ → Bool
is_due now None = false
is_due now (Some time) = nat_le time now

-- the first of these times: it is one of them, and none of them is before it; never, where each of them is never
abbrev pub IsFirstOf : List (Option ℕ) → Option ℕ → Type 0
IsFirstOf times None = All (λ time. time ≡ None) times
IsFirstOf times (Some first) = Contains times (Some first) × All (λ time. IfSome time (λ other. first ≤ other)) times

-- when each of these timers is due
abbrev pub dues : List Timer → List (Option ℕ)
dues timers = map (λ t. t.due) timers
