-- Timers that expire one after another, until none of them is due.
use Rattle.std.proofs.Common.{ℕ, ◌≡◌, ◌+◌, ◌<◌, List, set, map, false, cond, arith, sym, ◌∙◌, ap, count_by}
use Rattle.std.proofs.lemmas.List.{map-set, set-get_or}
use Rattle.std.proofs.lemmas.List.Sums.{sum_by-set}
use Rattle.timerfd.specs.declared.timer.Timer.{Timer}
use Rattle.timerfd.specs.Timer.{disarmed, expired}
use Rattle.timerfd.specs.Dues.{is_due}
use Rattle.timerfd.specs.Timers.{TimersAt, timer_at, NoneIsDue, HasExpired}
use Rattle.timerfd.proofs.Due.{none_due}

-- a timer that has expired is not due again at the same time
no_more : (now : ℕ) (t : Timer) → is_due now (expired now t).due ≡ false
no_more now t = grind arith

-- so it stays as it is
expired_once : (now : ℕ) (t : Timer) → expired now (expired now t) ≡ expired now t
expired_once now t = grind arith

-- once a timer has expired, it expires no more
expired_one : (now index : ℕ) (timers : List Timer) → map (expired now) (set timers index (expired now (timer_at timers index))) ≡ map (expired now) timers
expired_one now index timers =
    rw (map-set (expired now) timers index (expired now (timer_at timers index)), expired_once now (timer_at timers index))
    (sym (map-set (expired now) timers index (timer_at timers index)) ∙ ap (map (expired now)) (set-get_or timers index disarmed))

-- the same timers at the same time are the same
same : (s t : TimersAt) → s.time ≡ t.time → s.timers ≡ t.timers → s ≡ t
same s t time timers =
    let first : TimersAt = record { time = t.time; timers = s.timers } in
    let timed : s ≡ first = ap (λ (x : ℕ). let at : TimersAt = record { time = x; timers = s.timers } in at) time in
    timed ∙ ap (λ (x : List Timer). let at : TimersAt = record { time = t.time; timers = x } in at) timers

-- once all have expired, they are what those will be
pub record EndAlike (now : ℕ) (s t : TimersAt) : Type 0 where
  pub time : s.time ≡ t.time
  pub timers : map (expired now) s.timers ≡ map (expired now) t.timers

-- how many timers are due up to now
abbrev pub due_count : ℕ → TimersAt → ℕ
due_count now s = count_by (λ t. is_due now t.due) s.timers

module _ (now index : ℕ) (before after : TimersAt) (expires : HasExpired now before index after) where
  -- one more of the timers has expired
  pub one_more : (start : TimersAt) → EndAlike now before start → EndAlike now after start
  one_more start alike = record {
    time = ap (λ (s : TimersAt). s.time) expires.2 ∙ alike.time;
    timers = ap (λ (s : TimersAt). map (expired now) s.timers) expires.2 ∙ expired_one now index before.timers ∙ alike.timers;
  }

  -- and one fewer is due
  pub one_fewer : due_count now after < due_count now before
  one_fewer =
      let t : Timer = timer_at before.timers index in
      let counts : due_count now after + cond (is_due now t.due) 1 0 ≡ due_count now before + cond (is_due now (expired now t).due) 1 0 =
      rw expires.2 (sum_by-set (λ (u : Timer). cond (is_due now u.due) 1 0) before.timers index (expired now t) disarmed expires.0) in
      let counts' : due_count now after + 1 ≡ due_count now before + 0 = rw (expires.1, no_more now t) at counts in
      omega arith

-- where none is due any more, all have expired
pub all_expired : (now : ℕ) (s after start : TimersAt) → NoneIsDue now s after → EndAlike now s start → after ≡ record start { timers = map (expired now) start.timers }
all_expired now s after start none alike =
    none.1 ∙ same s (record start { timers = map (expired now) start.timers }) alike.time (sym (none_due now s.timers none.0) ∙ alike.timers)
