use Rattle.std.proofs.Common.{◌≡◌, ◌≤◌, ℕ, nat_lt, true, false, inl, inr, refl, arith}
use Rattle.std.proofs.Math.ListN.{get_or-map}
use Rattle.std.proofs.lemmas.Bool.{cases_lt}
use Rattle.timerfd.specs.Timer.{disarmed, expired}
use Rattle.timerfd.specs.Timers.{TimersAt, timer_at, told}
use Rattle.timerfd_tests.proofs.by_laws.tell.Goals as goal

told_at : (now index : ℕ) (s : TimersAt) → s.time ≤ now → timer_at (told now s).timers index ≡ expired now (timer_at s.timers index)
told_at now index s comes = let later : nat_lt now s.time ≡ false = grind arith in rw later (get_or-map (expired now) s.timers index disarmed)

pub returns-clause-early : goal.returns-clause-early
returns-clause-early c = λ index none.
    let s = c.args.timers.now in
    let now = c.args.now in
    elim (cases_lt now s.time) [
      | inl past ↦ let same : nat_lt now s.time ≡ true = grind arith in rw (c.set_time.ensures, same) refl
      | inr comes ↦ rw (c.set_time.ensures, told_at now index s comes) (c.each_timer_expires_in_time.ensures.early now (timer_at s.timers index) none)
    ]

pub returns-clause-late : goal.returns-clause-late
returns-clause-late c = λ comes index.
    let s = c.args.timers.now in
    rw (c.set_time.ensures, told_at c.args.now index s comes) (c.each_timer_expires_in_time.ensures.late c.args.now (timer_at s.timers index))
