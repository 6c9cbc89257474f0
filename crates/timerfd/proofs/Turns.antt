-- Of two waits that follow each other one asks the poller below at least, and in one at least timers come first.
use Rattle.std.proofs.Common.{ℕ, ℤ, ◌≡◌, ◌<◌, ◌⊎◌, true, false, List, inl, inr, subst, sym, refl, ◌∙◌, arith}
use Rattle.std.specs.Prelude.{Result, MatchBool, ◌==◌}
use Rattle.std.proofs.lemmas.Bool.{cases_Bool, ne_eqb}
use base.Stored.{Gv}
use Rattle.vmm_sys.specs.declared.entries.EpollEvent.{EpollEvent}
use Rattle.vmm_sys.specs.declared.errno.Errno.{Errno}
use Rattle.vmm_sys.specs.Poller.{WaitRelation}
use Rattle.timerfd.specs.TimedPoller.{Timed, timed_code, FromTimers, TimersFirst, OthersFirst, MayWait}
use Rattle.timerfd.proofs.Waits.{by_test}
use Rattle.timerfd.specs.Turns.{AsksBelow, LetsTimersComeFirst, OneOfTwoIs}

module _ (may_wait : WaitRelation) {before : Gv} (ms : ℤ) {room : ℕ} (answer : Result ℕ Errno) (entries : List EpollEvent) (after : Gv) (some : 0 < room) (t : Timed Gv) (is : before ≡ timed_code.code t) where
  -- a wait with room, in this state
  with_room : MayWait may_wait before ms room answer entries after
      → MatchBool t.others_first (OthersFirst may_wait t ms room answer entries after) (FromTimers t room answer entries after ⊎ TimersFirst may_wait t ms room answer entries after)
  with_room (u, at, h) =
      let same : u ≡ t = timed_code.inj u t (sym at ∙ is) in
      let none : (room == 0) ≡ false = ne_eqb room 0 (λ e. omega (arith, some, e)) in
      let h' = by_test false _ (sym none) _ _ h in
      subst (λ (s : Timed Gv). MatchBool s.others_first (OthersFirst may_wait s ms room answer entries after) (FromTimers s room answer entries after ⊎ TimersFirst may_wait s ms room answer entries after)) same h'

  -- where others come first, the poller below is asked
  pub others : t.others_first ≡ true → MayWait may_wait before ms room answer entries after → OthersFirst may_wait t ms room answer entries after
  others first h = by_test true _ (sym first) _ _ (with_room h)

  pub timers : t.others_first ≡ false → MayWait may_wait before ms room answer entries after → FromTimers t room answer entries after ⊎ TimersFirst may_wait t ms room answer entries after
  timers first h = by_test false _ (sym first) _ _ (with_room h)

pub one_asks_below : (may_wait : WaitRelation) → OneOfTwoIs AsksBelow may_wait
one_asks_below may_wait a b c ms next_ms room next_room answer next_answer entries next_entries some next_some (t, at, h) second =
    elim (cases_Bool t.others_first) [
      | inl first ↦ inl (t, at, inl (others may_wait ms answer entries b some t at first (t, at, h)))
      | inr first ↦ elim (timers may_wait ms answer entries b some t at first (t, at, h)) [
        | inr asked ↦ inl (t, at, inr asked)
        | inl (s, reports, full, answered, left, reached) ↦
            let u : Timed Gv = record t { others_first = true } in
            inr (u, left, inl (others may_wait next_ms next_answer next_entries c next_some u left refl second))
      ]
    ]

pub timers_come_first : (may_wait : WaitRelation) → OneOfTwoIs LetsTimersComeFirst may_wait
timers_come_first may_wait a b c ms next_ms room next_room answer next_answer entries next_entries some next_some (t, at, h) second =
    elim (cases_Bool t.others_first) [
      | inr first ↦ inl (t, at, timers may_wait ms answer entries b some t at first (t, at, h))
      | inl first ↦
          let (s, later, known, limit, limits, inner, others_are, poller, below, reports, counts, left, reached, later_reached) = others may_wait ms answer entries b some t at first (t, at, h) in
          let u : Timed Gv = record { poller = poller; counter = t.counter; others_first = false } in
          inr (u, left, timers may_wait next_ms next_answer next_entries c next_some u left refl second)
    ]
