-- Timers and the times at which they are due: the first of them, and what is as it was before it.
use Rattle.std.proofs.Common.{ℕ, ◌≡◌, ◌<◌, ◌≤◌, inl, inr, List, length, get_or, map, Option, Some, None, false, arith, sym, ◌∙◌, ap, subst, refl}
use Rattle.std.specs.List.{All, Contains}
use Rattle.std.specs.Option.{IfSome}
use Rattle.std.proofs.lemmas.Bool.{cases_lt}
use Rattle.std.proofs.lemmas.List.{get_or_past, get_or_default, get_or-map, length-map, ext_get_or}
use Rattle.std.proofs.lemmas.List.Elements.{All-from_get_or, All-get_or, All-weaker}
use Rattle.timerfd.specs.declared.timer.Timer.{Timer}
use Rattle.timerfd.specs.Timer.{disarmed, expired}
use Rattle.timerfd.specs.Dues.{is_due, IsFirstOf, dues}
use Rattle.timerfd.specs.Timers.{timer_at}

-- these times are those at which the timers are due
abbrev pub AreDues : List (Option ℕ) → List Timer → Type 0
AreDues times timers = (index : ℕ) → get_or times index None ≡ (timer_at timers index).due

module _ (times : List (Option ℕ)) (timers : List Timer) (are : AreDues times timers) where
  due_at : (k : ℕ) → k < length timers → get_or (dues timers) k None ≡ get_or times k None
  due_at k within = get_or-map (λ (t : Timer). t.due) timers k disarmed None within ∙ sym (are k)

  -- what holds of all these times, `None` among them, holds of when the timers are due
  all_due : (P : Option ℕ → Type 0) → ((k : ℕ) → P (get_or times k None)) → All P (dues timers)
  all_due P all = All-from_get_or P (dues timers) None (λ k within.
      let within' : k < length timers = rw (length-map timers (λ (t : Timer). t.due)) at within in
      rw (due_at k within') (all k))

-- what holds of each time, and of `None`, holds at each index
everywhere : (times : List (Option ℕ)) (P : Option ℕ → Type 0) → P None → All P times → (k : ℕ) → P (get_or times k None)
everywhere times P never all k = elim (cases_lt k (length times)) [
  | inl within ↦ All-get_or P times k None within all
  | inr past ↦ rw (get_or_past times k None past) never
]

-- what is due has a timer
is_timer : (timers : List Timer) (k first : ℕ) → (timer_at timers k).due ≡ Some first → k < length timers
is_timer timers k first is = elim (cases_lt k (length timers)) [
  | inl within ↦ within
  | inr past ↦ let none : (timer_at timers k).due ≡ None = ap (λ (t : Timer). t.due) (get_or_past timers k disarmed past) in cc
]

contains_due : (times : List (Option ℕ)) (timers : List Timer) (first : ℕ) → AreDues times timers → Contains times (Some first) → Contains (dues timers) (Some first)
contains_due times timers first are (k, within, is) =
    let at : get_or times k None ≡ Some first = get_or_default times k None (Some first) within ∙ is in
    let below : k < length timers = is_timer timers k first (sym (are k) ∙ at) in
    let below' : k < length (dues timers) = rw (length-map timers (λ (t : Timer). t.due)) below in
    (k, below', get_or_default (dues timers) k (Some first) None below' ∙ due_at times timers are k below ∙ at)

-- the first of the times is the first at which the timers are due
pub first_due : (times : List (Option ℕ)) (timers : List Timer) (first : Option ℕ) → AreDues times timers → IsFirstOf times first → IsFirstOf (dues timers) first
first_due times timers None are is = all_due times timers are (λ time. time ≡ None) (everywhere times (λ time. time ≡ None) refl is)
first_due times timers (Some first) are (has, all) =
    let P : Option ℕ → Type 0 = λ time. IfSome time (λ other. first ≤ other) in
    (contains_due times timers first are has, all_due times timers are P (everywhere times P tt all))

-- a timer that isn't due up to now is as it was
pub not_due_as_it_was : (now : ℕ) (t : Timer) → is_due now t.due ≡ false → expired now t ≡ t
not_due_as_it_was now t none = grind arith

-- where none of the times is up to now, none of the timers is due
pub none_of_them : (now : ℕ) (times : List (Option ℕ)) (timers : List Timer) → AreDues times timers → All (λ time. is_due now time ≡ false) times → All (λ t. is_due now t.due ≡ false) timers
none_of_them now times timers are all =
    let P : Option ℕ → Type 0 = λ time. is_due now time ≡ false in
    All-from_get_or (λ t. is_due now t.due ≡ false) timers disarmed (λ k within. subst P (are k) (everywhere times P refl all k))

-- where none of the timers is due up to now, they are as they were
pub none_due : (now : ℕ) (timers : List Timer) → All (λ t. is_due now t.due ≡ false) timers → map (expired now) timers ≡ timers
none_due now timers none = ext_get_or disarmed (map (expired now) timers) timers (length-map timers (expired now)) (λ k within.
    let within' : k < length timers = rw (length-map timers (expired now)) at within in
    rw (get_or-map (expired now) timers k disarmed disarmed within') (not_due_as_it_was now (timer_at timers k) (none k disarmed within')))

-- the times at which timers are due are those
are_dues : (timers : List Timer) → AreDues (dues timers) timers
are_dues timers k = elim (cases_lt k (length timers)) [
  | inl within ↦ get_or-map (λ (t : Timer). t.due) timers k disarmed None within
  | inr past ↦
      let past' : length (dues timers) ≤ k = rw (length-map timers (λ (t : Timer). t.due)) past in
      get_or_past (dues timers) k None past' ∙ sym (ap (λ (t : Timer). t.due) (get_or_past timers k disarmed past))
]

later : (now first : ℕ) → is_due now (Some first) ≡ false → (time : Option ℕ) → IfSome time (λ other. first ≤ other) → is_due now time ≡ false
later now first early None is = refl
later now first early (Some time) is = grind arith

none_before : (now : ℕ) (times : List (Option ℕ)) (first : Option ℕ) → IsFirstOf times first → is_due now first ≡ false → All (λ time. is_due now time ≡ false) times
none_before now times None never early = All-weaker (λ time. time ≡ None) (λ time. is_due now time ≡ false) (λ time is. rw is refl) times never
none_before now times (Some first) (has, all) early =
    All-weaker (λ time. IfSome time (λ other. first ≤ other)) (λ time. is_due now time ≡ false) (later now first early) times all

-- before the first of the timers is due, they are as they were
pub before_first : (now : ℕ) (timers : List Timer) (first : Option ℕ) → IsFirstOf (dues timers) first → is_due now first ≡ false → map (expired now) timers ≡ timers
before_first now timers first is early = none_due now timers (none_of_them now (dues timers) timers (are_dues timers) (none_before now (dues timers) first is early))
