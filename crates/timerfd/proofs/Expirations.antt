-- How often a timer expires, and when it is due next.
use Rattle.std.proofs.Common.{ℕ, ◌+◌, ◌-◌, ◌*◌, ◌/◌, ◌^◌, ◌≡◌, ◌<◌, ◌≤◌, ◌↔◌, ◌==◌, inl, inr, min, max, Option, Some, None, false, if◌then◌else◌, List, [], ◌∷◌, arith, sym, ◌∙◌, ap, refl, map}
use Rattle.std.specs.List.{All, fold}
use Rattle.std.proofs.lemmas.List.Elements.{All-head, All-tail, All-cons}
use Rattle.std.proofs.Math.Nat.{add-mul-div_right, le-div_iff_mul-le, div-lt_iff_lt-mul, div-zero, div-mul-le_self}
use Rattle.std.proofs.lemmas.Bool.{cases_lt, cases_eq}
use Rattle.timerfd.specs.declared.timer.Timer.{Timer}
use Rattle.timerfd.specs.Timer.{times_due, in_range, due_after, expired_since, expired}
use Rattle.timerfd.specs.Dues.{is_due}
use Rattle.timerfd.specs.Timers.{TimersAt, told}
use Rattle.timerfd.proofs.Due.{not_due_as_it_was}

-- a time of the timer is up to now exactly if it is one of those that count
counts : (now due interval k : ℕ) → due ≤ now → 0 < interval → (k < times_due now due interval) ↔ (due + k * interval ≤ now)
counts now due interval k late some =
    let (forth, back) = le-div_iff_mul-le {k = interval} {x = k} {y = now - due} some in (
      (λ below. let p : k * interval ≤ now - due = forth (omega arith) in omega arith),
      (λ upto. let p : k ≤ (now - due) / interval = back (omega arith) in omega arith),
    )

-- the times up to a are followed by those up to b
times_add : (a b due interval : ℕ) → due ≤ a → 0 < interval → due + times_due a due interval * interval ≤ b
    → times_due a due interval + times_due b (due + times_due a due interval * interval) interval ≡ times_due b due interval
times_add a b due interval late some more =
    let n : ℕ = times_due a due interval in
    let rest : b - due ≡ (b - (due + n * interval)) + n * interval = omega arith in
    let all : ((b - (due + n * interval)) + n * interval) / interval ≡ (b - (due + n * interval)) / interval + n = add-mul-div_right (b - (due + n * interval)) n some in
    rw rest (rw all (omega arith))

times_same : (a b due interval : ℕ) → due ≤ a → a ≤ b → 0 < interval → b < due + times_due a due interval * interval → times_due a due interval ≡ times_due b due interval
times_same a b due interval late later some none =
    let n : ℕ = (a - due) / interval in
    let (forth, back) = le-div_iff_mul-le {k = interval} {x = n} {y = b - due} some in
    let (forth', back') = div-lt_iff_lt-mul {k = interval} {x = b - due} {y = 1 + n} some in
    let fewer : n * interval ≤ a - due = div-mul-le_self (a - due) interval in
    let least : n ≤ (b - due) / interval = back (omega arith) in
    let most : (b - due) / interval < 1 + n = back' (omega arith) in
    omega arith

expires_since : (now due : ℕ) (t : Timer) → t.due ≡ Some due → due ≤ now → expired now t ≡ expired_since now due t
expires_since now due t is late = grind arith

pub each_time_counts : (now due k : ℕ) (t : Timer) → t.due ≡ Some due → 0 < t.interval → (expired now t).expirations < 2 ^ 64 - 1
    → (t.expirations + k < (expired now t).expirations) ↔ (due + k * t.interval ≤ now)
each_time_counts now due k t is some short = elim (cases_lt now due) [
  | inl early ↦
      let same : expired now t ≡ t = not_due_as_it_was now t (rw is (grind arith)) in
      rw same ((λ more. absurd (omega arith)), (λ upto. absurd (omega arith)))
  | inr late ↦
      let e : (expired now t).expirations ≡ min (t.expirations + times_due now due t.interval) (2 ^ 64 - 1) = ap (λ (r : Timer). r.expirations) (expires_since now due t is late) in
      let (forth, back) = counts now due t.interval k late some in
      ((λ more. forth (omega arith)), (λ upto. let p : k < times_due now due t.interval = back upto in omega arith))
]

-- the timer, due at this time, once it has expired this often
abbrev rung_by : ℕ → ℕ → Timer → Timer
rung_by n due t = record t { due = if t.interval == 0 then None else in_range (due + n * t.interval); expirations = min (t.expirations + n) (2 ^ 64 - 1) }

by_times : (n m due : ℕ) (t : Timer) → n ≡ m → rung_by n due t ≡ rung_by m due t
by_times n m due t e = ap (λ (k : ℕ). rung_by k due t) e

by_both : (n m due next : ℕ) (t : Timer) → next ≡ due + n * t.interval → rung_by m next (rung_by n due t) ≡ rung_by (n + m) due t
by_both n m due next t is =
    let time : next + m * t.interval ≡ due + (n + m) * t.interval = grind arith in
    let count : min (min (t.expirations + n) (2 ^ 64 - 1) + m) (2 ^ 64 - 1) ≡ min (t.expirations + (n + m)) (2 ^ 64 - 1) = omega arith in
    cc

next_time : (now due interval : ℕ) → 0 < interval → due_after now due interval ≡ in_range (due + times_due now due interval * interval)
next_time now due interval some = grind arith

no_time : (now due interval : ℕ) → interval ≡ 0 → due_after now due interval ≡ None
no_time now due interval none = grind arith

held : (time : ℕ) → time < 2 ^ 64 → in_range time ≡ Some time
held time short = grind arith

not_yet : (now time : ℕ) → now < time → is_due now (in_range time) ≡ false
not_yet now time early = grind arith

once : (a b due interval : ℕ) → interval ≡ 0 → times_due a due interval ≡ times_due b due interval
once a b due interval none = rw (none, div-zero (a - due), div-zero (b - due)) refl

-- a timer that has expired up to a, and then up to b, has expired up to b
expires_twice : (a b due : ℕ) (t : Timer) → due ≤ a → a ≤ b → b < 2 ^ 64 → expired b (expired_since a due t) ≡ expired_since b due t
expires_twice a b due t late later short = elim (cases_eq t.interval 0) [
  | inl none ↦
      not_due_as_it_was b (expired_since a due t) (rw (no_time a due t.interval none) refl)
      ∙ by_times (times_due a due t.interval) (times_due b due t.interval) due t (once a b due t.interval none)
  | inr some ↦
      let n : ℕ = times_due a due t.interval in
      let next : ℕ = due + n * t.interval in
      elim (cases_lt b next) [
        | inl none ↦
            let none' : is_due b (expired_since a due t).due ≡ false = rw (next_time a due t.interval (omega arith)) (not_yet b next none) in
            not_due_as_it_was b (expired_since a due t) none' ∙ by_times n (times_due b due t.interval) due t (times_same a b due t.interval late later (omega arith) none)
        | inr more ↦
            let again : (expired_since a due t).due ≡ Some next = next_time a due t.interval (omega arith) ∙ held next (omega arith) in
            expires_since b next (expired_since a due t) again more ∙ by_both n (times_due b next t.interval) due next t refl
            ∙ by_times (n + times_due b next t.interval) (times_due b due t.interval) due t (times_add a b due t.interval late (omega arith) more)
      ]
]

expired_at : (a b : ℕ) (t : Timer) (time : Option ℕ) → t.due ≡ time → a ≤ b → b < 2 ^ 64 → expired b (expired a t) ≡ expired b t
expired_at a b t None is later short = let same : expired a t ≡ t = not_due_as_it_was a t (rw is refl) in rw same refl
expired_at a b t (Some due) is later short = elim (cases_lt a due) [
  | inl early ↦ let same : expired a t ≡ t = not_due_as_it_was a t (rw is (grind arith)) in rw same refl
  | inr late ↦ rw (expires_since a due t is late, expires_since b due t is (omega arith)) (expires_twice a b due t late later short)
]

all_expired : (a b : ℕ) (timers : List Timer) → a ≤ b → b < 2 ^ 64 → map (expired b) (map (expired a) timers) ≡ map (expired b) timers
all_expired a b [] later short = refl
all_expired a b (t ∷ timers) later short = rw (expired_at a b t t.due refl later short, all_expired a b timers later short) refl

told_past : (now : ℕ) (s : TimersAt) → now < s.time → told now s ≡ s
told_past now s past = grind arith

told_now : (now : ℕ) (s : TimersAt) → s.time ≤ now → told now s ≡ record { time = now; timers = map (expired now) s.timers }
told_now now s comes = grind arith

told_twice : (a b : ℕ) (s : TimersAt) → b < 2 ^ 64 → told b (told a s) ≡ told (max a b) s
told_twice a b s short = elim (cases_lt a s.time) [
  | inl past ↦
      let same : told a s ≡ s = told_past a s past in
      rw same (elim (cases_lt b s.time) [
        | inl past' ↦ told_past b s past' ∙ sym (told_past (max a b) s (omega arith))
        | inr comes ↦ let later : b ≡ max a b = omega arith in ap (λ (now : ℕ). told now s) later
      ])
  | inr comes ↦
      let first : TimersAt = record { time = a; timers = map (expired a) s.timers } in
      let is : told a s ≡ first = told_now a s comes in
      elim (cases_lt b a) [
        | inl past ↦
            let later : a ≡ max a b = omega arith in
            ap (told b) is ∙ told_past b first past ∙ sym is ∙ ap (λ (now : ℕ). told now s) later
        | inr more ↦
            let later : b ≡ max a b = omega arith in
            let all : map (expired b) (map (expired a) s.timers) ≡ map (expired b) s.timers = all_expired a b s.timers more short in
            ap (told b) is ∙ told_now b first more ∙ rw all (sym (told_now b s (omega arith))) ∙ ap (λ (now : ℕ). told now s) later
      ]
]

-- of the times that are told the latest counts
pub latest_counts : (s : TimersAt) (first : ℕ) (times : List ℕ) → All (λ time. time < 2 ^ 64) (first ∷ times) →
    fold (λ s now. told now s) s (first ∷ times) ≡ told (fold (λ latest now. max latest now) first times) s
latest_counts s first [] short = refl
latest_counts s first (now ∷ times) short =
    let short' : All (λ time. time < 2 ^ 64) (now ∷ times) = All-tail (λ time. time < 2 ^ 64) first (now ∷ times) short in
    let first_short : first < 2 ^ 64 = All-head (λ time. time < 2 ^ 64) first (now ∷ times) short in
    let now_short : now < 2 ^ 64 = All-head (λ time. time < 2 ^ 64) now times short' in
    let rest : All (λ time. time < 2 ^ 64) (max first now ∷ times) =
    All-cons (λ time. time < 2 ^ 64) (max first now) times (omega arith) (All-tail (λ time. time < 2 ^ 64) now times short') in
    let F : TimersAt → TimersAt = λ (t : TimersAt). fold (λ s now. told now s) t times in
    ap F (told_twice first now s now_short) ∙ latest_counts s (max first now) times rest
