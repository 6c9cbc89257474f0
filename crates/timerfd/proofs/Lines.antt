-- A table whose lines are timers.
use Rattle.std.proofs.Common.{ℕ, zero, suc, pos, ◌≡◌, ◌<◌, inl, inr, Bool, true, false, List, length, get_or, set, take, ◌-◌, Option, Some, None, Result, arith, refl, sym, ap, ◌∙◌, subst, nat_lt}
use Rattle.std.specs.Prelude.{slice_get, map, not, ◌==◌, ◌⊎◌, ◌≢◌, nat_le, if◌then◌else◌, IfOk, ℤ, Ok, Err, ◌++◌, ◌∷◌, []}
use Rattle.std.specs.List.{All}
use Rattle.std.proofs.lemmas.List.{map-set, length-map, length-set, length_push}
use Rattle.std.proofs.lemmas.List.Elements.{All-map, All-get_or}
use Rattle.std.proofs.lemmas.Option.{slice_get_within, get_or_from_slice_get}
use Rattle.std.proofs.lemmas.Bool.{cases_Bool}
use Rattle.std.proofs.lemmas.Grind.{common_steps}
use Rattle.vmm_sys.specs.declared.errno.Errno.{Errno}
use Rattle.vmm_sys.specs.declared.errno.TheConstants.Errno.{EMFILE}
use Rattle.vmm_sys.specs.declared.event_set.EventSet.{EventSet}
use Rattle.vmm_sys.specs.declared.table.source.Source.{Source}
use Rattle.vmm_sys.specs.declared.table.source.Source.TheVariants.{Counter, Line, Closed}
use Rattle.vmm_sys.specs.EventSet.{with_bits}
use Rattle.vmm_sys.specs.Table.{TableState, Answers, AnswersWithMemory, is_open, first_closed, open_at, add_line_of, close_at, close_of, set_at, set_line_of}
use Rattle.timerfd.specs.declared.timer.Timer.{Timer}
use Rattle.timerfd.specs.Timer.{disarmed, armed, stopped, expired}
use Rattle.timerfd.specs.Dues.{is_due}
use Rattle.timerfd.specs.Timers.{TimersAt, timer_at, with_timer, told as told_at}
use Rattle.timerfd.specs.TimerTable.{line, line_of, with_line, IsTableOf, IsOpened, AreLines}
use Rattle.timerfd.proofs.Due.{none_due}

abbrev IsLine : Source → Type 0
IsLine s = ((old : EventSet) × (s ≡ Line old)) ⊎ (s ≡ Closed)

-- by what is found at the number: no counter stands among lines
set_found : (t : TableState) (n : ℕ) (new : EventSet) (found : Option Source) (result : Result (Unit {0}) Errno) (after : TableState)
    → AreLines t.sources → slice_get t.sources n ≡ found → Answers (set_at t (pos n) new found) t result after → after ≡ record t { sources = with_line t.sources n (Line new) }
set_found t n new (Some (Line old)) result after lines is answers = rw is answers.1
set_found t n new (Some (Counter held)) result after lines is answers =
    let at = get_or_from_slice_get t.sources n (Counter held) (Counter held) is in
    elim (All-get_or IsLine t.sources n (Counter held) (slice_get_within t.sources n (Counter held) is) lines) [
      | inl (old, line) ↦ cc
      | inr closed ↦ cc
    ]
set_found t n new (Some Closed) result after lines is answers = rw is answers.1
set_found t n new None result after lines is answers = rw is answers.1

-- what stands for a line is put in; where none is open nothing changes
pub line_set : (t : TableState) (n : ℕ) (new : EventSet) (result : Result (Unit {0}) Errno) (after : TableState)
    → AreLines t.sources → Answers (set_line_of t (pos n) new) t result after → after ≡ record t { sources = with_line t.sources n (Line new) }
line_set t n new result after lines answers = set_found t n new (slice_get t.sources n) result after lines refl answers

-- a line is opened: at the lowest closed number, or behind all others
abbrev pub IsAdded : Option ℕ → TableState → TableState → ℕ → Type 0
IsAdded (Some k) t u n = (n ≡ k) × (u ≡ record t { sources = set t.sources k (line false) })
IsAdded None t u n = (n ≡ length t.sources) × (length t.sources < t.limit) × (u ≡ record t { sources = t.sources ++ line false ∷ [] })

abbrev pub IsAddedAt : Option ℕ → TableState → TableState → ℤ → Type 0
IsAddedAt o t u fd = (n : ℕ) × (fd ≡ pos n) × IsAdded o t u n

added_if : (t u : TableState) (result : Result ℤ Errno) (b : Bool) → nat_le t.limit (length t.sources) ≡ b
    → Answers (if b then Err EMFILE else Ok (pos (length t.sources), record t { sources = t.sources ++ line false ∷ [] })) t result u → IfOk result (IsAddedAt None t u)
added_if t u result true e answers = rw answers.0 tt
added_if t u result false e answers = rw answers.0 (length t.sources, refl, (refl, grind (arith, common_steps), answers.1))

added_by : (t u : TableState) (result : Result ℤ Errno) (o : Option ℕ) → AnswersWithMemory (open_at t (line false) o) t result u → IfOk result (IsAddedAt o t u)
added_by t u result (Some k) (inl answers) = rw answers.0 (k, refl, (refl, answers.1))
added_by t u result None (inl answers) = added_if t u result (nat_le t.limit (length t.sources)) refl answers
added_by t u result o (inr (ok, refused, same)) = rw refused tt

pub line_added : (t u : TableState) (result : Result ℤ Errno) → AnswersWithMemory (add_line_of t) t result u → IfOk result (IsAddedAt (first_closed t) t u)
line_added t u result answers = added_by t u result (first_closed t) answers

-- a close that is agreed closes the number, whatever it leaves of the interests
closed_by : (t u : TableState) (n : ℕ) (result : Result (Unit {0}) Errno) (b : Bool) → Answers (close_at t (if b then Some n else None)) t result u → result ≡ Ok tt → u ≡ record t { interests = u.interests; sources = set t.sources n Closed }
closed_by t u n result true answers ok = rw answers.1 refl
closed_by t u n result false answers ok = cc

pub line_closed : (t u : TableState) (n : ℕ) (result : Result (Unit {0}) Errno) → Answers (close_of t (pos n)) t result u → result ≡ Ok tt → u ≡ record t { interests = u.interests; sources = set t.sources n Closed }
line_closed t u n result answers ok = closed_by t u n result (is_open (slice_get t.sources n)) answers ok

-- a timer that takes the place of another one, open where that is, takes its line's place
line_by : (b : Bool) (t : Timer) (ready : Bool) → t.is_open ≡ b → not (t.expirations == 0) ≡ ready → line_of t ≡ (if b then line ready else Closed)
line_by true t ready e is = rw (e, is) refl
line_by false t ready e is = rw e refl

put_here : (b : Bool) (x t : Timer) (ready : Bool) (ys : List Source) → x.is_open ≡ b → t.is_open ≡ b → (b ≡ true → not (t.expirations == 0) ≡ ready) →
    line_of t ∷ ys ≡ (if is_open (Some (line_of x)) then line ready ∷ ys else line_of x ∷ ys)
put_here true x t ready ys e f is = rw (e, f, is refl) refl
put_here false x t ready ys e f is = rw (e, f) refl

push_if : (b : Bool) (y : Source) (xs ys : List Source) → y ∷ (if b then xs else ys) ≡ (if b then y ∷ xs else y ∷ ys)
push_if true y xs ys = refl
push_if false y xs ys = refl

put_line : (timers : List Timer) (index : ℕ) (t : Timer) (ready : Bool) → t.is_open ≡ (timer_at timers index).is_open → (t.is_open ≡ true → not (t.expirations == 0) ≡ ready) →
    map line_of (set timers index t) ≡ with_line (map line_of timers) index (line ready)
put_line [] zero t ready same is = refl
put_line [] (suc index) t ready same is = refl
put_line (x ∷ timers) zero t ready same is = put_here x.is_open x t ready (map line_of timers) refl same (λ there. is (same ∙ there))
put_line (x ∷ timers) (suc index) t ready same is =
    ap (λ l. line_of x ∷ l) (put_line timers index t ready same is) ∙ push_if (is_open (slice_get (map line_of timers) index)) (line_of x) (set (map line_of timers) index (line ready)) (map line_of timers)

-- what takes a timer's place is as open as that, and an open one has nothing to take
abbrev StaysWithNothing : Timer → Timer → Type 0
StaysWithNothing t new = (new.is_open ≡ t.is_open) × (new.is_open ≡ true → not (new.expirations == 0) ≡ false)

armed_if : (b : Bool) (due interval : ℕ) (t : Timer) → t.is_open ≡ b → StaysWithNothing t (armed due interval t)
armed_if true due interval t e = rw e (refl, λ there. refl)
armed_if false due interval t e = rw e (refl, λ there. cc)

pub armed_anew : (due interval : ℕ) (t : Timer) → StaysWithNothing t (armed due interval t)
armed_anew due interval t = armed_if t.is_open due interval t refl

stopped_if : (b : Bool) (t : Timer) → t.is_open ≡ b → StaysWithNothing t (stopped t)
stopped_if true t e = rw e (refl, λ there. refl)
stopped_if false t e = rw e (refl, λ there. cc)

pub stopped_anew : (t : Timer) → StaysWithNothing t (stopped t)
stopped_anew t = stopped_if t.is_open t refl

-- a timer that is due has something to take once it has expired
pub ready_once_expired : (now : ℕ) (t : Timer) → is_due now t.due ≡ true → not ((expired now t).expirations == 0) ≡ true
ready_once_expired now t due = grind arith

-- and stays as open as it was
pub open_as_it_was : (now : ℕ) (t : Timer) → (expired now t).is_open ≡ t.is_open
open_as_it_was now t = grind arith

line_or_closed : (b : Bool) (t : Timer) → t.is_open ≡ b → IsLine (line_of t)
line_or_closed true t e = inl (with_bits (if not (t.expirations == 0) then 0x1 else 0), rw e refl)
line_or_closed false t e = inr (rw e refl)

-- the last timer is taken back
pub taken_back : (told told' : TimersAt) → told' ≡ record told { timers = told.timers ++ disarmed ∷ [] } → record { time = told'.time; timers = take (length told'.timers - 1) told'.timers } ≡ told
taken_back told told' is =
    let one_less : length (told.timers ++ disarmed ∷ []) - 1 ≡ length told.timers = (let more = length_push told.timers disarmed in omega arith) in
    let back : take (length told.timers) (told.timers ++ disarmed ∷ []) ≡ told.timers = grind (arith, common_steps) in
    rw (is, one_less) (ap (λ (timers : List Timer). let s : TimersAt = record { time = told.time; timers = timers } in s) back)

module _ (told : TimersAt) (table : TableState) (tied : IsTableOf told table) where
  -- timers are lines, or closed
  pub all_lines : AreLines table.sources
  all_lines = subst (λ (t : TableState). AreLines t.sources) (sym tied.0) (All-map IsLine line_of told.timers (λ k d within. line_or_closed (get_or told.timers k d).is_open (get_or told.timers k d) refl))

  count : length table.sources ≡ length told.timers
  count = ap (λ (t : TableState). length t.sources) tied.0 ∙ length-map told.timers line_of

  limit_is : table.limit ≡ 2147483648
  limit_is = ap (λ (t : TableState). t.limit) tied.0

  -- a timer and its line are put in together
  pub tied_put : (index : ℕ) (t : Timer) (ready : Bool) (told' : TimersAt) (table' : TableState) → t.is_open ≡ (timer_at told.timers index).is_open → (t.is_open ≡ true → not (t.expirations == 0) ≡ ready)
      → told' ≡ with_timer told index t → table' ≡ record table { sources = with_line table.sources index (line ready) } → IsTableOf told' table'
  tied_put index t ready told' table' same_state is timers lines =
      let same = ap (λ (x : TableState). record table { limit = x.limit; sources = with_line x.sources index (line ready) }) tied.0 in
      rw (lines, timers) (rw (← put_line told.timers index t ready same_state is) at same, rw (length-set told.timers index t) tied.1)

  -- or set together, whatever there was
  pub tied_set : (index : ℕ) (t : Timer) (s : Source) (told' : TimersAt) (u : TableState) → line_of t ≡ s → told' ≡ with_timer told index t
      → u ≡ record table { interests = u.interests; sources = set table.sources index s } → IsTableOf told' u
  tied_set index t s told' u is timers lines =
      let put : TableState → TableState = λ x. record { limit = x.limit; sources = set x.sources index s; interests = u.interests } in
      let same = ap put tied.0 in
      (lines ∙ rw (timers, ← is) (rw (← is, ← map-set line_of told.timers index t) at same), rw (timers, length-set told.timers index t) tied.1)

  -- what is opened is the lowest closed timer, or one behind all others
  abbrev IsOpenedWith : Option ℕ → TableState → ℕ → TimersAt → Type 0
  IsOpenedWith o u n told' = IsOpened o told n told' × IsTableOf told' u

  opened_again : (o : Option ℕ) (u : TableState) (n : ℕ) (told' : TimersAt) → IsAdded o table u n → n ≢ length told.timers → told' ≡ with_timer told n disarmed → IsOpenedWith o u n told'
  opened_again None u n told' (number, below, lines) other timers = absurd (other (number ∙ count))
  opened_again (Some k) u n told' (number, lines) other timers =
      let again : told' ≡ with_timer told k disarmed = timers ∙ ap (λ m. with_timer told m disarmed) number in
      ((number, again), tied_set k disarmed (line false) told' u refl again (rw lines refl))

  pub settled_again : (u : TableState) (n : ℕ) (told' : TimersAt) → IsAdded (first_closed table) table u n → n ≢ length told.timers → told' ≡ with_timer told n disarmed → IsOpenedWith (first_closed table) u n told'
  settled_again u n told' added other timers = opened_again (first_closed table) u n told' added other timers

  -- where no timer is due, the time that is told alone changes
  pub tied_time : (now : ℕ) → All (λ t. is_due now t.due ≡ false) told.timers → IsTableOf (told_at now told) table
  tied_time now none = elim (cases_Bool (nat_lt now told.time)) [
    | inl before ↦ rw before tied
    | inr after ↦ rw (after, none_due now told.timers none) tied
  ]
