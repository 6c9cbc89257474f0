-- A wait with timers beside the poller, by who comes first.
use Rattle.std.proofs.Common.{ℕ, ℤ, ◌≡◌, ◌≢◌, ◌+◌, ◌-◌, ◌<◌, ◌≤◌, Bool, true, false, eqb, List, [], ◌∷◌, ◌++◌, length, take, drop, map, filter, refl, ap, subst, sym, ◌∙◌, arith, inl, inr}
use Rattle.std.specs.Prelude.{Result, Err, ◌⊎◌, ◌==◌, MatchBool}
use Rattle.std.proofs.lemmas.Bool.{eqb-false, cases_Bool}
use Rattle.std.proofs.lemmas.List.{length-append, length-drop, length-take, length-map, take-append-le}
use Rattle.std.proofs.Math.Seq.{take-append-add, take-append_seam}
use base.Stored.{Gv}
use Rattle.vmm_sys.specs.declared.entries.EpollEvent.{EpollEvent}
use Rattle.vmm_sys.specs.declared.errno.Errno.{Errno}
use Rattle.vmm_sys.specs.declared.errno.TheConstants.Errno.{EINVAL}
use Rattle.vmm_sys.specs.Poller.{reported, WaitRelation}
use Rattle.vmm_sys.specs.Table.{wait_of, filled, chosen, entry_of, is_ready}
use Rattle.timerfd.specs.TimerTable.{TimerTableState, table_of, AreReached}
use Rattle.timerfd.specs.Limits.{IsLimit}
use Rattle.timerfd.specs.TimedPoller.{Timed, with_poller, timed_code, report_of, or_late, counted_by, unless_refused, FromBelow, FromTimers, TimersFirst, OthersFirst, MayWait}
use Rattle.timerfd.proofs.BesideTimers.{seen}

-- timers report no more than there is room for
report_fits : (s : TimerTableState) (room : ℕ) → length (report_of s room) ≤ room
report_fits s room =
    let t = table_of s in
    let size : length (map (entry_of t.sources) (chosen t room)) ≡ length (chosen t room) = length-map (chosen t room) (entry_of t.sources) in
    elim (cases_Bool (eqb room 0)) [
      | inl none ↦ simp none (omega arith)
      | inr some ↦ simp some (omega (arith, size, length-take room (filter (is_ready t.sources) t.interests)))
    ]

module _ (s : TimerTableState) (b mid : List EpollEvent) (k : ℕ) (size : k ≡ length (report_of s (length b))) (is : mid ≡ filled (wait_of (table_of s) (length b)) b) where
  -- the buffer behind a report is as long as before
  pub same_room : length mid ≡ length b
  same_room =
      let es = report_of s (length b) in
      rw is (omega (arith, length-append es (drop (length es) b), length-drop (length es) b, report_fits s (length b)))

  -- what timers reported stands in front
  pub in_front : take k mid ≡ report_of s (length b)
  in_front = let es = report_of s (length b) in rw (is, size) (take-append_seam es (drop (length es) b))

-- where what timers reported is none, they are not late
pub none_late : (front others : List EpollEvent) → or_late front (front ++ others) ≡ front ++ others
none_late [] [] = refl
none_late [] (e ∷ others) = refl
none_late (e ∷ front) others = refl

-- what is reported behind the entries in front
module _ (front new rest : List EpollEvent) (k n : ℕ) (size : k ≡ length front) (fits : n ≤ length new) where
  pub behind_front : take (k + n) (front ++ (new ++ rest)) ≡ front ++ take n new
  behind_front = ap (λ j. take (j + n) (front ++ (new ++ rest))) size ∙ take-append-add front (new ++ rest) n ∙ ap (λ l. front ++ l) (take-append-le n new rest fits)

  pub count_behind : k + n ≡ length (front ++ take n new)
  count_behind = omega (arith, size, fits, length-append front (take n new), length-take n new)

-- a report behind the first n entries
module _ (s : TimerTableState) (new after : List EpollEvent) (n m room : ℕ) (within : n ≤ length new) (same : length new ≡ room)
    (size : m ≡ length (report_of s (length (take (length new - n) (drop n new))))) (is : after ≡ filled (wait_of (table_of s) (length (take (length new - n) (drop n new)))) (take (length new - n) (drop n new))) where
  abbrev free : List EpollEvent
  free = take (length new - n) (drop n new)

  room_behind : length free ≡ room - length (take n new)
  room_behind = omega (arith, length-take (length new - n) (drop n new), length-drop n new, length-take n new, within, same)

  pub reports_behind : (rest : List EpollEvent) → take (n + m) (take n new ++ (after ++ rest)) ≡ take n new ++ report_of s (room - length (take n new))
  reports_behind rest =
      let size_is : n ≡ length (take n new) = omega (arith, length-take n new, within) in
      let fits : m ≤ length after = omega (arith, size, report_fits s (length free), same_room s free after m size is) in
      behind_front (take n new) after rest n m size_is fits
      ∙ ap (λ l. take n new ++ l) (in_front s free after m size is ∙ ap (λ k. report_of s k) room_behind)

  pub counts_behind : n + m ≡ length (take n new ++ report_of s (room - length (take n new)))
  counts_behind =
      let there : m ≡ length (report_of s (room - length (take n new))) = size ∙ ap (λ k. length (report_of s k)) room_behind in
      omega (arith, there, within, length-take n new, length-append (take n new) (report_of s (room - length (take n new))))

-- a poller below was asked in the state of `r`, and what was read of the fields is that of `before`
module _ {P : Type 0} (meaning : P → Gv) {r before left : Timed P} (is : r ≡ before) (first : Bool)
    (others : left ≡ with_poller (record { poller = r.poller; counter = r.counter; others_first = first }) left.poller) (turn : first ≡ false) where
  after_below : seen meaning left ≡ timed_code.code (record { poller = meaning left.poller; counter = before.counter; others_first = false })
  after_below =
      let at : ℤ → Bool → Gv = λ counter b. timed_code.code (record { poller = meaning left.poller; counter = counter; others_first = b }) in
      ap (λ (s : Timed P). timed_code.code (with_poller s (meaning left.poller))) others ∙ ap (at r.counter) turn ∙ ap (λ (t : Timed P). at t.counter false) is

  module _ (may_wait : WaitRelation) {z ms : ℤ} (same : z ≡ ms) (s : TimerTableState) (reached : AreReached s) (known : Bool) {limit limit' : ℤ} {m : ℕ} (limits : IsLimit s known z limit) (at_limit : limit' ≡ limit) (answer : Result ℕ Errno) (new : List EpollEvent)
      (below : FromBelow may_wait (meaning r.poller) limit' m answer (reported answer new) (meaning left.poller)) where
    limits_ms : IsLimit s known ms limit
    limits_ms = subst (λ n. IsLimit s known n limit) same limits

    -- that was with this limit and room
    asked : (room : ℕ) → m ≡ room → FromBelow may_wait (meaning before.poller) limit room answer (reported answer new) (meaning left.poller)
    asked room at_room =
        let h1 = subst (λ n. FromBelow may_wait (meaning r.poller) n m answer (reported answer new) (meaning left.poller)) at_limit below in
        let h2 = subst (λ n. FromBelow may_wait (meaning r.poller) limit n answer (reported answer new) (meaning left.poller)) at_room h1 in
        subst (λ (t : Timed P). FromBelow may_wait (meaning t.poller) limit room answer (reported answer new) (meaning left.poller)) is h2

    -- where timers came first, and which ones may have come late
    pub timers_first : (later : TimerTableState) → AreReached later → (b mid : List EpollEvent) (k : ℕ) → k ≡ length (report_of s (length b)) → mid ≡ filled (wait_of (table_of s) (length b)) b → eqb k (length mid) ≡ false → m ≡ length mid - k
        → (result : Result ℕ Errno) (entries : List EpollEvent)
        → entries ≡ unless_refused answer (or_late (report_of later (length b)) (report_of s (length b) ++ reported answer new)) → result ≡ counted_by entries answer
        → TimersFirst may_wait (with_poller before (meaning before.poller)) ms (length b) result entries (seen meaning left)
    timers_first later later_reached b mid k size is_filled not_full at_room result entries reports counts =
        let room : length mid ≡ length b = same_room s b mid k size is_filled in
        let fits = report_fits s (length b) in
        let other : k ≢ length mid = eqb-false k (length mid) not_full in
        let some : length (report_of s (length b)) < length b = omega (arith, size, room, fits, other) in
        let behind : m ≡ length b - length (report_of s (length b)) = omega (arith, at_room, room, size) in
        (s, later, known, limit, limits_ms, some, answer, reported answer new, meaning left.poller, asked _ behind, reports, counts, after_below, reached, later_reached)

    -- where none of them came late
    pub timers_in_time : (b mid : List EpollEvent) (k : ℕ) → k ≡ length (report_of s (length b)) → mid ≡ filled (wait_of (table_of s) (length b)) b → eqb k (length mid) ≡ false → m ≡ length mid - k
        → (result : Result ℕ Errno) (entries : List EpollEvent)
        → entries ≡ unless_refused answer (report_of s (length b) ++ reported answer new) → result ≡ counted_by (unless_refused answer (report_of s (length b) ++ reported answer new)) answer
        → TimersFirst may_wait (with_poller before (meaning before.poller)) ms (length b) result entries (seen meaning left)
    timers_in_time b mid k size is_filled not_full at_room result entries reports counts =
        timers_first s reached b mid k size is_filled not_full at_room result entries
        (reports ∙ ap (λ es. unless_refused answer es) (sym (none_late (report_of s (length b)) (reported answer new))))
        (subst (λ es. result ≡ counted_by es answer) (sym reports) counts)

    -- where the poller below came first
    pub others_first : (room : ℕ) → m ≡ room → (later : TimerTableState) → AreReached later → (result : Result ℕ Errno) (entries : List EpollEvent)
        → entries ≡ unless_refused answer (reported answer new ++ report_of later (room - length (reported answer new)))
        → result ≡ counted_by (unless_refused answer (reported answer new ++ report_of later (room - length (reported answer new)))) answer
        → OthersFirst may_wait (with_poller before (meaning before.poller)) ms room result entries (seen meaning left)
    others_first room at_room later later_reached result entries reports counts =
        (s, later, known, limit, limits_ms, answer, reported answer new, meaning left.poller, asked room at_room, reports, subst (λ es. result ≡ counted_by es answer) (sym reports) counts, after_below, reached, later_reached)

-- the one of two that a test says
pub by_test : (b c : Bool) → b ≡ c → (A B : Type 0) → MatchBool c A B → MatchBool b A B
by_test b c is A B h = subst (λ x. MatchBool x A B) (sym is) h

-- a wait is one of these, by the room and by who comes first
module _ {P : Type 0} (meaning : P → Gv) (may_wait : WaitRelation) {r before : Timed P} (is : r ≡ before) {z ms : ℤ} (same : z ≡ ms) (room : ℕ) (answer : Result ℕ Errno) (entries : List EpollEvent) (after : Gv) where
  abbrev now : Timed Gv
  now = with_poller before (meaning before.poller)

  first_is : (b : Bool) → r.others_first ≡ b → before.others_first ≡ b
  first_is b turn = subst (λ (t : Timed P). t.others_first ≡ b) is turn

  pub where_others_come_first : (room == 0) ≡ false → r.others_first ≡ true → OthersFirst may_wait now z room answer entries after → MayWait may_wait (seen meaning before) ms room answer entries after
  where_others_come_first some turn h =
      let at_ms : OthersFirst may_wait now ms room answer entries after = subst (λ n. OthersFirst may_wait now n room answer entries after) same h in
      (now, refl, by_test _ false some _ _ (by_test _ true (first_is true turn) _ _ at_ms))

  pub where_timers_come_first : (room == 0) ≡ false → r.others_first ≡ false → FromTimers now room answer entries after ⊎ TimersFirst may_wait now z room answer entries after
      → MayWait may_wait (seen meaning before) ms room answer entries after
  where_timers_come_first some turn h =
      let at_ms : FromTimers now room answer entries after ⊎ TimersFirst may_wait now ms room answer entries after =
      subst (λ n. FromTimers now room answer entries after ⊎ TimersFirst may_wait now n room answer entries after) same h in
      (now, refl, by_test _ false some _ _ (by_test _ false (first_is false turn) _ _ at_ms))

-- without room it is refused
pub without_room : {P : Type 0} (meaning : P → Gv) (may_wait : WaitRelation) (before : Timed P) (ms : ℤ) (room : ℕ) → (room == 0) ≡ true
    → MayWait may_wait (seen meaning before) ms room (Err EINVAL) [] (seen meaning before)
without_room meaning may_wait before ms room none = (with_poller before (meaning before.poller), refl, by_test _ true none _ _ (refl, refl, refl))
