-- A record of a run is its calls, and a replay of it answers them alike.
use Rattle.std.proofs.Common.{ℕ, ℤ, ◌+◌, ◌≡◌, Bool, true, false, List, [], ◌∷◌, ◌++◌, length, map, refl, sym, ◌∙◌, ap, ap₂, subst, inl, inr, arith, add-zero, append_assoc, length-append}
use Rattle.std.specs.Prelude.{Result, Ok, Err, ◌&&◌, if◌then◌else◌}
use Rattle.std.proofs.lemmas.List.{append-nil}
use base.Stored.{Gv}
use Rattle.vmm_sys.specs.declared.entries.EpollEvent.{EpollEvent}
use Rattle.vmm_sys.specs.declared.entries.ControlOperation.{ControlOperation}
use Rattle.vmm_sys.specs.declared.errno.Errno.{Errno}
use Rattle.poller_records.specs.declared.record.RecordEntry.{RecordEntry}
use Rattle.poller_records.specs.declared.record.RecordEntry.TheVariants.{Reported}
use Rattle.vmm_sys.specs.Poller.{CtlRelation, WaitRelation}
use Rattle.poller_records.specs.Record.{entries_of_ctl, entries_of_wait, IsReport}
use Rattle.poller_records.specs.Recording as recording
use Rattle.poller_records.specs.Recording.{Recording, recorded, with_poller, recording_code}
use Rattle.poller_records.specs.Replay.{Replay, Passes, AnswersCtl, AnswersWait, replay_code, MayCtl, MayWait}
use Rattle.poller_records.specs.PollerRun.{Call, Ctl, Wait, question, entries_of_calls, Runs}

-- of two tests that both hold the first does
left-true : (a b : Bool) → (a && b) ≡ true → a ≡ true
left-true true b e = refl
left-true false b e = cc

-- a call after which the record is complete is in it
kept : (r : Recording Gv) (poller : Gv) (call : List RecordEntry) → (recorded (with_poller r poller) call).complete ≡ true → (r.complete ≡ true)
    × ((recorded (with_poller r poller) call).entries ≡ r.entries ++ call)
kept r poller call full = (left-true r.complete _ full, ap (λ b. if b then r.entries ++ call else r.entries) full)

module _ (may_ctl : CtlRelation) (may_wait : WaitRelation) where
  -- from r, from which nothing was left out, these calls led to t and are recorded there
  abbrev IsRecorded : List Call → Recording Gv → Recording Gv → Type 0
  IsRecorded calls t r = (r.complete ≡ true) × (t.entries ≡ r.entries ++ entries_of_calls calls) × Runs may_ctl may_wait r.poller calls t.poller

  -- a run that ends with a complete record is recorded
  pub recorded-run : (calls : List Call) (r t : Recording Gv) → t.complete ≡ true
      → Runs (recording.MayCtl may_ctl) (recording.MayWait may_wait) (recording_code.code r) calls (recording_code.code t) → IsRecorded calls t r
  recorded-run [] r t full h =
      let same : t ≡ r = sym (recording_code.inj r t h) in
      subst (IsRecorded [] t) same (full, sym (append-nil t.entries), refl)
  recorded-run (Ctl op fd event answer ∷ calls) r t full (next, (s, poller, is, may, left), rest) =
      let call = entries_of_ctl op fd event answer in
      let later = recorded-run calls (recorded (with_poller s poller) call) t full
      (subst (λ v. Runs (recording.MayCtl may_ctl) (recording.MayWait may_wait) v calls (recording_code.code t)) left rest) in
      let first = kept s poller call later.0 in
      let entries : t.entries ≡ s.entries ++ (call ++ entries_of_calls calls) =
      later.1 ∙ ap (λ l. l ++ entries_of_calls calls) first.1 ∙ append_assoc s.entries call (entries_of_calls calls) in
      subst (IsRecorded (Ctl op fd event answer ∷ calls) t) (sym (recording_code.inj r s is)) (first.0, entries, (poller, may, later.2))
  recorded-run (Wait ms room answer events ∷ calls) r t full (next, report, (s, poller, is, may, left), rest) =
      let call = entries_of_wait ms room answer events in
      let later = recorded-run calls (recorded (with_poller s poller) call) t full
      (subst (λ v. Runs (recording.MayCtl may_ctl) (recording.MayWait may_wait) v calls (recording_code.code t)) left rest) in
      let first = kept s poller call later.0 in
      let entries : t.entries ≡ s.entries ++ (call ++ entries_of_calls calls) =
      later.1 ∙ ap (λ l. l ++ entries_of_calls calls) first.1 ∙ append_assoc s.entries call (entries_of_calls calls) in
      subst (IsRecorded (Wait ms room answer events ∷ calls) t) (sym (recording_code.inj r s is)) (first.0, entries, (poller, report, may, later.2))

-- what is left where these entries were passed
abbrev passed_by : Replay → List RecordEntry → List RecordEntry → Replay
passed_by s call rest = record { passed = s.passed + length call; ahead = rest; diverged = false }

-- a replay that passes a call stands there
passes-to : {s t : Replay} {call rest : List RecordEntry} → Passes s call t → t.ahead ≡ rest → t ≡ passed_by s call rest
passes-to p e = λ i. record { passed = p.count i; ahead = e i; diverged = p.agrees i }

-- a recorded `ctl` is answered as it was
pub ctl-answered : (s t : Replay) (op : ControlOperation) (fd : ℤ) (event : EpollEvent) (answer other : Result (Unit {0}) Errno)
    (rest : List RecordEntry) → s.diverged ≡ false → s.ahead ≡ entries_of_ctl op fd event answer ++ rest
    → AnswersCtl s op fd event other t → (other ≡ answer) × (t ≡ passed_by s (entries_of_ctl op fd event answer) rest)
ctl-answered s t op fd event answer other rest agreed ahead (inl p) =
    let next = p.next in
    let same : other ≡ answer = cc in
    let behind : t.ahead ≡ rest = cc in
    (same, passes-to p behind)
ctl-answered s t op fd event answer other rest agreed ahead (inr q) =
    absurd (q.0 answer (passed_by s (entries_of_ctl op fd event answer) rest) (record { agreed = agreed; next = ahead; count = refl; agrees = refl }))

-- two reports as long as each other, at the front of one record, are one
same-report : (a b : List EpollEvent) (x y : List RecordEntry) → length a ≡ length b → map Reported a ++ x ≡ map Reported b ++ y → (a ≡ b) × (x ≡ y)
same-report [] [] x y n e = (refl, e)
same-report [] (f ∷ b) x y n e = absurd (omega arith)
same-report (d ∷ a) [] x y n e = absurd (omega arith)
same-report (d ∷ a) (f ∷ b) x y n e =
    let head : d ≡ f = cc in
    let tail : map Reported a ++ x ≡ map Reported b ++ y = cc in
    let later = same-report a b x y (omega arith) tail in
    (ap₂ (λ h l. h ∷ l) head later.0, later.1)

-- one answer has reports of one length
same-length : (room : ℕ) (answer : Result ℕ Errno) (a b : List EpollEvent) → IsReport room answer a → IsReport room answer b → length a ≡ length b
same-length room (Ok count) a b h k = h.0 ∙ sym k.0
same-length room (Err errno) a b h k = ap length (h ∙ sym k)

-- a recorded wait is answered as it was, with its report
pub wait-answered : (s t : Replay) (ms : ℤ) (room : ℕ) (answer other : Result ℕ Errno) (events found : List EpollEvent) (rest : List RecordEntry)
    → s.diverged ≡ false → IsReport room answer events → s.ahead ≡ entries_of_wait ms room answer events ++ rest
    → AnswersWait s ms room other found t → (other ≡ answer) × (found ≡ events) × (t ≡ passed_by s (entries_of_wait ms room answer events) rest)
wait-answered s t ms room answer other events found rest agreed report ahead (inl p) =
    let next = p.1.next in
    let same : other ≡ answer = cc in
    let tails : map Reported found ++ t.ahead ≡ map Reported events ++ rest = cc in
    let long = same-length room answer found events (subst (λ a. IsReport room a found) same p.0) report in
    let both = same-report found events t.ahead rest long tails in
    let after : t ≡ passed_by s (entries_of_wait ms room other found) rest = passes-to p.1 both.1 in (
      same,
      both.0,
      after ∙ ap (λ a. passed_by s (entries_of_wait ms room a found) rest) same
          ∙ ap (λ l. passed_by s (entries_of_wait ms room answer l) rest) both.0,
    )
wait-answered s t ms room answer other events found rest agreed report ahead (inr q) =
    absurd (q.0 answer events (passed_by s (entries_of_wait ms room answer events) rest) report
    (record { agreed = agreed; next = ahead; count = refl; agrees = refl }))

module _ (may_ctl : CtlRelation) (may_wait : WaitRelation) (later : List RecordEntry) where
  -- the others are these calls, and the replay has passed their entries
  abbrev pub AreReplayed : Replay → Gv → List Call → List Call → Type 0
  AreReplayed s end calls others = (others ≡ calls) × (end ≡ replay_code.code (passed_by s (entries_of_calls calls) later))

  -- the same behind one more call
  one-more : (s : Replay) (call : List RecordEntry) (end : Gv) (c d : Call) (calls others : List Call) → d ≡ c
      → entries_of_calls (c ∷ calls) ≡ call ++ entries_of_calls calls
      → AreReplayed (passed_by s call (entries_of_calls calls ++ later)) end calls others → AreReplayed s end (c ∷ calls) (d ∷ others)
  one-more s call end c d calls others same entries h =
      let count : (s.passed + length call) + length (entries_of_calls calls) ≡ s.passed + length (entries_of_calls (c ∷ calls)) =
      rw (entries, length-append) (omega arith) in
      (ap₂ (λ x l. x ∷ l) same h.0, h.1 ∙ ap (λ n. replay_code.code (record { passed = n; ahead = later; diverged = false })) count)

  -- a replay that is asked what these calls asked answers as they were answered
  pub replayed-run : (calls others : List Call) (before after : Gv) (s : Replay) (end : Gv) → Runs may_ctl may_wait before calls after
      → map question others ≡ map question calls → s.diverged ≡ false → s.ahead ≡ entries_of_calls calls ++ later
      → Runs MayCtl MayWait (replay_code.code s) others end → AreReplayed s end calls others
  replayed-run [] [] before after s end run asked agreed ahead h =
      let same : s ≡ passed_by s [] later = λ i. record { passed = sym (add-zero s.passed) i; ahead = ahead i; diverged = agreed i } in
      (refl, sym h ∙ ap replay_code.code same)
  replayed-run [] (d ∷ others) before after s end run asked agreed ahead h = cc
  replayed-run (c ∷ calls) [] before after s end run asked agreed ahead h = cc
  replayed-run (Ctl op fd event answer ∷ calls) (Wait ms room other found ∷ others) before after s end run asked agreed ahead h = cc
  replayed-run (Wait ms room answer events ∷ calls) (Ctl op fd event other ∷ others) before after s end run asked agreed ahead h = cc
  replayed-run (Ctl op fd event answer ∷ calls) (Ctl op' fd' event' other ∷ others) before after s end (middle, _, run) asked agreed ahead
      (next, (u, t, is, left, answered), rest) =
      let call = entries_of_ctl op fd event answer in
      let op_is : op' ≡ op = cc in
      let fd_is : fd' ≡ fd = cc in
      let event_is : event' ≡ event = cc in
      let tails : map question others ≡ map question calls = cc in
      let state : u ≡ s = sym (replay_code.inj s u is) in
      let At : Replay × (ControlOperation × (ℤ × EpollEvent)) → Type 0 = λ x. AnswersCtl x.0 x.1.0 x.1.1.0 x.1.1.1 other t in
      let at : AnswersCtl s op fd event other t = subst At (λ i. (state i, (op_is i, (fd_is i, event_is i)))) answered in
      let one = ctl-answered s t op fd event answer other (entries_of_calls calls ++ later) agreed ahead at in
      let same : Ctl op' fd' event' other ≡ Ctl op fd event answer = λ i. Ctl (op_is i) (fd_is i) (event_is i) (one.0 i) in
      let others_run = subst (λ v. Runs MayCtl MayWait v others end) (left ∙ ap replay_code.code one.1) rest in
      one-more s call end _ _ calls others same refl
      (replayed-run calls others middle after (passed_by s call (entries_of_calls calls ++ later)) end run tails refl refl others_run)
  replayed-run (Wait ms room answer events ∷ calls) (Wait ms' room' other found ∷ others) before after s end
      (middle, report, _, run) asked agreed ahead (next, _, (u, t, is, left, answered), rest) =
      let call = entries_of_wait ms room answer events in
      let ms_is : ms' ≡ ms = cc in
      let room_is : room' ≡ room = cc in
      let tails : map question others ≡ map question calls = cc in
      let state : u ≡ s = sym (replay_code.inj s u is) in
      let At : Replay × (ℤ × ℕ) → Type 0 = λ x. AnswersWait x.0 x.1.0 x.1.1 other found t in
      let at : AnswersWait s ms room other found t = subst At (λ i. (state i, (ms_is i, room_is i))) answered in
      let next_is : s.ahead ≡ call ++ (entries_of_calls calls ++ later) = ahead ∙ append_assoc call (entries_of_calls calls) later in
      let one = wait-answered s t ms room answer other events found (entries_of_calls calls ++ later) agreed report next_is at in
      let same : Wait ms' room' other found ≡ Wait ms room answer events = λ i. Wait (ms_is i) (room_is i) (one.0 i) (one.1 i) in
      let others_run = subst (λ v. Runs MayCtl MayWait v others end) (left ∙ ap replay_code.code one.2) rest in
      one-more s call end _ _ calls others same refl
      (replayed-run calls others middle after (passed_by s call (entries_of_calls calls ++ later)) end run tails refl refl others_run)
