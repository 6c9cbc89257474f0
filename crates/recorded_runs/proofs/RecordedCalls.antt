-- The poller calls of a recorded run, and those of a replay that didn't diverge, are the same, but for what is asked after it.
use Rattle.std.proofs.Common.{◌≡◌, pos, refl, sym, ap, ap₂, ◌∙◌, Bool, true, false, inl, inr, List, [], ◌∷◌, ◌++◌, map, length, append_assoc, arith}
use Rattle.std.specs.Prelude.{Ok, Err, ◌&&◌, if◌then◌else◌}
use Rattle.std.proofs.lemmas.List.{append-nil}
use base.Stored.{Gv}
use Rattle.vmm_sys.specs.declared.entries.EpollEvent.{EpollEvent}
use Rattle.poller_records.specs.declared.record.RecordEntry.{RecordEntry}
use Rattle.poller_records.specs.declared.record.RecordEntry.TheVariants.{Reported}
use Rattle.vmm_sys.specs.Poller.{CtlRelation, WaitRelation}
use Rattle.poller_records.specs.Record.{entries_of_ctl, entries_of_wait}
use Rattle.poller_records.specs.Recording as recording
use Rattle.poller_records.specs.Recording.{Recording, recorded, with_poller, recording_code}
use Rattle.poller_records.specs.Replay as replay
use Rattle.poller_records.specs.Replay.{Replay, Passes, divergence, replay_code}
use Rattle.dispatch_tables.specs.Event.{event_of_entry}
use Rattle.event_loop.specs.PollerCall.{PollerCall, Control, Wait, Controls, Waits, Leads}
use Rattle.event_loop.specs.PollerRelations.{entry_of_event, WaitsBy}
use Rattle.recorded_runs.proofs.SameExchanges.{AreSameCalls, eventless}

-- a call's entries in a record
abbrev IsEntered : PollerCall → List RecordEntry → Type 0
IsEntered (Control operation fd event answer) entries = entries ≡ entries_of_ctl operation (pos fd) (entry_of_event event) answer
IsEntered (Wait ms capacity (Ok events)) entries =
    (reports : List EpollEvent) × (map event_of_entry reports ≡ events) × (entries ≡ entries_of_wait ms capacity (Ok (length reports)) reports)
IsEntered (Wait ms capacity (Err errno)) entries = entries ≡ entries_of_wait ms capacity (Err errno) []

abbrev AreEntered : List PollerCall → List RecordEntry → Type 0
AreEntered [] entries = entries ≡ []
AreEntered (call ∷ calls) entries =
    (first : List RecordEntry) × (rest : List RecordEntry) × IsEntered call first × AreEntered calls rest × (entries ≡ first ++ rest)

-- of two tests that both hold the first does
left-true : (a b : Bool) → (a && b) ≡ true → a ≡ true
left-true true b e = refl
left-true false b e = cc

module _ {P : Type 0} (meaning : P → Gv) (may_ctl : CtlRelation) (may_wait : WaitRelation) where
  abbrev code_of : Recording P → Gv
  code_of r = recording_code.code (with_poller r (meaning r.poller))

  abbrev pub recording_controls : Controls (Recording P)
  recording_controls before operation fd event answer after =
      recording.MayCtl may_ctl (code_of before) operation (pos fd) (entry_of_event event) answer (code_of after)

  abbrev pub recording_waits : Waits (Recording P)
  recording_waits before ms capacity answer after = WaitsBy (recording.MayWait may_wait) (code_of before) ms capacity answer (code_of after)

  -- the calls are recorded behind what was recorded before
  abbrev AreRecorded : Recording P → List PollerCall → Recording P → Type 0
  AreRecorded before calls after =
      (entries : List RecordEntry) × (before.complete ≡ true) × AreEntered calls entries × (after.entries ≡ before.entries ++ entries)

  one_recorded : (before mid after : Recording P) (s : Recording Gv) (poller : Gv) (call : PollerCall) (calls : List PollerCall) (first : List RecordEntry)
      → IsEntered call first → code_of before ≡ recording_code.code s → code_of mid ≡ recording_code.code (recorded (with_poller s poller) first)
      → AreRecorded mid calls after → AreRecorded before (call ∷ calls) after
  one_recorded before mid after s poller call calls first entered is left (rest, full, others, entries) =
      let here = recording_code.inj (with_poller before (meaning before.poller)) s is in
      let there = recording_code.inj (with_poller mid (meaning mid.poller)) (recorded (with_poller s poller) first) left in
      let whole = sym (ap (λ (r : Recording Gv). r.complete) there) ∙ full in
      let kept = ap (λ (r : Recording Gv). r.entries) there ∙ ap (λ b. if b then s.entries ++ first else s.entries) whole
      ∙ ap (λ (r : Recording Gv). r.entries ++ first) (sym here) in (
        first ++ rest,
        ap (λ (r : Recording Gv). r.complete) here ∙ left-true s.complete _ whole,
        (first, rest, entered, others, refl),
        entries ∙ ap (λ l. l ++ rest) kept ∙ append_assoc before.entries first rest,
      )

  pub recorded_calls : (calls : List PollerCall) (before after : Recording P) → after.complete ≡ true
      → Leads recording_controls recording_waits before calls after → AreRecorded before calls after
  recorded_calls [] before after full same =
      ([], sym (ap (λ (r : Recording P). r.complete) same) ∙ full, refl, ap (λ (r : Recording P). r.entries) same ∙ sym (append-nil before.entries))
  recorded_calls (Control operation fd event answer ∷ calls) before after full (mid, (s, poller, is, may, left), rest) =
      one_recorded before mid after s poller (Control operation fd event answer) calls _ refl is left (recorded_calls calls mid after full rest)
  recorded_calls (Wait ms capacity (Ok events) ∷ calls) before after full (mid, (reports, same, (s, poller, is, may, left)), within, rest) =
      one_recorded before mid after s poller (Wait ms capacity (Ok events)) calls _ (reports, same, refl) is left (recorded_calls calls mid after full rest)
  recorded_calls (Wait ms capacity (Err errno) ∷ calls) before after full (mid, (s, poller, is, may, left), within, rest) =
      one_recorded before mid after s poller (Wait ms capacity (Err errno)) calls _ refl is left (recorded_calls calls mid after full rest)

abbrev pub replay_controls : Controls Replay
replay_controls before operation fd event answer after =
    replay.MayCtl (replay_code.code before) operation (pos fd) (entry_of_event event) answer (replay_code.code after)

abbrev pub replay_waits : Waits Replay
replay_waits before ms capacity answer after = WaitsBy replay.MayWait (replay_code.code before) ms capacity answer (replay_code.code after)

-- the entries of the calls were the next ones
abbrev ArePassed : Replay → List PollerCall → Replay → Type 0
ArePassed before calls after =
    (entries : List RecordEntry) × (before.diverged ≡ false) × AreEntered calls entries × (before.ahead ≡ entries ++ after.ahead)

one_passed : (before mid after s t : Replay) (call : PollerCall) (calls : List PollerCall) (first : List RecordEntry) → IsEntered call first
    → replay_code.code before ≡ replay_code.code s → replay_code.code mid ≡ replay_code.code t → Passes s first t
    → ArePassed mid calls after → ArePassed before (call ∷ calls) after
one_passed before mid after s t call calls first entered is left passes (rest, agreed, others, ahead) =
    let here = replay_code.inj before s is in
    let there = replay_code.inj mid t left in (
      first ++ rest,
      ap (λ (r : Replay). r.diverged) here ∙ passes.agreed,
      (first, rest, entered, others, refl),
      ap (λ (r : Replay). r.ahead) here ∙ passes.next ∙ ap (λ (r : Replay). first ++ r.ahead) (sym there) ∙ ap (λ l. first ++ l) ahead
          ∙ sym (append_assoc first rest after.ahead),
    )

stays_diverged : (mid s t : Replay) → replay_code.code mid ≡ replay_code.code t → t ≡ divergence s → mid.diverged ≡ false → ⊥
stays_diverged mid s t left e agreed =
    let one : true ≡ false = sym (ap (λ (r : Replay). r.diverged) (replay_code.inj mid t left ∙ e)) ∙ agreed in cc

pub passed_calls : (calls : List PollerCall) (before after : Replay) → after.diverged ≡ false
    → Leads replay_controls replay_waits before calls after → ArePassed before calls after
passed_calls [] before after agreed same =
    ([], sym (ap (λ (r : Replay). r.diverged) same) ∙ agreed, refl, sym (ap (λ (r : Replay). r.ahead) same))
passed_calls (Control operation fd event answer ∷ calls) before after agreed (mid, (s, t, is, left, inl passes), rest) =
    one_passed before mid after s t (Control operation fd event answer) calls _ refl is left passes (passed_calls calls mid after agreed rest)
passed_calls (Control operation fd event answer ∷ calls) before after agreed (mid, (s, t, is, left, inr diverges), rest) =
    absurd (stays_diverged mid s t left diverges.2 (passed_calls calls mid after agreed rest).1)
passed_calls (Wait ms capacity (Ok events) ∷ calls) before after agreed (mid, (reports, same, (s, t, is, left, inl passes)), within, rest) =
    one_passed before mid after s t (Wait ms capacity (Ok events)) calls _ (reports, same, refl) is left passes.1 (passed_calls calls mid after agreed rest)
passed_calls (Wait ms capacity (Ok events) ∷ calls) before after agreed (mid, (reports, same, (s, t, is, left, inr diverges)), within, rest) =
    absurd (stays_diverged mid s t left diverges.3 (passed_calls calls mid after agreed rest).1)
passed_calls (Wait ms capacity (Err errno) ∷ calls) before after agreed (mid, (s, t, is, left, inl passes), within, rest) =
    one_passed before mid after s t (Wait ms capacity (Err errno)) calls _ refl is left passes.1 (passed_calls calls mid after agreed rest)
passed_calls (Wait ms capacity (Err errno) ∷ calls) before after agreed (mid, (s, t, is, left, inr diverges), within, rest) =
    absurd (stays_diverged mid s t left diverges.3 (passed_calls calls mid after agreed rest).1)

-- two reports as long as each other, at the front of one record, are one
same_reports : (xs ys : List EpollEvent) (rest more : List RecordEntry) → length xs ≡ length ys
    → map Reported xs ++ rest ≡ map Reported ys ++ more → (xs ≡ ys) × (rest ≡ more)
same_reports [] [] rest more long e = (refl, e)
same_reports [] (y ∷ ys) rest more long e = absurd (omega arith)
same_reports (x ∷ xs) [] rest more long e = absurd (omega arith)
same_reports (x ∷ xs) (y ∷ ys) rest more long e =
    let first : x ≡ y = cc in
    let behind : map Reported xs ++ rest ≡ map Reported ys ++ more = cc in
    let all = same_reports xs ys rest more (omega arith) behind in
    (ap₂ (λ z l. z ∷ l) first all.0, all.1)

same_entered : (call other : PollerCall) (first front rest more : List RecordEntry) → IsEntered call first → IsEntered other front
    → first ++ rest ≡ front ++ more → (eventless call ≡ eventless other) × (rest ≡ more)
same_entered (Control operation fd event answer) (Control other gd fact answered) first front rest more h k same =
    let e = ap (λ l. l ++ rest) (sym h) ∙ same ∙ ap (λ l. l ++ more) k in (cc, cc)
same_entered (Control operation fd event answer) (Wait ms capacity (Ok events)) first front rest more h (reports, of, k) same =
    let e = ap (λ l. l ++ rest) (sym h) ∙ same ∙ ap (λ l. l ++ more) k in cc
same_entered (Control operation fd event answer) (Wait ms capacity (Err errno)) first front rest more h k same =
    let e = ap (λ l. l ++ rest) (sym h) ∙ same ∙ ap (λ l. l ++ more) k in cc
same_entered (Wait ms capacity (Ok events)) (Control other gd fact answered) first front rest more (reports, of, h) k same =
    let e = ap (λ l. l ++ rest) (sym h) ∙ same ∙ ap (λ l. l ++ more) k in cc
same_entered (Wait ms capacity (Err errno)) (Control other gd fact answered) first front rest more h k same =
    let e = ap (λ l. l ++ rest) (sym h) ∙ same ∙ ap (λ l. l ++ more) k in cc
same_entered (Wait ms capacity (Ok events)) (Wait time room (Ok others)) first front rest more (xs, of, h) (ys, by, k) same =
    let e = ap (λ l. l ++ rest) (sym h) ∙ same ∙ ap (λ l. l ++ more) k in
    let long : length xs ≡ length ys = cc in
    let all = same_reports xs ys rest more long cc in
    let limit : ms ≡ time = cc in
    let size : capacity ≡ room = cc in
    let report : events ≡ others = sym of ∙ ap (map event_of_entry) all.0 ∙ by in
    ((λ j. Wait (limit j) (size j) (Ok (report j))), all.1)
same_entered (Wait ms capacity (Ok events)) (Wait time room (Err errno)) first front rest more (xs, of, h) k same =
    let e = ap (λ l. l ++ rest) (sym h) ∙ same ∙ ap (λ l. l ++ more) k in cc
same_entered (Wait ms capacity (Err errno)) (Wait time room (Ok events)) first front rest more h (ys, by, k) same =
    let e = ap (λ l. l ++ rest) (sym h) ∙ same ∙ ap (λ l. l ++ more) k in cc
same_entered (Wait ms capacity (Err errno)) (Wait time room (Err other)) first front rest more h k same =
    let e = ap (λ l. l ++ rest) (sym h) ∙ same ∙ ap (λ l. l ++ more) k in (cc, cc)

some_entry : (call : PollerCall) (first rest : List RecordEntry) → IsEntered call first → [] ≡ first ++ rest → ⊥
some_entry (Control operation fd event answer) first rest h e = let at = e ∙ ap (λ l. l ++ rest) h in cc
some_entry (Wait ms capacity (Ok events)) first rest (reports, of, h) e = let at = e ∙ ap (λ l. l ++ rest) h in cc
some_entry (Wait ms capacity (Err errno)) first rest h e = let at = e ∙ ap (λ l. l ++ rest) h in cc

-- where the one record is the front of the other, so are the calls
pub same_fronts : (calls others : List PollerCall) (entries front rest : List RecordEntry) → AreEntered calls entries → AreEntered others front
    → entries ≡ front ++ rest → (more : List PollerCall) × AreSameCalls calls (others ++ more)
same_fronts calls [] entries front rest h k same = (calls, refl)
same_fronts [] (other ∷ others) entries front rest h (first, behind, k, ks, f) same =
    absurd (some_entry other first (behind ++ rest) k (sym h ∙ same ∙ ap (λ l. l ++ rest) f ∙ append_assoc first behind rest))
same_fronts (call ∷ calls) (other ∷ others) entries front rest (one, tail, h, hs, e) (first, behind, k, ks, f) same =
    let parts = sym e ∙ same ∙ ap (λ l. l ++ rest) f ∙ append_assoc first behind rest in
    let heads = same_entered call other one first tail (behind ++ rest) h k parts in
    let all = same_fronts calls others tail behind rest hs ks heads.1 in
    (all.0, (λ j. heads.0 j ∷ all.1 j))
