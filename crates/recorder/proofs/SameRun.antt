-- A run over a new recording, and one over a replay of its record: they tell the same.
use Rattle.std.proofs.Common.{◌≡◌, ◌↔◌, ℕ, Bool, true, false, List, [], ◌∷◌, Option, Some, None, Ok, IsTrue, refl, sym, ap, subst, ◌∙◌, map, if◌then◌else◌}
use Rattle.std.specs.List.{All, AllZip}
use Rattle.poller_records.specs.Recording.{Recording}
use Rattle.poller_records.specs.Replay.{Replay, start_of, divergence_index}
use Rattle.poller_records.specs.declared.record.RecordEntry.{RecordEntry}
use Rattle.poller_records.specs.Held.{IsEntry}
use Rattle.poller_records.specs.Lines.{text_of}
use Rattle.event_manager.specs.Prelude.{Controls, Waits, Registry, HasId, LoopContents, LoopState, new_loop, no_descriptor, no_job, contents_of}
use Rattle.event_manager.specs.Trace.{TraceEntry}
use Rattle.event_manager.specs.Driven.{IsTraceOf}
use Rattle.recorded_runs.specs.Determinism.{AreFunctions, IsSameReply, IsTheRun}
use Rattle.recorded_runs.specs.RecordedRun.{BeginsAgain, IsMadeAgain}
use Rattle.event_manager.specs.declared.calls.Call.{Call}
use Rattle.event_manager.specs.declared.calls.Reply.{Reply}
use Rattle.event_manager.specs.declared.calls.Reply.TheVariants.{Added, Ran}
use Rattle.recorded_runs.proofs.LoopCalls.{calls_made_again}
use Rattle.recorder.specs.Devices.{device_begins, device_serves}
use Rattle.recorder.specs.Run.{IsRun, calls_of, replies_of}
use Rattle.recorder.specs.Recorded.{IsRecorded, IsRunOver, recording}
use Rattle.recorder.specs.declared.device.Device.{Device}
use Rattle.recorder.specs.declared.run.Told.{Told}
use Rattle.recorded_runs.proofs.KeptRefusals.{same_held}
use Rattle.recorder.proofs.Answered.{had_memory}

-- what is told, part by part
same_told : (told again : Told) → told.events ≡ again.events → told.queue ≡ again.queue → told.console ≡ again.console → told ≡ again
same_told told again events queue console k = record { events = events k; queue = queue k; console = console k }

same_id : (id other : ℕ) → IsSameReply {V = Device} (Added (Ok id)) (Added (Ok other)) → id ≡ other
same_id id other same = let s : ◌≡◌ {A = Reply Device} (Added (Ok id)) (Added (Ok other)) = same in cc

same_count : (count other : ℕ) → IsSameReply {V = Device} (Ran (Ok count)) (Ran (Ok other)) → count ≡ other
same_count count other same = let s : ◌≡◌ {A = Reply Device} (Ran (Ok count)) (Ran (Ok other)) = same in cc

same_counts : (counts others : List ℕ) → AllZip (IsSameReply {V = Device}) (map (λ count. Ran (Ok count)) counts) (map (λ count. Ran (Ok count)) others) → counts ≡ others
same_counts [] [] same = refl
same_counts [] (other ∷ others) same = absurd same
same_counts (count ∷ counts) [] same = absurd same
same_counts (count ∷ counts) (other ∷ others) same =
    ap (λ n. n ∷ counts) (same_count count other same.0) ∙ ap (λ ns. other ∷ ns) (same_counts counts others same.1)

by_answer : (diverged : Bool) (index : ℕ) → (if diverged then Some index else None) ≡ None → diverged ≡ false
by_answer true index is = let s : ◌≡◌ {A = Option ℕ} (Some index) None = is in cc
by_answer false index is = refl

-- the answer of diverged
pub not_diverged : (replay : Replay) → divergence_index replay ≡ None → replay.diverged ≡ false
not_diverged replay is = by_answer replay.diverged replay.passed is

-- a run in a new loop over the record of this text, which the poller shown at its end hasn't left
pub run_over : (controls : Controls Replay) (waits : Waits Replay) (devices : Device × Device) (told : Told) (is_over : Bool) (text : List ℕ) (entries : List RecordEntry) (poller shown : Replay) (made end : LoopState Device Replay)
    → text ≡ text_of entries → poller ≡ start_of entries → made ≡ new_loop no_descriptor poller 256 → IsRun controls waits made devices told end
    → shown ≡ end.poller → divergence_index shown ≡ None → (IsTrue is_over ↔ (shown.ahead ≡ [])) → IsRunOver controls waits devices text told is_over
run_over controls waits devices told is_over text entries poller shown made end text_is is_new is_made run is_shown agreed over = record {
  entries = entries;
  end = end;
  text_is = text_is;
  run = subst (λ s. IsRun controls waits s devices told end) (is_made ∙ ap (λ p. new_loop no_descriptor p 256) is_new) run;
  agreed = not_diverged end.poller (ap divergence_index (sym is_shown) ∙ agreed);
  over = subst (λ (p : Replay). IsTrue is_over ↔ (p.ahead ≡ [])) is_shown over;
}

module _ {P : Type 0} (controls : Controls (Recording P)) (waits : Waits (Recording P)) where
  -- what is said of a complete record, of another text that is the same
  pub same_text : (devices : Device × Device) (told : Told) (text other : List ℕ) (is_complete : Bool) → other ≡ text → is_complete ≡ true
      → IsRecorded controls waits devices told text is_complete → IsRecorded controls waits devices told other true
  same_text devices told text other is_complete is complete recorded =
      subst (λ t. IsRecorded controls waits devices told t true) (sym is) (subst (λ b. IsRecorded controls waits devices told text b) complete recorded)

  -- a run in a new loop over a new recording is recorded
  pub recorded_so : (poller : P) (most : ℕ) (new : Recording P) (made after : LoopState Device (Recording P)) (devices : Device × Device) (told : Told) (text : List ℕ) (is_complete : Bool) → new ≡ recording poller most → made ≡ new_loop no_descriptor new 256
      → IsRun controls waits made devices told after → after.poller.complete ≡ is_complete → All IsEntry after.poller.entries → text ≡ text_of after.poller.entries → IsRecorded controls waits devices told text is_complete
  recorded_so poller most new made after devices told text is_complete is_new is_made run complete held text_is = record {
    poller = poller;
    most = most;
    after = after;
    run = subst (λ s. IsRun controls waits s devices told after) (is_made ∙ ap (λ r. new_loop no_descriptor r 256) is_new) run;
    complete = complete;
    held = held;
    text_is = text_is;
  }

  module _ (replay_controls : Controls Replay) (replay_waits : Waits Replay) where
    -- the law of recorded loops, of devices
    abbrev pub RecordedLoopLaw : Type 0
    RecordedLoopLaw = (before after : LoopState Device (Recording P)) (calls : List (Call Device)) (replies : List (Reply Device)) (trace : List (TraceEntry Device ⊥ (Unit {0})))
        (start end : LoopState Device Replay) (calls_again : List (Call Device)) (replies_again : List (Reply Device)) (again : List (TraceEntry Device ⊥ (Unit {0})))
        → AreFunctions device_begins device_serves no_job → IsTraceOf device_begins device_serves no_job controls waits before calls replies after trace
        → IsTraceOf device_begins device_serves no_job replay_controls replay_waits start calls_again replies_again end again
        → BeginsAgain before after start → end.poller.diverged ≡ false → IsMadeAgain trace again → IsTheRun trace again (contents_of after) (contents_of end)

    same_run : (devices : Device × Device) (told told_again : Told) (text : List ℕ) (recorded : IsRecorded controls waits devices told text true) (entries : List RecordEntry) (end : LoopState Device Replay)
        → RecordedLoopLaw → AreFunctions device_begins device_serves no_job → recorded.after.poller.entries ≡ entries
        → (again : IsRun replay_controls replay_waits (new_loop no_descriptor (start_of entries) 256) devices told_again end) → end.poller.diverged ≡ false
        → IsTheRun recorded.run.trace again.trace (contents_of recorded.after) (contents_of end)
    same_run devices told told_again text recorded entries end law functions same again agreed =
        let run = recorded.run in
        law (new_loop no_descriptor (recording recorded.poller recorded.most) 256) recorded.after (calls_of devices 5) (replies_of run.queue run.console told.events) run.trace
        (new_loop no_descriptor (start_of entries) 256) end (calls_of devices 5) (replies_of again.queue again.console told_again.events) again.trace
        functions run.is_trace_of again.is_trace_of (record { complete = recorded.complete; ahead = same; same_state = refl; same_capacity = refl }) agreed
        (calls_made_again run.trace again.trace (calls_of devices 5) run.is_trace_of.calls_are again.is_trace_of.calls_are
        (had_memory controls waits (recording recorded.poller recorded.most) devices told recorded.after run)
        (had_memory replay_controls replay_waits (start_of entries) devices told_again end again))

    tells_the_same : (devices : Device × Device) (told told_again : Told) (text : List ℕ) (recorded : IsRecorded controls waits devices told text true) (entries : List RecordEntry) (end : LoopState Device Replay)
        → RecordedLoopLaw → AreFunctions device_begins device_serves no_job → recorded.after.poller.entries ≡ entries
        → (again : IsRun replay_controls replay_waits (new_loop no_descriptor (start_of entries) 256) devices told_again end) → end.poller.diverged ≡ false
        → told_again ≡ told
    tells_the_same devices told told_again text recorded entries end law functions same again agreed =
        let run = recorded.run in
        let is = same_run devices told told_again text recorded entries end law functions same again agreed in
        let replies = rw (run.is_trace_of.replies_are, again.is_trace_of.replies_are) at is.same_replies in
        let registries : recorded.after.registry ≡ end.registry = ap (λ (s : LoopContents Device). s.registry) is.same_state in
        let queue = same_held end.registry run.queue again.queue told.queue told_again.queue (same_id run.queue again.queue replies.0)
        (subst (λ (r : Registry Device). HasId r run.queue told.queue) registries run.queue_is) again.queue_is in
        let console = same_held end.registry run.console again.console told.console told_again.console (same_id run.console again.console replies.1.0)
        (subst (λ (r : Registry Device). HasId r run.console told.console) registries run.console_is) again.console_is in
        sym (same_told told told_again (same_counts told.events told_again.events replies.1.1) queue console)

    -- so does a loop of the program over what was read of the text
    pub replay_tells : (devices : Device × Device) (told told_again : Told) (text : List ℕ) (recorded : IsRecorded controls waits devices told text true) (entries : List RecordEntry) (poller : Replay) (made end : LoopState Device Replay)
        → RecordedLoopLaw → AreFunctions device_begins device_serves no_job → entries ≡ recorded.after.poller.entries → poller ≡ start_of entries → made ≡ new_loop no_descriptor poller 256
        → IsRun replay_controls replay_waits made devices told_again end → end.poller.diverged ≡ false → told_again ≡ told
    replay_tells devices told told_again text recorded entries poller made end law functions same is_new is_made again agreed =
        tells_the_same devices told told_again text recorded entries end law functions (sym same)
        (subst (λ s. IsRun replay_controls replay_waits s devices told_again end) (is_made ∙ ap (λ p. new_loop no_descriptor p 256) is_new) again) agreed
