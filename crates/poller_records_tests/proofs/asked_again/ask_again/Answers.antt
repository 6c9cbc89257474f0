use Rattle.std.proofs.Common.{◌≡◌, ◌+◌, ◌≤◌, true, [], ◌∷◌, ◌++◌, length, Ok, sym, ap, subst, ◌∙◌, arith}
use Rattle.std.proofs.lemmas.List.{append-nil}
use Rattle.vmm_sys.specs.Poller.{reported}
use Rattle.vmm_sys.specs.declared.entries.ControlOperation.TheVariants.{Add}
use Rattle.poller_records.specs.PollerRun.{Ctl, Wait, Runs, entries_of_calls}
use Rattle.poller_records.specs.Recording.{Recording, with_poller}
use Rattle.poller_records.specs.Replay.{MayCtl, MayWait, replay_code, start_of}
use Rattle.poller_records_tests.specs.Asking.{calls_of}
use Rattle.poller_records_tests.proofs.Asking.{same_answers, both_recorded}
use Rattle.poller_records_tests.proofs.asked_again.ask_again.Goals as goal

pub returns : goal.returns
returns g c =
    let meaning = g.P.Poller.meaning in
    let asked = c.args.asked in
    let made = c.in_ok-recording.recording in
    let left = c.ask-recorded.new.poller in
    let room = length c.args.first.now in
    let space = length c.args.second.now in
    let events = reported c.ask-recorded.result.waited c.ask-recorded.new.buffer in
    let found = reported c.ask-replayed.result.waited c.ask-replayed.new.buffer in
    let calls = calls_of asked c.ask-recorded.result room events in
    let others = calls_of asked c.ask-replayed.result space found in
    let law = c.recorded_runs_replay.ensures in
    let run = λ (full : c.is_complete-is_complete.result ≡ true).
    law.recorded (with_poller made (meaning made.poller)) (with_poller left (meaning left.poller)) calls (sym c.is_complete-is_complete.ensures ∙ full) c.ask-recorded.ensures in
    let same = λ (full : c.is_complete-is_complete.result ≡ true).
    let entries = c.into_parts-poller.ensures.entries ∙ (run full).0 ∙ ap (λ (r : Recording g.row.P.Denot). r.entries ++ entries_of_calls calls) c.in_ok-recording.ensures.made ∙ sym (append-nil (entries_of_calls calls)) in
    let rerun = subst (λ s. Runs MayCtl MayWait (replay_code.code s) others (replay_code.code c.ask-replayed.new.poller)) (c.new-replay.ensures ∙ ap start_of entries) c.ask-replayed.ensures in
    same_answers asked c.ask-recorded.result c.ask-replayed.result room space events found
    (law.replayed _ _ calls others [] _ (run full).1 (ap (λ n. Ctl Add asked.fd asked.event (Ok tt) ∷ Wait asked.ms n (Ok 0) [] ∷ []) c.requires) rerun).0 in
    record {
      errors = tt;
      complete = λ enough. c.is_complete-is_complete.ensures ∙ both_recorded g.P.Poller.may_ctl g.P.Poller.may_wait asked c.ask-recorded.result room events (with_poller made (meaning made.poller)) (with_poller left (meaning left.poller))
          (ap (λ (r : Recording g.row.P.Denot). r.complete) c.in_ok-recording.ensures.made, subst (λ (r : Recording g.row.P.Denot). length r.entries + (2 + length events) ≤ r.most) (sym c.in_ok-recording.ensures.made) (omega (arith, enough))) c.ask-recorded.ensures;
      recorded = λ full. (_, subst (λ poller. Runs g.P.Poller.may_ctl g.P.Poller.may_wait (meaning poller) calls (meaning left.poller)) (ap (λ (r : Recording g.row.P.Denot). r.poller) c.in_ok-recording.ensures.made) (run full).1);
      answers = λ full. (same full).0;
      reports = λ full. (same full).1;
    }
