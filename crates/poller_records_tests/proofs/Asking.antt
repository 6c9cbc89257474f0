-- The calls that a poller is asked, and what is said of their answers where they are the same.
use Rattle.std.proofs.Common.{ℕ, ◌≤◌, ◌+◌, ◌≡◌, ◌∙◌, true, List, ◌++◌, length, map, Result, Ok, Err, refl, sym, ap, subst, arith, nat_le, if◌then◌else◌, length-append}
use Rattle.std.specs.Prelude.{IfOk, ◌&&◌}
use base.Stored.{Gv}
use Rattle.std.proofs.lemmas.List.{length-take-le, length-map}
use Rattle.vmm_sys.specs.declared.entries.EpollEvent.{EpollEvent}
use Rattle.vmm_sys.specs.declared.errno.Errno.{Errno}
use Rattle.vmm_sys.specs.Poller.{CtlRelation, WaitRelation, reported}
use Rattle.poller_records.specs.Record.{IsReport, entries_of_ctl, entries_of_wait}
use Rattle.vmm_sys.specs.declared.entries.ControlOperation.TheVariants.{Add}
use Rattle.poller_records.specs.declared.record.RecordEntry.{RecordEntry}
use Rattle.poller_records.specs.declared.record.RecordEntry.TheVariants.{Reported}
use Rattle.poller_records.specs.PollerRun.{Runs}
use Rattle.poller_records.specs.Recording as recording
use Rattle.poller_records.specs.Recording.{Recording, recorded, is_recorded, with_poller, recording_code}
use Rattle.poller_records_tests.specs.declared.asked_again.Asked.{Asked}
use Rattle.poller_records_tests.specs.declared.asked_again.Answers.{Answers}
use Rattle.poller_records_tests.specs.Asking.{calls_of}

-- a wait whose answer fits reports as many events as it answers
pub is_report : (room : ℕ) (answer : Result ℕ Errno) (buffer : List EpollEvent) → length buffer ≡ room → IfOk answer (λ count. count ≤ room) → IsReport room answer (reported answer buffer)
is_report room (Ok count) buffer same fits = (length-take-le count buffer (omega (arith, same, fits)), fits)
is_report room (Err errno) buffer same fits = refl

-- calls that are the same have the same answers and reports
pub same_answers : (asked : Asked) (one other : Answers) (room space : ℕ) (events found : List EpollEvent) → calls_of asked other space found ≡ calls_of asked one room events → (other ≡ one) × (found ≡ events)
same_answers asked one other room space events found same =
    let added : other.added ≡ one.added = cc in
    let waited : other.waited ≡ one.waited = cc in
    let reports : found ≡ events = cc in
    let answers : other ≡ one = λ i. record { added = added i; waited = waited i } in
    (answers, reports)

-- a call whose entries find room is recorded
fits : (r : Recording Gv) (poller : Gv) (call : List RecordEntry) → r.complete ≡ true → length r.entries + length call ≤ r.most
    → ((recorded (with_poller r poller) call).complete ≡ true) × (length (recorded (with_poller r poller) call).entries ≡ length r.entries + length call)
fits r poller call full room =
    let within : nat_le (length r.entries + length call) r.most ≡ true = grind (arith, room) in
    let is : is_recorded (with_poller r poller) call ≡ true = ap (λ b. b && nat_le (length r.entries + length call) r.most) full ∙ within in
    (is, ap (λ b. length (if b then r.entries ++ call else r.entries)) is ∙ length-append r.entries call)

-- nothing was left out of it, and there is room for this many entries more
abbrev HasRoom : ℕ → Recording Gv → Type 0
HasRoom n r = (r.complete ≡ true) × (length r.entries + n ≤ r.most)

-- both calls are recorded where their entries find room
pub both_recorded : (may_ctl : CtlRelation) (may_wait : WaitRelation) (asked : Asked) (answers : Answers) (room : ℕ) (events : List EpollEvent) (r t : Recording Gv) → HasRoom (2 + length events) r
    → Runs (recording.MayCtl may_ctl) (recording.MayWait may_wait) (recording_code.code r) (calls_of asked answers room events) (recording_code.code t) → t.complete ≡ true
both_recorded may_ctl may_wait asked answers room events r t enough (next, (s, poller, is, may, left), (last, report, (u, other, at, might, behind), ends)) =
    let before = subst (HasRoom (2 + length events)) (recording_code.inj r s is) enough in
    let first = fits s poller (entries_of_ctl Add asked.fd asked.event answers.added) before.0 (omega (arith, before.1)) in
    let between : HasRoom (1 + length events) (recorded (with_poller s poller) (entries_of_ctl Add asked.fd asked.event answers.added)) = (first.0, omega (arith, before.1, first.1)) in
    let there = subst (HasRoom (1 + length events)) (recording_code.inj _ u (sym left ∙ at)) between in
    let second = fits u other (entries_of_wait asked.ms room answers.waited events) there.0 (omega (arith, there.1, length-map events Reported)) in
    subst (λ (x : Recording Gv). x.complete ≡ true) (recording_code.inj _ t (sym behind ∙ ends)) second.0
