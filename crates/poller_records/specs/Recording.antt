-- A poller with a record of its calls beside it.
use Rattle.std.specs.Prelude.{ℕ, Bool, ◌+◌, ◌≡◌, ◌&&◌, nat_le, if◌then◌else◌, List, ◌++◌, length, refl}
use Rattle.std.specs.Coded.{Coded, code_by, coded_ℕ, coded_bool, coded_list, coded×}
use base.Stored.{Gv}
use denote.Struct.Codes.{itself}
use Rattle.poller_records.specs.declared.record.RecordEntry.{RecordEntry}
use Rattle.vmm_sys.specs.Poller.{CtlRelation, WaitRelation}
use Rattle.poller_records.specs.Record.{entries_of_ctl, entries_of_wait, entry_code}

-- the poller, the entries of its calls, for how many there is room, and whether no call was left out
pub record Recording (P : Type 0) : Type 0 where
  pub poller : P
  pub entries : List RecordEntry
  pub most : ℕ
  pub complete : Bool

-- whether a call with these entries is recorded: none was left out before, and they all find room
abbrev pub is_recorded : {P : Type 0} → Recording P → List RecordEntry → Bool
is_recorded r call = r.complete && nat_le (length r.entries + length call) r.most

-- the call's entries behind the others, or the call left out
abbrev pub recorded : {P : Type 0} → Recording P → List RecordEntry → Recording P
recorded r call = record r { entries = if is_recorded r call then r.entries ++ call else r.entries; complete = is_recorded r call }

-- the same record beside another value of the poller
abbrev pub with_poller : {P Q : Type 0} → Recording P → Q → Recording Q
with_poller r poller = record { poller = poller; entries = r.entries; most = r.most; complete = r.complete }

-- the poller's meaning and the record as a tree of numbers: different ones have different codes
abbrev pub recording_code : Coded (Recording Gv)
recording_code =
    code_by (Gv × (List RecordEntry × (ℕ × Bool))) (coded× itself (coded× (coded_list entry_code) (coded× coded_ℕ coded_bool)))
    (λ r. (r.poller, (r.entries, (r.most, r.complete))))
    (λ p. record { poller = p.0; entries = p.1.0; most = p.1.1.0; complete = p.1.1.1 })
    (λ _. refl)

-- `ctl` answers as the poller does, and the record has the call behind it
abbrev pub MayCtl : CtlRelation → CtlRelation
MayCtl may_ctl before op fd event answer after =
    (r : Recording Gv) × (poller : Gv) × (before ≡ recording_code.code r) × may_ctl r.poller op fd event answer poller
    × (after ≡ recording_code.code (recorded (with_poller r poller) (entries_of_ctl op fd event answer)))

-- `wait` answers and reports as the poller does, and the record has the call behind it
abbrev pub MayWait : WaitRelation → WaitRelation
MayWait may_wait before ms room answer events after =
    (r : Recording Gv) × (poller : Gv) × (before ≡ recording_code.code r) × may_wait r.poller ms room answer events poller
    × (after ≡ recording_code.code (recorded (with_poller r poller) (entries_of_wait ms room answer events)))
