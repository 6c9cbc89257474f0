-- A poller that answers as a record says, while the calls are those of the record.
use Rattle.std.specs.Prelude.{ℕ, ℤ, Bool, true, false, ◌+◌, ◌≡◌, ◌⊎◌, if◌then◌else◌, List, [], ◌++◌, length, Option, Some, None, Result, Err, refl}
use Rattle.std.specs.Coded.{Coded, code_by, coded_ℕ, coded_bool, coded_list, coded×}
use Rattle.vmm_sys.specs.declared.entries.EpollEvent.{EpollEvent}
use Rattle.vmm_sys.specs.declared.entries.ControlOperation.{ControlOperation}
use Rattle.vmm_sys.specs.declared.errno.Errno.{Errno}
use Rattle.vmm_sys.specs.declared.errno.TheConstants.Errno.{EIO}
use Rattle.poller_records.specs.declared.record.RecordEntry.{RecordEntry}
use Rattle.vmm_sys.specs.Poller.{CtlRelation, WaitRelation}
use Rattle.poller_records.specs.Record.{entries_of_ctl, entries_of_wait, IsReport, entry_code}

-- how many entries were answered, those that are to come, and whether a call differed from the next one
pub record Replay : Type 0 where
  pub passed : ℕ
  pub ahead : List RecordEntry
  pub diverged : Bool

-- nothing of a record was answered
abbrev pub start_of : List RecordEntry → Replay
start_of entries = record { passed = 0; ahead = entries; diverged = false }

-- no call differed, the entries of this call are the next ones, and the replay passes them
pub record Passes (s : Replay) (call : List RecordEntry) (t : Replay) : Type 0 where
  pub agreed : s.diverged ≡ false
  pub next : s.ahead ≡ call ++ t.ahead
  pub count : t.passed ≡ s.passed + length call
  pub agrees : t.diverged ≡ false

-- the replay stays where it is, and answers nothing more
abbrev pub divergence : Replay → Replay
divergence s = record s { diverged = true }

-- where the run and the record part: the index of an entry
abbrev pub divergence_index : Replay → Option ℕ
divergence_index s = if s.diverged then Some s.passed else None

-- the recorded answer of this `ctl`, if it is the next call; where no answer makes it the next, a refusal and a divergence
abbrev pub AnswersCtl : Replay → ControlOperation → ℤ → EpollEvent → Result (Unit {0}) Errno → Replay → Type 0
AnswersCtl s op fd event answer t =
    Passes s (entries_of_ctl op fd event answer) t
    ⊎ (((other : Result (Unit {0}) Errno) (u : Replay) → ¬ Passes s (entries_of_ctl op fd event other) u)
    × (answer ≡ Err EIO) × (t ≡ divergence s))

-- the recorded answer and report of this wait, if it is the next call; where no report makes it the next, a refusal and a divergence
abbrev pub AnswersWait : Replay → ℤ → ℕ → Result ℕ Errno → List EpollEvent → Replay → Type 0
AnswersWait s ms room answer events t =
    (IsReport room answer events × Passes s (entries_of_wait ms room answer events) t)
    ⊎ (((other : Result ℕ Errno) (report : List EpollEvent) (u : Replay) → IsReport room other report
    → ¬ Passes s (entries_of_wait ms room other report) u)
    × (answer ≡ Err EIO) × (events ≡ []) × (t ≡ divergence s))

-- its state as a tree of numbers: different states have different codes
abbrev pub replay_code : Coded Replay
replay_code =
    code_by (ℕ × (List RecordEntry × Bool)) (coded× coded_ℕ (coded× (coded_list entry_code) coded_bool)) (λ s. (s.passed, (s.ahead, s.diverged)))
    (λ p. record { passed = p.0; ahead = p.1.0; diverged = p.1.1 }) (λ _. refl)

-- between the codes of its states
abbrev pub MayCtl : CtlRelation
MayCtl before op fd event answer after = (s t : Replay) × (before ≡ replay_code.code s) × (after ≡ replay_code.code t) × AnswersCtl s op fd event answer t

-- between the codes of its states
abbrev pub MayWait : WaitRelation
MayWait before ms room answer events after = (s t : Replay) × (before ≡ replay_code.code s) × (after ≡ replay_code.code t)
    × AnswersWait s ms room answer events t
