-- The entries by which a record says the calls of a poller.
use Rattle.std.specs.Prelude.{ℕ, ℤ, ◌≡◌, ◌≤◌, ◌⊎◌, Bool, true, false, List, [], ◌∷◌, length, map, Result, Ok, Err, refl}
use Rattle.std.specs.Coded.{Coded, code_by, coded_ℕ, coded_ℤ, coded×, coded⊎, coded_result}
use base.Stored.{coded_unit}
use mathlib.Core.Logic.{inl, inr}
use Rattle.vmm_sys.specs.declared.entries.EpollEvent.{EpollEvent}
use Rattle.vmm_sys.specs.declared.entries.ControlOperation.{ControlOperation}
use Rattle.vmm_sys.specs.declared.errno.Errno.{Errno}
use Rattle.poller_records.specs.declared.record.RecordEntry.{RecordEntry}
use Rattle.poller_records.specs.declared.record.RecordEntry.TheVariants.{Control, Wait, Reported}
use Rattle.vmm_sys.specs.Codes.{event_code, errno_code, operation_code}

-- a call of `ctl` with its answer: one entry
abbrev pub entries_of_ctl : ControlOperation → ℤ → EpollEvent → Result (Unit {0}) Errno → List RecordEntry
entries_of_ctl op fd event answer = Control op fd event answer ∷ []

-- a call of `wait` with its answer: one entry, and behind it one for each reported event
abbrev pub entries_of_wait : ℤ → ℕ → Result ℕ Errno → List EpollEvent → List RecordEntry
entries_of_wait ms room answer events = Wait ms room answer ∷ map Reported events

-- what a wait answers and the events that it reports belong together, and find room
abbrev pub IsReport : ℕ → Result ℕ Errno → List EpollEvent → Type 0
IsReport room (Ok count) events = (length events ≡ count) × (count ≤ room)
IsReport room (Err errno) events = events ≡ []

-- whether an entry is an event of a report
abbrev pub is_reported : RecordEntry → Bool
is_reported (Reported event) = true
is_reported _ = false

-- what entries of the three kinds hold
abbrev Parts : Type 0
Parts = (ControlOperation × (ℤ × (EpollEvent × Result (Unit {0}) Errno))) ⊎ ((ℤ × (ℕ × Result ℕ Errno)) ⊎ EpollEvent)

-- what an entry holds
abbrev parts : RecordEntry → Parts
parts (Control op fd event answer) = inl (op, (fd, (event, answer)))
parts (Wait ms room answer) = inr (inl (ms, (room, answer)))
parts (Reported event) = inr (inr event)

-- the entry that holds it
abbrev entry : Parts → RecordEntry
entry (inl p) = Control p.0 p.1.0 p.1.1.0 p.1.1.1
entry (inr (inl p)) = Wait p.0 p.1.0 p.1.1
entry (inr (inr event)) = Reported event

-- what an entry holds says the entry
pub entry-parts : (e : RecordEntry) → entry (parts e) ≡ e
entry-parts (Control op fd event answer) = refl
entry-parts (Wait ms room answer) = refl
entry-parts (Reported event) = refl

-- an entry as a tree of numbers: different entries have different codes
abbrev pub entry_code : Coded RecordEntry
entry_code =
    code_by Parts
    (coded⊎ (coded× operation_code (coded× coded_ℤ (coded× event_code (coded_result coded_unit errno_code))))
    (coded⊎ (coded× coded_ℤ (coded× coded_ℕ (coded_result coded_ℕ errno_code))) event_code))
    parts entry entry-parts
