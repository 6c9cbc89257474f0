-- The text of a record.
use Rattle.std.specs.Prelude.{map, ℕ, List, [], ◌∷◌, ◌++◌, Result, Ok, Err, codes}
use Rattle.std.specs.Borrow.{Bor}
use Rattle.std.specs.Fmt.{decimal, signed_decimal}
use Rattle.std.specs.List.{flat_map, join_with_byte}
use Rattle.vmm_sys.specs.EpollEvent.{set_of, word_of}
use Rattle.vmm_sys.specs.EventSet.{bits_of}
use Rattle.vmm_sys.specs.declared.entries.ControlOperation.{ControlOperation}
use Rattle.vmm_sys.specs.declared.entries.ControlOperation.TheVariants.{Add, Modify, Delete}
use Rattle.vmm_sys.specs.declared.entries.EpollEvent.{EpollEvent}
use Rattle.vmm_sys.specs.declared.errno.Errno.{Errno}
use Rattle.poller_records.specs.declared.record.RecordEntry.{RecordEntry}
use Rattle.poller_records.specs.declared.record.RecordEntry.TheVariants.{Control, Wait, Reported}

-- the first field of a call of ctl
abbrev pub operation_word : ControlOperation → List ℕ
operation_word Add = codes "add"
operation_word Modify = codes "modify"
operation_word Delete = codes "delete"

-- the fields of an error
abbrev pub error_fields : Errno → List (List ℕ)
error_fields error = codes "error" ∷ signed_decimal error.0 ∷ []

-- the fields of an answer of ctl
abbrev pub control_answer : Result (Unit {0}) Errno → List (List ℕ)
control_answer (Ok nothing) = codes "ok" ∷ []
control_answer (Err error) = error_fields error

-- the fields of an answer of wait
abbrev pub wait_answer : Result ℕ Errno → List (List ℕ)
wait_answer (Ok count) = codes "ok" ∷ decimal count ∷ []
wait_answer (Err error) = error_fields error

-- the fields of an event
abbrev pub event_fields : EpollEvent → List (List ℕ)
event_fields event = decimal (bits_of (set_of event)) ∷ decimal (word_of event) ∷ []

-- the fields of an entry
abbrev pub fields_of : RecordEntry → List (List ℕ)
fields_of (Control op fd event answer) = operation_word op ∷ signed_decimal fd ∷ (event_fields event ++ control_answer answer)
fields_of (Wait ms room answer) = codes "wait" ∷ signed_decimal ms ∷ decimal room ∷ wait_answer answer
fields_of (Reported event) = codes "event" ∷ event_fields event

-- the line of an entry: its fields with a space (32) between them
abbrev pub line_of : RecordEntry → List ℕ
line_of entry = join_with_byte 32 (fields_of entry)

-- the text of a record: each line with a newline (10) behind it
abbrev pub text_of : List RecordEntry → List ℕ
text_of entries = flat_map (λ entry. line_of entry ++ 10 ∷ []) entries

-- what fields hold that are read
abbrev pub contents : List (Bor (List ℕ)) → List (List ℕ)
contents fields = map (λ field. field.now) fields
