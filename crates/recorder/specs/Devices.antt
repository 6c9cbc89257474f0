-- What a device does: its value and what it is answered decide what it asks for, and all of its value after.
use Rattle.std.specs.Prelude.{◌≡◌, ◌+◌, ◌==◌, ℕ, min, true, [], ◌∷◌, Ok, Err, None, MatchBool, MatchOption, bit_and, if◌then◌else◌}
use Rattle.event_manager.specs.Prelude.{Event, Answer, Exchanges}
use Rattle.event_manager.specs.Request.TheVariants.{Add, Remove}
use Rattle.recorder.specs.declared.device.Device.{Device}

-- the first refusal, or else the last answer
abbrev pub kept : Answer → Answer → Answer
kept (Ok done) answer = answer
kept (Err error) answer = Err error

abbrev pub with_answer : Device → Answer → Device
with_answer v answer = record v { answer = kept v.answer answer }

-- one more, up to 2^64 - 1
abbrev pub next_count : ℕ → ℕ
next_count n = min (n + 1) 18446744073709551615

-- the event counted by its data
abbrev pub counted : Device → Event → Device
counted v event = if event.payload == 0 then record v { of_first = next_count v.of_first } else record v { of_second = next_count v.of_second }

-- it asks to add its own descriptor, and keeps the answer
abbrev pub device_begins : Device → Exchanges → Device → Type 0
device_begins v exchanges w = (answer : Answer) × (exchanges ≡ (Add v.own, answer) ∷ []) × (w ≡ with_answer v answer)

-- at a hang-up it asks to remove the event's descriptor; else it counts the event, and asks to add a second descriptor that is left to add
abbrev pub device_serves : Device → Event → Exchanges → Device → Type 0
device_serves v event exchanges w = MatchBool (bit_and event.set 0x10 == 0x10)
    ((answer : Answer) × (exchanges ≡ (Remove event, answer) ∷ []) × (w ≡ with_answer (record v { hung_up = true }) answer))
    (MatchOption v.second
    ((exchanges ≡ []) × (w ≡ counted v event))
    (λ second. (answer : Answer) × (exchanges ≡ (Add second, answer) ∷ []) × (w ≡ with_answer (record (counted v event) { second = None }) answer)))
