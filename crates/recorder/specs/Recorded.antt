-- A recorded run and its replay.
use Rattle.std.specs.Prelude.{◌≡◌, ◌↔◌, ℕ, Bool, true, false, List, [], All, IsTrue}
use Rattle.poller_records.specs.Recording.{Recording}
use Rattle.poller_records.specs.Replay.{Replay, start_of}
use Rattle.poller_records.specs.declared.record.RecordEntry.{RecordEntry}
use Rattle.event_manager.specs.Prelude.{Controls, Waits, LoopState, new_loop, no_descriptor}
use Rattle.poller_records.specs.Held.{IsEntry}
use Rattle.poller_records.specs.Lines.{text_of}
use Rattle.recorder.specs.Run.{IsRun}
use Rattle.recorder.specs.declared.device.Device.{Device}
use Rattle.recorder.specs.declared.recorded.Replayed.{Replayed}
use Rattle.recorder.specs.declared.recorded.Replayed.TheVariants.{Made, Left}
use Rattle.recorder.specs.declared.run.Told.{Told}

-- nothing is recorded yet, and there is room for this many entries
abbrev pub recording : {P : Type 0} → P → ℕ → Recording P
recording poller most = record { poller = poller; entries = []; most = most; complete = true }

-- A run of these devices in a new loop over a recording of some poller told this, this is the text of its record, and this whether no call is left out there.
pub record IsRecorded {P : Type 0} (controls : Controls (Recording P)) (waits : Waits (Recording P)) (devices : Device × Device) (told : Told) (text : List ℕ) (is_complete : Bool) : Type 0 where
  pub poller : P
  pub most : ℕ
  pub after : LoopState Device (Recording P)
  pub run : IsRun controls waits (new_loop no_descriptor (recording poller most) 256) devices told after
  pub complete : after.poller.complete ≡ is_complete
  pub held : All IsEntry after.poller.entries
  pub text_is : text ≡ text_of after.poller.entries

-- A run of these devices in a new loop over the record of this text told this and didn't leave the record, and this is whether it came to the record's end.
pub record IsRunOver (controls : Controls Replay) (waits : Waits Replay) (devices : Device × Device) (text : List ℕ) (told : Told) (is_over : Bool) : Type 0 where
  pub entries : List RecordEntry
  pub end : LoopState Device Replay
  pub text_is : text ≡ text_of entries
  pub run : IsRun controls waits (new_loop no_descriptor (start_of entries) 256) devices told end
  pub agreed : end.poller.diverged ≡ false
  pub over : IsTrue is_over ↔ (end.poller.ahead ≡ [])

-- a replay that didn't leave the record was a run over it
abbrev pub RanOver : Controls Replay → Waits Replay → Device × Device → List ℕ → Replayed → Type 0
RanOver controls waits devices text (Made told is_over) = IsRunOver controls waits devices text told is_over
RanOver controls waits devices text (Left index) = Unit {0}

-- a replay that didn't leave the record told the same
abbrev pub TellsTheSame : Told → Replayed → Type 0
TellsTheSame told (Made again is_over) = again ≡ told
TellsTheSame told (Left index) = Unit {0}
