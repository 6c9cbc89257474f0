-- Which line of a text is bad.
use Rattle.std.specs.Prelude.{ℕ, ◌≡◌, ◌≢◌, ◌+◌, List, [], ◌∷◌, ◌++◌, All, Option, Some, None, length}
use Rattle.poller_records.specs.declared.record.RecordEntry.{RecordEntry}
use Rattle.poller_records.specs.Held.{IsEntry}
use Rattle.poller_records.specs.Lines.{line_of, text_of}
use Rattle.poller_records.specs.declared.fault.RecordFault.{RecordFault}
use Rattle.poller_records.specs.declared.fault.RecordFault.TheVariants.{BadLine, OutOfMemory}

-- the number of the line that a fault names
abbrev pub bad_line : RecordFault → Option ℕ
bad_line (BadLine number fault) = Some number
bad_line OutOfMemory = None

-- lines of entries that the types can hold, and then something that does not begin with one, in the line of this number
pub record IsFirstBad (text : List ℕ) (number : ℕ) : Type 0 where
  pub before : List RecordEntry
  pub held : All IsEntry before
  pub rest : List ℕ
  pub split : text ≡ text_of before ++ rest
  pub count : length before + 1 ≡ number
  pub more : rest ≢ []
  pub bad : (entry : RecordEntry) (behind : List ℕ) → IsEntry entry → rest ≢ line_of entry ++ 10 ∷ behind
