-- Names of subscribers.
use Rattle.std.specs.Prelude.{ℕ, ◌≤◌, ◌<◌, ◌≡◌, ◌⊎◌, List, length, All}

-- an ASCII letter, a digit or an underscore
abbrev pub IsNameByte : ℕ → Type 0
IsNameByte byte = ((48 ≤ byte) × (byte ≤ 57)) ⊎ (((65 ≤ byte) × (byte ≤ 90)) ⊎ (((97 ≤ byte) × (byte ≤ 122)) ⊎ (byte ≡ 95)))

-- 1 to 32 such characters
abbrev pub IsName : List ℕ → Type 0
IsName word = (0 < length word) × (length word ≤ 32) × All IsNameByte word
