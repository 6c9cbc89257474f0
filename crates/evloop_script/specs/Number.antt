-- Numbers with a sign, as a report has them.
use Rattle.std.specs.Prelude.{ℕ, ℤ, pos, ◌≡◌, ◌≢◌, Bool, true, List, drop, if◌then◌else◌}
use Rattle.std.specs.Str.Parse.{starts_with_minus}
use Rattle.std.specs.Prelude.{FitsSigned}
use Rattle.std.specs.Int.{w32}

-- a word without a `-` in front
abbrev pub without_leading_minus : List ℕ → List ℕ
without_leading_minus word = if starts_with_minus word then drop 1 word else word

-- a number of 32 bits that is not 0 behind a `-`
abbrev pub IsReported : Bool → ℤ → Type 0
IsReported negative number = FitsSigned w32 number × (negative ≡ true → number ≢ pos 0)
