-- Marks that are held as bits, 64 in a word.
use Rattle.std.specs.Prelude.{ℕ, ◌*◌, ◌/◌, ◌%◌, ◌==◌, Bool, List, length, map, slice_index}
use Rattle.std.specs.Int.{bit_at}
use Rattle.std.specs.List.{range_with_len}

-- bit n of the words, the lowest of the first word being bit 0
abbrev pub mark_at : List ℕ → ℕ → Bool
mark_at words n = bit_at (slice_index words (n / 64)) (n % 64) == 1

-- a mark for each bit of the words
unfoldable pub marks_of : List ℕ → List Bool
marks_of words = map (mark_at words) (range_with_len 0 (64 * length words))
