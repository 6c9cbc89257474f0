-- The number that a descriptor of std's shows.
use Rattle.std.specs.Prelude.{ℤ, pos, negsuc}

-- its own, but for a negative one
abbrev pub number_of : ℤ → ℤ
number_of (pos fd) = pos fd
number_of (negsuc _) = pos 2147483647
