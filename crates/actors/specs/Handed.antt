-- What a greeter hands on.
use Rattle.std.specs.Prelude.{◌≡◌, ◌++◌, ◌∷◌, [], List, Option, None, Some, String, map}
use Rattle.std.specs.Global.{Global}
use Rattle.actors.specs.declared.tally.Told.{Told}
use Rattle.actors.specs.declared.tally.Told.TheVariants.{Name}

-- the names that came were handed on, in order, but the last, where that is kept: none is lost, doubled or made up
abbrev pub IsInOrder : List (String Global) → List Told → Option Told → Type 0
IsInOrder names handed None = map Name names ≡ handed
IsInOrder names handed (Some kept) = map Name names ≡ handed ++ kept ∷ []
