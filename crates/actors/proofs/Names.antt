-- What a greeter tells of the names that come.
use Rattle.std.proofs.Common.{◌≡◌, List, [], ◌∷◌, ◌++◌, String, Global, map, ap}
use Rattle.std.proofs.lemmas.List.{append-nil, map-append}
use Rattle.actors.specs.declared.tally.Told.TheVariants.{Name}

pub as_told : (names : List (String Global)) → map Name (names ++ []) ≡ map Name names
as_told names = ap (map Name) (append-nil names)

pub one_more : (names : List (String Global)) (name : String Global) → map Name (names ++ name ∷ []) ≡ map Name names ++ Name name ∷ []
one_more names name = map-append Name names (name ∷ [])
