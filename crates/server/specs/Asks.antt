-- What is done to a peer that is asked.
use Rattle.std.specs.Prelude.{◌≡◌}
use Rattle.server.specs.declared.acceptor.Ask.{Ask}
use Rattle.server.specs.declared.acceptor.Ask.TheVariants.{Read, CountJoined, CountLeft}

-- who is to be read is left as it is
abbrev pub IsLeft : {V : Type 0} → Ask → V → V → Type 0
IsLeft Read v w = w ≡ v
IsLeft CountJoined v w = Unit {0}
IsLeft (CountLeft bytes) v w = Unit {0}
