-- A list that only clauses see.
use Rattle.std.specs.Prelude.{List, [], ◌++◌, ◌∷◌, drop}
use Rattle.channels.specs.declared.history.Entries.{Entries}
use Rattle.channels.specs.declared.history.Entries.TheVariants.{Empty, More, Rest}

abbrev pub items_of : {T : Type 0} → Entries T → List T
items_of Empty = []
items_of (More before value) = before.value.items ++ value.value ∷ []
items_of (Rest before list from) = before.value.items ++ drop from.value list.value.items
