use Rattle.std.proofs.Common.{◌≡◌, ℕ, List, Option, Some, None, MatchOption, sym}
use Rattle.dispatch_tables.specs.Places.{id_at, AreIndexed}
use Rattle.dispatch_tables.specs.declared.places.Place.{Place}
use Rattle.dispatch_tables.proofs.places.place_by_hint.Goals as goal

by_index : {S : Type 0} (places : List (Place S)) (index : ℕ → Option ℕ) (id : ℕ) → AreIndexed places index → (o : Option ℕ) → o ≡ index id → MatchOption o (index id ≡ None) (λ place. id_at places place ≡ Some id)
by_index places index id indexed None is = sym is
by_index places index id indexed (Some place) is = (indexed id place).0 (sym is)

pub returns : goal.returns
returns g c = by_index _ _ c.args.id c.requires _ c.place_in.ensures
