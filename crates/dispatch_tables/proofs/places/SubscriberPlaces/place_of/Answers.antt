use Rattle.std.proofs.Common.{◌∙◌, sym, ap, is_some}
use Rattle.dispatch_tables.proofs.PlaceLemmas.{index_tells, no_place}
use Rattle.dispatch_tables.proofs.places.SubscriberPlaces.place_of.Goals as goal

pub returns-then-self-id : goal.returns-then-self-id
returns-then-self-id g c =
    rw (← c.self.view_is) (ap is_some (sym (no_place _ _ c.args.id c.self.invariant.0.indexed (c.self.invariant.1 c.args.id c.if-self-id.true))))

pub returns : goal.returns
returns g c = rw (← c.self.view_is) (index_tells _ _ c.args.id c.self.invariant.0.indexed _ (sym (c.copied.ensures ∙ c.get.ensures.value)))
