use Rattle.dispatch_tables.proofs.PlaceLemmas.{held_below}
use Rattle.dispatch_tables.proofs.places.SubscriberPlaces.next_id.Goals as goal

pub returns-clause-below : goal.returns-clause-below
returns-clause-below g c = rw (← c.self.view_is) (λ id subscriber held. held_below _ _ _ id subscriber c.self.invariant.0.indexed c.self.invariant.1 held)
