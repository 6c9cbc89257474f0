use Rattle.std.proofs.Common.{◌∙◌, sym, arith}
use Rattle.dispatch_tables.proofs.PlaceLemmas.{read_id, read_subscriber, held_within, no_place}
use Rattle.dispatch_tables.proofs.places.SubscriberPlaces.get.Goals as goal

pub index-requires : goal.index-requires
index-requires g c = omega (arith, held_within c.self.inside.places.items c.in-Some.place c.args.id ((c.self.invariant.0.indexed c.args.id c.in-Some.place).0 (sym (c.copied.ensures ∙ c.get.ensures.value) ∙ c.in-Some.is)), c.self.inside.places.ok)

pub subscriber-requires : goal.subscriber-requires
subscriber-requires g c = read_id c.self.inside.places.items c.in-Some.place c.args.id c.index.result.now ((c.self.invariant.0.indexed c.args.id c.in-Some.place).0 (sym (c.copied.ensures ∙ c.get.ensures.value) ∙ c.in-Some.is)) c.index.ensures

pub returns-in-Some : goal.returns-in-Some
returns-in-Some g c =
    let held = ((c.self.invariant.0.indexed c.args.id c.in-Some.place).0 (sym (c.copied.ensures ∙ c.get.ensures.value) ∙ c.in-Some.is)) in
    rw (← c.self.view_is) (sym c.subscriber.ensures ∙ sym (read_subscriber _ _ c.in-Some.place c.args.id c.index.result.now c.self.invariant.0.indexed held c.index.ensures))

pub returns-in-None : goal.returns-in-None
returns-in-None g c =
    rw (← c.self.view_is) (sym (no_place _ _ c.args.id c.self.invariant.0.indexed (sym (c.copied.ensures ∙ c.get.ensures.value) ∙ c.in-None.is)))
