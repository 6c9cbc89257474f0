use Rattle.std.proofs.Common.{None, ◌∙◌, refl, sym, ap, arith}
use Rattle.std.proofs.lemmas.Bool.{false≢true}
use Rattle.dispatch_tables.specs.Places.{subscriber_of}
use Rattle.dispatch_tables.proofs.PlaceLemmas.{read_id, read_subscriber, held_within, sound_vacate, values_vacate, no_place, placed_below_changed}
use Rattle.dispatch_tables.proofs.places.SubscriberPlaces.remove.Goals as goal

pub returns-in_default-clause-value : goal.returns-in_default-clause-value
returns-in_default-clause-value g c = rw (← c.self.view_is) (sym (no_place _ _ c.args.id c.self.invariant.0.indexed (sym c.in_default.ensures.value)))

pub index_mut-requires : goal.index_mut-requires
index_mut-requires g c =
    omega (arith, held_within c.self.inside.places.items c.in-Some.place c.args.id ((c.self.invariant.0.indexed c.args.id c.in-Some.place).0 (sym c.in-Some.ensures.value)), c.self.inside.places.ok)

pub invariant_of-self-in-Held : goal.invariant_of-self-in-Held
invariant_of-self-in-Held g c = (
  rw c.replace.ensures.after (sound_vacate _ _ _ _ c.args.id c.in-Some.place c.self.invariant.0 (sym c.in-Some.ensures.value) c.remove.ensures.updates.0),
  placed_below_changed _ _ _ _ c.args.id None c.self.invariant.1 (omega arith) (λ _. refl) c.remove.ensures.updates.0,
)

pub unreachable-requires : goal.unreachable-requires
unreachable-requires g c =
    let held = (c.self.invariant.0.indexed c.args.id c.in-Some.place).0 (sym c.in-Some.ensures.value) in
    let some = read_id c.self.inside.places.items c.in-Some.place c.args.id c.index_mut.result.now held c.index_mut.ensures.value in
    absurd (false≢true (rw (← c.replace.ensures.value, c.in-Vacant.is) at some))

pub returns-clause-value : goal.returns-clause-value
returns-clause-value g c =
    let held = (c.self.invariant.0.indexed c.args.id c.in-Some.place).0 (sym c.in-Some.ensures.value) in
    let is = sym c.replace.ensures.value ∙ c.in-Held.is in
    rw (← c.self.view_is) (sym (read_subscriber _ _ c.in-Some.place c.args.id c.index_mut.result.now c.self.invariant.0.indexed held c.index_mut.ensures.value ∙ ap subscriber_of is))

pub returns-clause-removed : goal.returns-clause-removed
returns-clause-removed g c =
    rw (← c.self.view_is) (ap (λ values. record { by_id = values; next = c.self.inside.next })
    (rw c.replace.ensures.after (values_vacate _ _ _ _ c.args.id c.in-Some.place c.self.invariant.0 (sym c.in-Some.ensures.value) c.remove.ensures.updates.0)))
