use Rattle.std.proofs.Common.{◌∙◌, sym, ap, arith}
use mathlib.Core.Logic.{inl, inr}
use Rattle.dispatch_tables.proofs.PlaceLemmas.{read_id, read_subscriber, held_within, sound_rewrite, values_rewrite, no_place}
use Rattle.dispatch_tables.proofs.places.SubscriberPlaces.get_mut.Goals as goal

pub index_mut-requires : goal.index_mut-requires
index_mut-requires g c = omega (arith, held_within c.self.inside.places.items c.in-Some.place c.args.id ((c.self.invariant.0.indexed c.args.id c.in-Some.place).0 (sym (c.copied.ensures ∙ c.get.ensures.value) ∙ c.in-Some.is)), c.self.inside.places.ok)

pub subscriber_mut-requires : goal.subscriber_mut-requires
subscriber_mut-requires g c = read_id c.self.inside.places.items c.in-Some.place c.args.id c.index_mut.result.now ((c.self.invariant.0.indexed c.args.id c.in-Some.place).0 (sym (c.copied.ensures ∙ c.get.ensures.value) ∙ c.in-Some.is)) c.index_mut.ensures.value

pub invariant_of-self-lent : goal.invariant_of-self-lent
invariant_of-self-lent g c w = (sound_rewrite _ _ _ c.args.id c.in-Some.place c.index_mut.result.now c.self.invariant.0 ((c.self.invariant.0.indexed c.args.id c.in-Some.place).0 (sym (c.copied.ensures ∙ c.get.ensures.value) ∙ c.in-Some.is)) c.index_mut.ensures.value w, c.self.invariant.1)

pub returns-in-Some : goal.returns-in-Some
returns-in-Some g c =
    let held = ((c.self.invariant.0.indexed c.args.id c.in-Some.place).0 (sym (c.copied.ensures ∙ c.get.ensures.value) ∙ c.in-Some.is)) in
    let kept = c.self.invariant.0 in (
      rw (← c.self.view_is) (λ i. inl (c.subscriber_mut.result.ghost_name, λ w. ap (λ values. record { by_id = values; next = c.self.inside.next }) (values_rewrite _ _ _ c.args.id c.in-Some.place c.index_mut.result.now kept held c.index_mut.ensures.value w) i)),
      record { lent = tt; value = rw (← c.self.view_is) (sym c.subscriber_mut.ensures.value ∙ sym (read_subscriber _ _ c.in-Some.place c.args.id c.index_mut.result.now kept.indexed held c.index_mut.ensures.value)) },
    )

pub returns-in-None : goal.returns-in-None
returns-in-None g c =
    (ap inr c.self.view_is, record { lent = tt; value = rw (← c.self.view_is) (sym (no_place _ _ c.args.id c.self.invariant.0.indexed (sym (c.copied.ensures ∙ c.get.ensures.value) ∙ c.in-None.is))) })
