use Rattle.std.proofs.Common.{Some, ◌+◌, ◌∙◌, sym, ap, arith, nat_eq}
use Rattle.std.specs.Map.{lookup}
use Rattle.std.proofs.lemmas.Option.{slice_get_within}
use Rattle.dispatch_tables.proofs.VacantPlaces.{first_is_vacant, read_vacant, vacant_is_not_held}
use Rattle.dispatch_tables.proofs.PlaceLemmas.{sound_fill, values_fill, indexed_same, indexed_again, no_place, placed_below_changed}
use Rattle.dispatch_tables.proofs.places.SubscriberPlaces.insert.Goals as goal

pub invariant_of-self : goal.invariant_of-self
invariant_of-self g c =
    (record { indexed = indexed_same _ _ _ c.vacant_place.ensures.holders c.self.invariant.0.indexed; linked = c.vacant_place.ensures.linked }, c.self.invariant.1)

pub invariant_of-self-in-Err : goal.invariant_of-self-in-Err
invariant_of-self-in-Err g c =
    let indexed = indexed_same _ _ _ c.vacant_place.ensures.holders c.self.invariant.0.indexed in (
      record { indexed = indexed_again _ _ _ (λ id. ap (lookup (nat_eq id)) c.in-Err.ensures.err) indexed; linked = c.vacant_place.ensures.linked },
      λ j above. ap (lookup (nat_eq j)) c.in-Err.ensures.err ∙ c.self.invariant.1 j above,
    )

pub index_mut-requires : goal.index_mut-requires
index_mut-requires g c =
    let linked = rw c.in_ok-place.ensures.first at c.vacant_place.ensures.linked in
    let vacant = first_is_vacant c.vacant_place.new.places.items c.in_ok-place.place linked in
    omega (arith, slice_get_within c.vacant_place.new.places.items c.in_ok-place.place _ vacant.1, c.vacant_place.new.places.ok)

pub invariant_of-self-in-Vacant : goal.invariant_of-self-in-Vacant
invariant_of-self-in-Vacant g c =
    let linked = rw c.in_ok-place.ensures.first at c.vacant_place.ensures.linked in
    let vacant = read_vacant _ c.in_ok-place.place c.index_mut.result.now linked c.index_mut.ensures.value ∙ ap Some (sym c.replace.ensures.value ∙ c.in-Vacant.is) in
    let same = c.vacant_place.ensures.holders in (
      rw c.replace.ensures.after
          (sound_fill _ _ _ c.self.inside.next c.in_ok-place.place c.in-Vacant.next c.args.subscriber (indexed_same _ _ _ same c.self.invariant.0.indexed) linked vacant
          (no_place _ _ c.self.inside.next (indexed_same _ _ _ same c.self.invariant.0.indexed) (c.self.invariant.1 c.self.inside.next (omega arith))) c.in-Ok.ensures.updates.0),
      placed_below_changed _ _ _ _ c.self.inside.next (Some c.in_ok-place.place) c.self.invariant.1 (omega arith) (λ above. absurd (omega (arith, above))) c.in-Ok.ensures.updates.0,
    )

pub unreachable-requires : goal.unreachable-requires
unreachable-requires g c =
    let linked = rw c.in_ok-place.ensures.first at c.vacant_place.ensures.linked in
    vacant_is_not_held _ c.in_ok-place.place _ _ linked (read_vacant _ c.in_ok-place.place c.index_mut.result.now linked c.index_mut.ensures.value ∙ ap Some (sym c.replace.ensures.value ∙ c.in-Held.is))

pub returns-clause-ok : goal.returns-clause-ok
returns-clause-ok g c =
    let linked = rw c.in_ok-place.ensures.first at c.vacant_place.ensures.linked in
    let vacant = read_vacant _ c.in_ok-place.place c.index_mut.result.now linked c.index_mut.ensures.value ∙ ap Some (sym c.replace.ensures.value ∙ c.in-Vacant.is) in
    let same = c.vacant_place.ensures.holders in
    rw (← c.self.view_is) (ap (λ values. record { by_id = values; next = c.self.inside.next + 1 })
    (rw (c.replace.ensures.after, ← same.values)
    (values_fill _ _ _ c.self.inside.next c.in_ok-place.place c.in-Vacant.next c.args.subscriber (indexed_same _ _ _ same c.self.invariant.0.indexed) linked vacant
    (no_place _ _ c.self.inside.next (indexed_same _ _ _ same c.self.invariant.0.indexed) (c.self.invariant.1 c.self.inside.next (omega arith))) c.in-Ok.ensures.updates.0)))
