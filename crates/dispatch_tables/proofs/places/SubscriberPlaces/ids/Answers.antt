use Rattle.std.proofs.Common.{◌∙◌, ap, subst}
use Rattle.std.specs.List.{filter_map}
use Rattle.std.specs.List.Sorted.{IsPermutation}
use Rattle.std.proofs.lemmas.List.Sorted.{IsNonDecreasingBy-from_sort}
use Rattle.dispatch_tables.specs.Places.{held_id}
use Rattle.dispatch_tables.proofs.HeldIds.{ids_in_order}
use Rattle.dispatch_tables.proofs.places.SubscriberPlaces.ids.Goals as goal

pub returns : goal.returns
returns g c =
    let ids = c.sort_unstable.new.self.items in
    let moved = subst (λ l. IsPermutation l ids) (c.in_ok-ids.ensures ∙ ap (filter_map held_id) c.deref.ensures.value) c.sort_unstable.ensures.permutation in
    rw (← c.self.view_is) (ids_in_order _ _ ids c.self.invariant.0.indexed moved (IsNonDecreasingBy-from_sort (λ x. x) ids c.sort_unstable.ensures.sorted))
