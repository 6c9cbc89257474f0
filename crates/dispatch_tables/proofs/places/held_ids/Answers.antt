use Rattle.std.proofs.Common.{◌∙◌, ◌++◌, ◌∷◌, [], sym, ap}
use Rattle.dispatch_tables.proofs.HeldIds.{held_more_id, held_no_more}
use Rattle.dispatch_tables.proofs.places.held_ids.Goals as goal
use Rattle.dispatch_tables.proofs.places.held_ids.Goals.{in-Held+in_ok-push, in_default}

pub loop-place-preserved : goal.loop-place-preserved
loop-place-preserved g c = elim c.match-place.branch [
  | in-Held+in_ok-push w ↦
      ap (λ v. v.items) w.ids-is
      ∙ w.in_ok-push.ensures.items
      ∙ ap (λ l. l ++ w.in-Held.id ∷ []) c.loop-place.invariant
      ∙ sym (held_more_id c.args.places.now c.loop-place.place-index w.in-Held.id w.in-Held.field-1 c.place-item.result c.loop-place-test.true c.place-item.is w.in-Held.is)
  | in_default w ↦
      ap (λ v. v.items) w.ids-is
      ∙ c.loop-place.invariant
      ∙ sym (held_no_more c.args.places.now c.loop-place.place-index w.in_default.field-0 c.place-item.result c.loop-place-test.true c.place-item.is w.in_default.is)
]
