-- A batch that is dispatched from the front: one more position.
use Rattle.std.proofs.Common.{◌≡◌, refl, sym, ap, subst, List, [], ◌∷◌, ◌++◌, append_assoc, append-nil}
use Rattle.event_loop.specs.Prelude.{Event, Serves, Registry, Position, Delivery, is_removed, still_pending, with_pending, IsDelivery, AreDispatched, events_of}

module _ {V : Type 0} (serves : Serves V) where
  -- the positions so far lead from the start to now: whatever completes them there completes them from the start
  abbrev pub AreDispatchedSoFar : Registry V → List (Position V) → List Event → Registry V → Type 0
  AreDispatchedSoFar start earlier later now =
      (rest : List (Position V)) (after : Registry V) → events_of rest ≡ later → AreDispatched serves now earlier rest after → AreDispatched serves start [] (earlier ++ rest) after

  pub so_far_none : (start : Registry V) (report : List Event) → AreDispatchedSoFar start [] report start
  so_far_none start report rest after e h = h

  pub so_far_more : (start now next : Registry V) (earlier : List (Position V)) (event : Event) (later : List Event) (delivery : Delivery V)
      → AreDispatchedSoFar start earlier (event ∷ later) now → IsDelivery serves (with_pending (still_pending earlier later) now) (is_removed event.fd earlier) event delivery next
      → AreDispatchedSoFar start (earlier ++ record { event = event; delivery = delivery } ∷ []) later next
  so_far_more start now next earlier event later delivery so_far out rest after e h =
      let position : Position V = record { event = event; delivery = delivery } in
      subst (λ positions. AreDispatched serves start [] positions after) (sym (append_assoc earlier (position ∷ []) rest))
      (so_far (position ∷ rest) after (ap (λ es. event ∷ es) e) (next, subst (λ es. IsDelivery serves (with_pending (still_pending earlier es) now) (is_removed event.fd earlier) event delivery next) (sym e) out, h))

  pub so_far_all : (start now : Registry V) (positions : List (Position V)) → AreDispatchedSoFar start positions [] now → AreDispatched serves start [] positions (with_pending [] now)
  so_far_all start now positions so_far =
      subst (λ ds. AreDispatched serves start [] ds (with_pending [] now)) (append-nil positions) (so_far [] _ refl refl)
