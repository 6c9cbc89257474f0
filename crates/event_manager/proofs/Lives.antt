-- A history is a life of each id.
use Rattle.std.proofs.Common.{◌≡◌, ℕ, Bool, cond, refl, sym, ◌∙◌, ap, subst, Some, None, Option, inl, inr, nat_cmp, List, [], ◌∷◌, ◌++◌, append_assoc, Ok, Err, is_eq, Equal}
use Rattle.std.specs.FinMap.{FinMap, get, insert, remove, get-insert}
use Rattle.std.specs.Cmp.{nat_cmp_total, nat_cmp_is}
use Rattle.std.specs.List.{flat_map}
use Rattle.std.proofs.lemmas.Bool.Decides.{eqb_tells}
use Rattle.event_loop.specs.Prelude.{Event, Begins, Serves, Registry, LoopStep, Joined, NotJoined, Left, Replaced, Requested, Refused, Steps, Delivery, Nobody, To, Position, with_pending, IsDelivery, AreDispatched, is_removed, still_pending, events_of}
use Rattle.event_manager.specs.History.{Turn, Made, Waited, IsTurn, IsHistory}
use Rattle.event_manager.specs.Life.{LifeStep, Lives, life_of_step, life_of_delivery, life_of_turn, life_of}
use Rattle.event_manager.proofs.HeldIds.{removed_value}
use Rattle.event_manager.proofs.Isolation.{insert_other_value, remove_other_value}

module _ {V : Type 0} where
  inserted_value : (k : ℕ) (values : FinMap nat_cmp V) (v : V) → get (insert values k v) k ≡ Some v
  inserted_value k values v = get-insert nat_cmp_total values k v k ∙ ap (λ r. cond (is_eq r) (Some v) (get values k)) (sym (nat_cmp_is k k Equal refl))

  pub inserted_at : (k i : ℕ) (values : FinMap nat_cmp V) (v : V) → k ≡ i → get (insert values k v) i ≡ Some v
  inserted_at k i values v e = subst (λ j. get (insert values k v) j ≡ Some v) e (inserted_value k values v)

  removed_at : (k i : ℕ) (values : FinMap nat_cmp V) → k ≡ i → get (remove values k) i ≡ None
  removed_at k i values e = subst (λ j. get (remove values k) j ≡ None) e (removed_value k values)

module _ {V : Type 0} (begins : Begins V) (serves : Serves V) (i : ℕ) where
  abbrev Life : Registry V → List (LifeStep V) → Option V → Type 0
  Life before life after = Lives begins serves (get before.values i) life after

  abbrev held : Registry V → Option V
  held registry = get registry.values i

  from : (before after : Registry V) (life : List (LifeStep V)) (last : Option V) → held after ≡ held before → Life after life last → Life before life last
  from before after life last e h = subst (λ value. Lives begins serves value life last) e h

  step_lives : (before : Registry V) (step : LoopStep V) (mid : Registry V) (more : List (LifeStep V)) (last : Option V) → Steps begins before step mid → Life mid more last → Life before (life_of_step i step ++ more) last
  step_lives before (Joined value id exchanges calls after) mid more last (registrations, room, next, fit, begun, e) k = elim (eqb_tells id i) [
    | inl t ↦ rw t.0 (begun, subst (λ x. Lives begins serves x more last) (ap held e ∙ inserted_at id i before.values after t.1) k)
    | inr t ↦ rw t.0 (from before mid more last (ap held e ∙ insert_other_value id i before.values after (λ s. t.1 (sym s))) k)
  ]
  step_lives before (NotJoined value error) mid more last h k = from before mid more last (ap held h.1) k
  step_lives before (Left id value calls) mid more last (fds, has, owned, deletes, e) k = elim (eqb_tells id i) [
    | inl t ↦ rw t.0 (subst (λ j. get before.values j ≡ Some value) t.1 has, subst (λ x. Lives begins serves x more last) (ap held e ∙ removed_at id i before.values t.1) k)
    | inr t ↦ rw t.0 (from before mid more last (ap held e ∙ remove_other_value id i before.values (λ s. t.1 (sym s))) k)
  ]
  step_lives before (Replaced id old new) mid more last (has, e) k = elim (eqb_tells id i) [
    | inl t ↦ rw t.0 (subst (λ j. get before.values j ≡ Some old) t.1 has, subst (λ x. Lives begins serves x more last) (ap held e ∙ inserted_at id i before.values new t.1) k)
    | inr t ↦ rw t.0 (from before mid more last (ap held e ∙ insert_other_value id i before.values new (λ s. t.1 (sym s))) k)
  ]
  step_lives before (Requested id exchanges calls) mid more last (value, registrations, has, fit, e) k = from before mid more last (ap held e) k
  step_lives before (Refused id) mid more last h k = from before mid more last (ap held h.1) k

  delivery_lives : (before : Registry V) (pending : List Event) (removed : Bool) (event : Event) (delivery : Delivery V) (mid : Registry V) (more : List (LifeStep V)) (last : Option V) → IsDelivery serves (with_pending pending before) removed event delivery mid → Life mid more last → Life before (life_of_delivery i event delivery ++ more) last
  delivery_lives before pending removed event Nobody mid more last h k = from before mid more last (ap held h.1) k
  delivery_lives before pending removed event (To id exchanges calls after) mid more last (value, registrations, is_for, served, fit, e) k = elim (eqb_tells id i) [
    | inl t ↦ rw t.0 (value, subst (λ j. get before.values j ≡ Some value) t.1 is_for.2, served, subst (λ x. Lives begins serves x more last) (ap held e ∙ inserted_at id i before.values after t.1) k)
    | inr t ↦ rw t.0 (from before mid more last (ap held e ∙ insert_other_value id i before.values after (λ s. t.1 (sym s))) k)
  ]

  positions_live : (before : Registry V) (earlier positions : List (Position V)) (mid : Registry V) (more : List (LifeStep V)) (last : Option V) → AreDispatched serves before earlier positions mid → Life mid more last → Life before (flat_map (λ position. life_of_delivery i position.event position.delivery) positions ++ more) last
  positions_live before earlier [] mid more last e k = from before mid more last (ap held e) k
  positions_live before earlier (position ∷ positions) mid more last (next, did, others) k =
      let rest = flat_map (λ (position : Position V). life_of_delivery i position.event position.delivery) positions in
      subst (λ l. Life before l last) (sym (append_assoc (life_of_delivery i position.event position.delivery) rest more))
      (delivery_lives before (still_pending earlier (events_of positions)) (is_removed position.event.fd earlier) position.event position.delivery next (rest ++ more) last did
      (positions_live next (earlier ++ position ∷ []) positions mid more last others k))

  turn_lives : (before : Registry V) (turn : Turn V) (mid : Registry V) (more : List (LifeStep V)) (last : Option V) → IsTurn begins serves before turn mid → Life mid more last → Life before (life_of_turn i turn ++ more) last
  turn_lives before (Made step) mid more last h k = step_lives before step mid more last h k
  turn_lives before (Waited ms (Ok report) positions) mid more last h k = positions_live before [] positions mid more last h.1 k
  turn_lives before (Waited ms (Err errno) positions) mid more last (none, e) k = rw none (from before mid more last (ap held e) k)

  pub history_lives : (before : Registry V) (history : List (Turn V)) (after : Registry V) → IsHistory begins serves before history after → Life before (life_of i history) (held after)
  history_lives before [] after e = ap held e
  history_lives before (turn ∷ history) after (mid, did, more) = turn_lives before turn mid (life_of i history) (held after) did (history_lives mid history after more)

-- the life of an id that nobody had at first, and that has this value in the end
pub whole_life : {V : Type 0} (begins : Begins V) (serves : Serves V) (start end after : Option V) (life : List (LifeStep V)) → start ≡ None → end ≡ after → Lives begins serves start life end → Lives begins serves None life after
whole_life begins serves start end after life began ended lives = subst (λ after. Lives begins serves None life after) ended (subst (λ before. Lives begins serves before life end) began lives)
