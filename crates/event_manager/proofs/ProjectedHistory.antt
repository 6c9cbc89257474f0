-- The projection of a history is a history: non-interference, whatever jobs ran.
use Rattle.std.proofs.Common.{◌≡◌, ◌≢◌, ℕ, ℤ, Bool, true, false, ◌||◌, refl, sym, ◌∙◌, ap, ap₂, subst, if◌then◌else◌, Some, None, Option, ◌⊎◌, inl, inr, List, [], ◌∷◌, ◌++◌, true≢false, eq-eqb, eqb-true, Ok, Err, Result}
use Rattle.std.proofs.lemmas.Bool.{or_left, or_right, or_cases}
use Rattle.std.proofs.lemmas.List.Elements.{All-nil, All-cons}
use Rattle.std.specs.List.{flat_map}
use Rattle.event_loop.specs.Prelude.{Event, Exchanges, Begins, Serves, Registry, Registrations, Owns, owner_of, class_in, IsDispatchOrder, is_id, id_of, Position, events_of, AreDispatched}
use Rattle.event_manager.specs.History.{Turn, Made, Waited, IsTurn, IsHistory}
use Rattle.event_manager.specs.Projection.{projected_registrations, next_for, projected_registry, asks_to_add, has_addition, seen, IsOnly, IsProjection, turn_exchanges, exchanges_in, NonInterference}
use Rattle.vmm_sys.specs.declared.errno.Errno.{Errno}
use Rattle.event_manager.proofs.ProjectedExchanges.{IsMine, same_at_mine, asked_first, asked_then, has_addition_first, has_addition_then}
use Rattle.event_manager.proofs.ProjectedSteps.{projected_with, own_step, other_step}
use Rattle.dispatch_tables.proofs.DispatchOrders.{by_class, ordered_by_class, one_order_of_mine}
use Rattle.event_manager.proofs.ProjectedDispatch.{projected_dispatch, foreign_positions, weave, woven_projected, positions_exchanges}
use Rattle.dispatch_tables.proofs.Owning.{class_by}

-- at a descriptor of i's, i's own registrations give the class that all give
own_class : (i : ℕ) (mine : ℕ → Bool) (pending : List Event) (registrations : Registrations) → IsMine i mine registrations.owners → (fd : ℕ) → mine fd ≡ true → class_in (projected_registrations i pending registrations).owners fd ≡ class_in registrations.owners fd
own_class i mine pending registrations m fd e = ap class_by (same_at_mine i mine registrations.owners fd m e)

pub is_id_Some : (i : ℕ) (o : Option ℕ) → is_id i o ≡ true → o ≡ Some i
is_id_Some i None h = absurd (true≢false (sym h))
is_id_Some i (Some j) h = ap Some (eqb-true j i h)

not_true : (b : Bool) → (b ≡ true → ⊥) → b ≡ false
not_true true h = absurd (h refl)
not_true false h = refl

module _ {V : Type 0} (begins : Begins V) (serves : Serves V) (i : ℕ) (mine : ℕ → Bool) where
  abbrev IsClaimed : Exchanges → Type 0
  IsClaimed exchanges = (fd : ℕ) → asks_to_add fd exchanges ≡ true → mine fd ≡ true

  abbrev Apart : (ℕ → Exchanges) → Type 0
  Apart exchanges = (fd : ℕ) (j : ℕ) → j ≢ i → has_addition fd (exchanges j) ≡ true → mine fd ≡ false

  -- a turn that stays, as i sees it
  record Kept (before : Registry V) (turn : Turn V) (after : Registry V) : Type 0 where
    shown : Turn V
    same : seen i shown ≡ seen i turn
    only : IsOnly i shown
    fits : IsTurn begins serves (projected_registry i before) shown (projected_registry i after)
    still : IsMine i mine after.registrations.owners

  -- a turn that goes
  record Dropped (before : Registry V) (turn : Turn V) (after : Registry V) : Type 0 where
    unseen : seen i turn ≡ []
    same : projected_registry i after ≡ projected_registry i before
    still : IsMine i mine after.registrations.owners

  abbrev Goes : Registry V → Turn V → Registry V → Type 0
  Goes before turn after = Kept before turn after ⊎ Dropped before turn after

  wait_projected : (before : Registry V) (ms : ℤ) (waited : Result (List Event) Errno) (positions : List (Position V)) (after : Registry V) → IsMine i mine before.registrations.owners → IsClaimed (positions_exchanges i positions) → Apart (λ j. positions_exchanges j positions) → IsTurn begins serves before (Waited ms waited positions) after → Kept before (Waited ms waited positions) after
  wait_projected before ms (Err errno) positions after m claimed apart (none, is) = record {
    shown = Waited ms (Err errno) [];
    same = ap (λ ps. seen i (Waited ms (Err errno) ps)) (sym none);
    only = All-nil _;
    fits = (refl, ap (projected_registry i) is);
    still = subst (λ (r : Registry V). IsMine i mine r.registrations.owners) (sym is) m;
  }
  wait_projected before ms (Ok report) positions after m claimed apart dispatch =
      let registrations = before.registrations in
      let n = next_for i before.next in
      let own : ℕ → ℕ = λ fd. class_in (projected_registrations i [] registrations).owners fd in
      let order = ordered_by_class own report in
      let mine_alike = one_order_of_mine (λ fd. class_in registrations.owners fd) own mine (own_class i mine [] registrations m) report (events_of positions) (by_class own report) dispatch.0 order in
      let w = weave serves i mine n (by_class own report) positions (foreign_positions serves i mine n before [] positions after m claimed apart dispatch.1) mine_alike in
      let d = projected_dispatch serves i mine n [] before [] [] positions w.shown after w.woven m claimed apart (λ fd h. refl) dispatch.1 in
      let are = woven_projected i mine positions w.shown w.woven in
      record {
        shown = Waited ms (Ok report) w.shown;
        same = ap (λ ps. Waited ms (Ok report) ps ∷ []) are.same;
        only = are.only;
        fits = (
          subst (λ es. IsDispatchOrder (projected_registrations i [] registrations) report es) (sym w.events_are) order,
          subst (λ k. AreDispatched serves (projected_registry i before) [] w.shown (projected_with i k [] after)) (ap (next_for i) (sym d.next)) d.fits,
        );
        still = d.still;
      }

  turn_projected : (before : Registry V) (turn : Turn V) (after : Registry V) → IsMine i mine before.registrations.owners → IsClaimed (turn_exchanges i turn) → Apart (λ j. turn_exchanges j turn) → IsTurn begins serves before turn after → Goes before turn after
  turn_projected before (Waited ms waited positions) after m claimed apart h = inl (wait_projected before ms waited positions after m claimed apart h)
  turn_projected before (Made step) after m claimed apart h =
      let at : (b : Bool) → is_id i (id_of step) ≡ b → Goes before (Made step) after = elim [
        | true ↦ λ e. let s = own_step begins i mine before step after e m claimed h in inl (record { shown = Made step; same = refl; only = is_id_Some i (id_of step) e; fits = s.fits; still = s.still })
        | false ↦ λ e. let s = other_step begins i mine before step after e m apart h in inr (record { unseen = ap (λ b. if b then Made step ∷ [] else []) e; same = s.same; still = s.still })
      ]
      in at (is_id i (id_of step)) refl

  history_projected : (before : Registry V) (history : List (Turn V)) (after : Registry V) → IsMine i mine before.registrations.owners → IsClaimed (exchanges_in i history) → Apart (λ j. exchanges_in j history) → IsHistory begins serves before history after
      → (projected : List (Turn V)) × IsProjection i history projected × IsHistory begins serves (projected_registry i before) projected (projected_registry i after)
  history_projected before [] after m claimed apart is = ([], (refl, All-nil (IsOnly i)), ap (projected_registry i) is)
  history_projected before (turn ∷ history) after m claimed apart (mid, did, more) =
      let claimed1 : IsClaimed (turn_exchanges i turn) = λ fd t. claimed fd (asked_first fd (turn_exchanges i turn) (exchanges_in i history) t) in
      let claimed2 : IsClaimed (exchanges_in i history) = λ fd t. claimed fd (asked_then fd (turn_exchanges i turn) (exchanges_in i history) t) in
      let apart1 : Apart (λ j. turn_exchanges j turn) = λ fd j differ t. apart fd j differ (has_addition_first fd (turn_exchanges j turn) (exchanges_in j history) t) in
      let apart2 : Apart (λ j. exchanges_in j history) = λ fd j differ t. apart fd j differ (has_addition_then fd (turn_exchanges j turn) (exchanges_in j history) t) in
      elim (turn_projected before turn mid m claimed1 apart1 did) [
        | inl k ↦
            let rest = history_projected mid history after k.still claimed2 apart2 more in (
              k.shown ∷ rest.0,
              (ap₂ (λ xs ys. xs ++ ys) k.same (rest.1).0, All-cons (IsOnly i) k.shown rest.0 k.only (rest.1).1),
              (projected_registry i mid, k.fits, rest.2),
            )
        | inr gone ↦
            let rest = history_projected mid history after gone.still claimed2 apart2 more in (
              rest.0,
              ((rest.1).0 ∙ sym (ap (λ xs. xs ++ flat_map (seen i) history) gone.unseen), (rest.1).1),
              subst (λ r. IsHistory begins serves r rest.0 (projected_registry i after)) gone.same rest.2,
            )
      ]

pub non_interference : {V : Type 0} (begins : Begins V) (serves : Serves V) (before : Registry V) (history : List (Turn V)) (after : Registry V) → IsHistory begins serves before history after → NonInterference begins serves before history after
non_interference begins serves before history after h i apart =
    let mine : ℕ → Bool = λ fd. is_id i (owner_of before.registrations.owners fd) || asks_to_add fd (exchanges_in i history) in
    let claims : (fd : ℕ) → mine fd ≡ true → Owns i before.registrations fd ⊎ (asks_to_add fd (exchanges_in i history) ≡ true) = λ fd e. elim (or_cases (is_id i (owner_of before.registrations.owners fd)) (asks_to_add fd (exchanges_in i history)) e) [ inl p ↦ inl (is_id_Some i _ p) | inr p ↦ inr p ] in
    history_projected begins serves i mine before history after
    (record {
      own = λ fd e. or_left _ _ (ap (is_id i) e ∙ eq-eqb i i refl);
      other = λ fd j differ e. not_true _ (λ t. (apart fd j differ (claims fd t)).0 e);
    })
    (λ fd t. or_right _ _ t)
    (λ fd j differ t. not_true _ (λ c. true≢false (sym t ∙ (apart fd j differ (claims fd c)).1)))
    h
