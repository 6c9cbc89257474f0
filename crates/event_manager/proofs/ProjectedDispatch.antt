-- The projection of a dispatch.
use Rattle.std.proofs.Common.{◌≡◌, ◌≢◌, ℕ, Bool, true, false, ◌||◌, ◌==◌, refl, sym, ◌∙◌, ap, subst, Some, inl, inr, nat_cmp, List, [], ◌∷◌, ◌++◌, cond, filter, All, IfSome, true≢false, if◌then◌else◌, eq-eqb, eqb-true}
use Rattle.std.specs.FinMap.{FinMap, get}
use Rattle.std.proofs.lemmas.Bool.Decides.{eqb_tells}
use Rattle.event_loop.specs.Prelude.{Event, owner_of, PollerCall, Exchanges, has_removal, Serves, Registry, Delivery, Nobody, To, Position, exchanges_of, is_id, is_removed, still_pending, events_of, with_pending, IsFor, IsDelivery, AreDispatched}
use Rattle.event_manager.specs.Projection.{owned_by, only_values, projected_registrations, receiver_of, asks_to_add, has_addition}
use Rattle.std.proofs.lemmas.List.Elements.{All-nil, All-cons}
use Rattle.dispatch_tables.proofs.DispatchOrders.{nil_cons, head_is, tail_is}
use Rattle.event_manager.proofs.FiniteMaps.{only_values-insert}
use Rattle.event_manager.proofs.ProjectedExchanges.{IsMine, own_exchanges, other_exchanges, owned_projected, owned_from_projected, projected_is_own, asked_first, asked_then, has_addition_first, has_addition_then}
use Rattle.event_loop.proofs.ExchangeLemmas.{or_false, exchanges_keep_endpoint}
use Rattle.event_loop.proofs.Positions.{is_removed-push}
use Rattle.event_manager.proofs.ProjectedSteps.{projected_with, untouched_projected, has_projected, has_from_projected}
use Rattle.event_manager.proofs.Isolation.{isolated_delivery}
use Rattle.std.specs.List.{flat_map}

-- the exchanges of id i in a delivery; in positions
abbrev pub delivery_exchanges : {V : Type 0} → ℕ → Delivery V → Exchanges
delivery_exchanges i delivery = if is_id i (receiver_of delivery) then exchanges_of delivery else []

abbrev pub positions_exchanges : {V : Type 0} → ℕ → List (Position V) → Exchanges
positions_exchanges i positions = flat_map (λ position. delivery_exchanges i position.delivery) positions

-- what other ids got becomes nobody's
abbrev pub only_delivery : {V : Type 0} → ℕ → Delivery V → Delivery V
only_delivery i Nobody = Nobody
only_delivery i (To j exchanges calls after) = if j == i then To j exchanges calls after else Nobody

abbrev pub only_position : {V : Type 0} → ℕ → Position V → Position V
only_position i position = record { event = position.event; delivery = only_delivery i position.delivery }

-- nobody but i got it
abbrev pub IsOnlyFor : {V : Type 0} → ℕ → Position V → Type 0
IsOnlyFor i position = IfSome (receiver_of position.delivery) (λ j. j ≡ i)

-- what id i got, it gets, in the same order; what other ids got becomes nobody's
pub record AreProjected {V : Type 0} (i : ℕ) (positions projected : List (Position V)) : Type 0 where
  pub same : filter (λ position. is_id i (receiver_of position.delivery)) projected ≡ filter (λ position. is_id i (receiver_of position.delivery)) positions
  pub only : All (IsOnlyFor i) projected

-- the positions and those of the projection: those on descriptors of i's are in both, in one
-- order; of the others each list has its own
pub data Woven {V : Type 0} (i : ℕ) (mine : ℕ → Bool) : List (Position V) → List (Position V) → Type 0 where
  ends : Woven i mine [] []
  both : (d : Position V) {a b : List (Position V)} → mine d.event.fd ≡ true → Woven i mine a b → Woven i mine (d ∷ a) (only_position i d ∷ b)
  skipped : (d : Position V) {a b : List (Position V)} → mine d.event.fd ≡ false → only_delivery i d.delivery ≡ Nobody → Woven i mine a b → Woven i mine (d ∷ a) b
  added : (d : Position V) {a b : List (Position V)} → mine d.event.fd ≡ false → only_delivery i d.delivery ≡ Nobody → Woven i mine a b → Woven i mine a (only_position i d ∷ b)

module _ {V : Type 0} (serves : Serves V) (i : ℕ) (mine : ℕ → Bool) (n : ℕ) where
  abbrev IsClaimed : Exchanges → Type 0
  IsClaimed exchanges = (fd : ℕ) → asks_to_add fd exchanges ≡ true → mine fd ≡ true

  -- one position that both have
  record Same (before : Registry V) (pending : List Event) (removed : Bool) (e : Event) (delivery shown : Delivery V) (after : Registry V) : Type 0 where
    left : List Event
    fits : IsDelivery serves (projected_with i n pending before) removed e shown (projected_with i n left after)
    still : IsMine i mine after.registrations.owners
    next : after.next ≡ before.next
    alike : (fd : ℕ) → mine fd ≡ true → has_removal fd (exchanges_of shown) ≡ has_removal fd (exchanges_of delivery)

  abbrev Agree : List (Position V) → List (Position V) → Type 0
  Agree earlier removed = (fd : ℕ) → mine fd ≡ true → is_removed fd removed ≡ is_removed fd earlier

  own_to : (before : Registry V) (pending : List Event) (gone removed : Bool) (e : Event) (exchanges : Exchanges) (calls : List PollerCall) (held : V) (after : Registry V)
      → IsMine i mine before.registrations.owners → IsClaimed exchanges → removed ≡ gone → IsDelivery serves before gone e (To i exchanges calls held) after
      → Same before pending removed e (To i exchanges calls held) (To i exchanges calls held) after
  own_to before pending gone removed e exchanges calls held after m claimed agree (value, registrations, for, serving, fits, is) =
      let t = own_exchanges i mine pending before.registrations exchanges calls registrations m claimed fits in
      record {
        left = t.left;
        fits = (
          value,
          projected_registrations i t.left registrations,
          (owned_projected i before.registrations.owners e.fd for.0, agree ∙ for.1, has_projected i before.values value for.2),
          serving,
          t.fits,
          ap (projected_with i n t.left) is ∙ ap (λ (v : FinMap nat_cmp V). record { values = v; next = n; registrations = projected_registrations i t.left registrations }) (only_values-insert i before.values held),
        );
        still = subst (λ (r : Registry V). IsMine i mine r.registrations.owners) (sym is) t.still;
        next = ap (λ (r : Registry V). r.next) is;
        alike = λ fd h. refl;
      }

  none_for : (before : Registry V) (pending : List Event) (gone removed : Bool) (e : Event) → removed ≡ gone → ((j : ℕ) (v : V) → ¬ IsFor before gone e j v) → (j : ℕ) (v : V) → ¬ IsFor (projected_with i n pending before) removed e j v
  none_for before pending gone removed e agree nobody j v (owns, kept, has) =
      let is : j ≡ i = projected_is_own i j before.registrations.owners e.fd owns in
      nobody i v (owned_from_projected i before.registrations.owners e.fd (subst (λ k. owner_of (owned_by i before.registrations.owners) e.fd ≡ Some k) is owns), sym agree ∙ kept, has_from_projected i before.values v (subst (λ k. get (only_values i before.values) k ≡ Some v) is has))

  one_same : (before : Registry V) (pending : List Event) (gone removed : Bool) (e : Event) (delivery : Delivery V) (after : Registry V) → mine e.fd ≡ true
      → IsMine i mine before.registrations.owners → IsClaimed (delivery_exchanges i delivery) → removed ≡ gone → IsDelivery serves before gone e delivery after
      → Same before pending removed e delivery (only_delivery i delivery) after
  one_same before pending gone removed e Nobody after here m claimed agree (nobody, is) = record {
    left = pending;
    fits = (none_for before pending gone removed e agree nobody, ap (projected_with i n pending) is);
    still = subst (λ (r : Registry V). IsMine i mine r.registrations.owners) (sym is) m;
    next = ap (λ (r : Registry V). r.next) is;
    alike = λ fd h. refl;
  }
  one_same before pending gone removed e (To j exchanges calls held) after here m claimed agree out =
      elim (eqb_tells j i) [
        | inl p ↦
            let made : IsClaimed exchanges = λ fd t. claimed fd (ap (λ b. asks_to_add fd (if b then exchanges else [])) p.0 ∙ t) in
            subst (λ b. Same before pending removed e (To j exchanges calls held) (if b then To j exchanges calls held else Nobody) after) (sym p.0)
            (subst (λ k. IsDelivery serves before gone e (To k exchanges calls held) after → Same before pending removed e (To k exchanges calls held) (To k exchanges calls held) after) (sym p.1)
            (own_to before pending gone removed e exchanges calls held after m made agree) out)
        | inr p ↦ absurd (true≢false (sym here ∙ m.other e.fd j p.1 (out.2).0))
      ]

  -- one position that is a neighbour's or nobody's
  record Unseen (before : Registry V) (delivery : Delivery V) (after : Registry V) : Type 0 where
    same : (pending : List Event) → projected_with i n pending after ≡ projected_with i n pending before
    still : IsMine i mine after.registrations.owners
    next : after.next ≡ before.next
    apart : (fd : ℕ) → mine fd ≡ true → has_removal fd (exchanges_of delivery) ≡ false
    nobody : only_delivery i delivery ≡ Nobody

  one_unseen : (before : Registry V) (gone : Bool) (e : Event) (delivery : Delivery V) (after : Registry V) → mine e.fd ≡ false → IsMine i mine before.registrations.owners
      → ((fd : ℕ) (j : ℕ) → j ≢ i → has_addition fd (delivery_exchanges j delivery) ≡ true → mine fd ≡ false) → IsDelivery serves before gone e delivery after → Unseen before delivery after
  one_unseen before gone e Nobody after there m foreign (nobody, is) = record {
    same = λ p. ap (projected_with i n p) is;
    still = subst (λ (r : Registry V). IsMine i mine r.registrations.owners) (sym is) m;
    next = ap (λ (r : Registry V). r.next) is;
    apart = λ fd h. refl;
    nobody = refl;
  }
  one_unseen before gone e (To j exchanges calls held) after there m foreign (value, registrations, for, serving, fits, is) =
      elim (eqb_tells j i) [
        | inl p ↦ absurd (true≢false (sym (m.own e.fd (subst (λ k. owner_of before.registrations.owners e.fd ≡ Some k) p.1 for.0)) ∙ there))
        | inr p ↦
            let t = other_exchanges i j mine before.registrations exchanges calls registrations p.1 m (λ fd a. foreign fd j p.1 (ap (λ b. has_addition fd (if b then exchanges else [])) (eq-eqb j j refl) ∙ a)) fits in
            record {
              same = λ q. untouched_projected i n q before after (isolated_delivery serves before gone e (To j exchanges calls held) after (value, registrations, for, serving, fits, is) i p.0)
                  (ap (λ (r : Registry V). r.registrations.endpoint) is ∙ exchanges_keep_endpoint j before.registrations exchanges calls registrations fits);
              still = subst (λ (r : Registry V). IsMine i mine r.registrations.owners) (sym is) t.still;
              next = ap (λ (r : Registry V). r.next) is;
              apart = t.apart;
              nobody = ap (λ b. if b then To j exchanges calls held else Nobody) p.0;
            }
      ]

  -- one position that only the projection has
  one_added : (before : Registry V) (pending : List Event) (removed : Bool) (e : Event) → mine e.fd ≡ false → IsMine i mine before.registrations.owners → IsDelivery serves (projected_with i n pending before) removed e Nobody (projected_with i n pending before)
  one_added before pending removed e there m = (
    (λ j v for. true≢false (sym (m.own e.fd (owned_from_projected i before.registrations.owners e.fd (subst (λ k. owner_of (owned_by i before.registrations.owners) e.fd ≡ Some k) (projected_is_own i j before.registrations.owners e.fd for.0) for.0))) ∙ there)),
    refl,
  )

  -- all positions
  pub record DispatchProjected (before : Registry V) (pending : List Event) (removed : List (Position V)) (shown : List (Position V)) (after : Registry V) : Type 0 where
    pub fits : AreDispatched serves (projected_with i n pending before) removed shown (projected_with i n [] after)
    pub still : IsMine i mine after.registrations.owners
    pub next : after.next ≡ before.next

  agree_push : (earlier removed : List (Position V)) (d shown : Position V) → Agree earlier removed → ((fd : ℕ) → mine fd ≡ true → has_removal fd (exchanges_of shown.delivery) ≡ has_removal fd (exchanges_of d.delivery)) → Agree (earlier ++ d ∷ []) (removed ++ shown ∷ [])
  agree_push earlier removed d shown agree alike fd h =
      is_removed-push fd removed shown ∙ (λ k. agree fd h k || alike fd h k) ∙ sym (is_removed-push fd earlier d)

  agree_skip : (earlier removed : List (Position V)) (d : Position V) → Agree earlier removed → ((fd : ℕ) → mine fd ≡ true → has_removal fd (exchanges_of d.delivery) ≡ false) → Agree (earlier ++ d ∷ []) removed
  agree_skip earlier removed d agree apart fd h =
      agree fd h ∙ sym (is_removed-push fd earlier d ∙ ap (λ b. is_removed fd earlier || b) (apart fd h) ∙ or_false _)

  agree_add : (earlier removed : List (Position V)) (shown : Position V) → Agree earlier removed → shown.delivery ≡ Nobody → Agree earlier (removed ++ shown ∷ [])
  agree_add earlier removed shown agree none fd h =
      is_removed-push fd removed shown ∙ ap (λ o. is_removed fd removed || has_removal fd (exchanges_of o)) none ∙ or_false _ ∙ agree fd h

  pub projected_dispatch : (pending : List Event) (before : Registry V) (earlier removed : List (Position V)) (real shown : List (Position V)) (after : Registry V) → Woven i mine real shown → IsMine i mine before.registrations.owners → IsClaimed (positions_exchanges i real) → ((fd : ℕ) (j : ℕ) → j ≢ i → has_addition fd (positions_exchanges j real) ≡ true → mine fd ≡ false) → Agree earlier removed → AreDispatched serves before earlier real after → DispatchProjected before pending removed shown after
  projected_dispatch pending before earlier removed [] [] after ends m claimed foreign agree is = record {
    fits = ap (projected_with i n []) is;
    still = subst (λ (r : Registry V). IsMine i mine r.registrations.owners) (sym is) m;
    next = ap (λ (r : Registry V). r.next) is;
  }
  projected_dispatch pending before earlier removed (_ ∷ real) (_ ∷ shown) after (both d here w) m claimed foreign agree (mid, out, more) =
      let one = one_same (with_pending (still_pending earlier (events_of real)) before) (still_pending removed (events_of shown)) _ _ d.event d.delivery mid here m
      (λ fd t. claimed fd (asked_first fd (delivery_exchanges i d.delivery) (positions_exchanges i real) t)) (agree d.event.fd here) out in
      let rest = projected_dispatch one.left mid (earlier ++ d ∷ []) (removed ++ only_position i d ∷ []) real shown after w one.still
      (λ fd t. claimed fd (asked_then fd (delivery_exchanges i d.delivery) (positions_exchanges i real) t))
      (λ fd j differ t. foreign fd j differ (has_addition_then fd (delivery_exchanges j d.delivery) (positions_exchanges j real) t))
      (agree_push earlier removed d (only_position i d) agree one.alike) more
      in
      record { fits = (projected_with i n one.left mid, one.fits, rest.fits); still = rest.still; next = rest.next ∙ one.next }
  projected_dispatch pending before earlier removed (_ ∷ real) shown after (skipped d there nobody w) m claimed foreign agree (mid, out, more) =
      let one = one_unseen (with_pending (still_pending earlier (events_of real)) before) _ d.event d.delivery mid there m (λ fd j differ t. foreign fd j differ (has_addition_first fd (delivery_exchanges j d.delivery) (positions_exchanges j real) t)) out in
      let rest = projected_dispatch pending mid (earlier ++ d ∷ []) removed real shown after w one.still
      (λ fd t. claimed fd (asked_then fd (delivery_exchanges i d.delivery) (positions_exchanges i real) t))
      (λ fd j differ t. foreign fd j differ (has_addition_then fd (delivery_exchanges j d.delivery) (positions_exchanges j real) t))
      (agree_skip earlier removed d agree one.apart) more
      in
      record { fits = subst (λ r. AreDispatched serves r removed shown (projected_with i n [] after)) (one.same pending) rest.fits; still = rest.still; next = rest.next ∙ one.next }
  projected_dispatch pending before earlier removed real (_ ∷ shown) after (added d there nobody w) m claimed foreign agree h =
      let rest = projected_dispatch (still_pending removed (events_of shown)) before earlier (removed ++ only_position i d ∷ []) real shown after w m claimed foreign (agree_add earlier removed (only_position i d) agree nobody) h in
      record {
        fits = (
          projected_with i n (still_pending removed (events_of shown)) before,
          subst (λ o. IsDelivery serves (projected_with i n (still_pending removed (events_of shown)) before) (is_removed d.event.fd removed) d.event o (projected_with i n (still_pending removed (events_of shown)) before)) (sym nobody)
              (one_added before (still_pending removed (events_of shown)) (is_removed d.event.fd removed) d.event there m),
          rest.fits,
        );
        still = rest.still;
        next = rest.next;
      }

  -- outside i's descriptors nothing goes to i
  pub Foreign : List (Position V) → Type 0
  Foreign [] = Unit {0}
  Foreign (d ∷ positions) = (mine d.event.fd ≡ false → only_delivery i d.delivery ≡ Nobody) × Foreign positions

  pub foreign_positions : (before : Registry V) (earlier : List (Position V)) (real : List (Position V)) (after : Registry V) → IsMine i mine before.registrations.owners → IsClaimed (positions_exchanges i real) → ((fd : ℕ) (j : ℕ) → j ≢ i → has_addition fd (positions_exchanges j real) ≡ true → mine fd ≡ false) → AreDispatched serves before earlier real after → Foreign real
  unfolding Foreign
  foreign_positions before earlier [] after m claimed foreign h = tt
  foreign_positions before earlier (d ∷ real) after m claimed foreign (mid, out, more) =
      let first : (b : Bool) → mine d.event.fd ≡ b → (mine d.event.fd ≡ false → only_delivery i d.delivery ≡ Nobody) × IsMine i mine mid.registrations.owners = elim [
        | true ↦ λ e. let one = one_same (with_pending (still_pending earlier (events_of real)) before) [] _ _ d.event d.delivery mid e m (λ fd t. claimed fd (asked_first fd (delivery_exchanges i d.delivery) (positions_exchanges i real) t)) refl out in ((λ f. absurd (true≢false (sym e ∙ f))), one.still)
        | false ↦ λ e. let one = one_unseen (with_pending (still_pending earlier (events_of real)) before) _ d.event d.delivery mid e m (λ fd j differ t. foreign fd j differ (has_addition_first fd (delivery_exchanges j d.delivery) (positions_exchanges j real) t)) out in ((λ f. one.nobody), one.still)
      ]
      in
      let p = first (mine d.event.fd) refl in
      (p.0, foreign_positions mid (earlier ++ d ∷ []) real after p.1 (λ fd t. claimed fd (asked_then fd (delivery_exchanges i d.delivery) (positions_exchanges i real) t)) (λ fd j differ t. foreign fd j differ (has_addition_then fd (delivery_exchanges j d.delivery) (positions_exchanges j real) t)) more)

  abbrev on_mine : List Event → List Event
  on_mine events = filter (λ e. mine e.fd) events

  no_mine : (real : List (Position V)) → Foreign real → on_mine (events_of real) ≡ [] → Woven i mine real []
  unfolding Foreign
  no_mine [] f none = ends
  no_mine (d ∷ real) f none =
      let at : (b : Bool) → mine d.event.fd ≡ b → cond b (d.event ∷ on_mine (events_of real)) (on_mine (events_of real)) ≡ [] → Woven i mine (d ∷ real) [] = elim [
        | true ↦ λ e is. absurd (nil_cons _ _ (sym is))
        | false ↦ λ e is. skipped d e (f.0 e) (no_mine real f.1 is)
      ]
      in at (mine d.event.fd) refl none

  -- the first position on a descriptor of i's
  record FirstMine (real : List (Position V)) (e : Event) (es : List Event) : Type 0 where
    position : Position V
    rest : List (Position V)
    event : position.event ≡ e
    left : on_mine (events_of rest) ≡ es
    foreign : Foreign rest
    weave : (shown : List (Position V)) → Woven i mine rest shown → Woven i mine real (only_position i position ∷ shown)

  first_mine : (real : List (Position V)) (e : Event) (es : List Event) → Foreign real → on_mine (events_of real) ≡ e ∷ es → FirstMine real e es
  unfolding Foreign
  first_mine [] e es f is = absurd (nil_cons _ _ is)
  first_mine (d ∷ real) e es f is =
      let at : (b : Bool) → mine d.event.fd ≡ b → cond b (d.event ∷ on_mine (events_of real)) (on_mine (events_of real)) ≡ e ∷ es → FirstMine (d ∷ real) e es = elim [
        | true ↦ λ t h. record { position = d; rest = real; event = head_is _ _ _ _ h; left = tail_is _ _ _ _ h; foreign = f.1; weave = λ shown w. both d t w }
        | false ↦ λ t h.
            let first = first_mine real e es f.1 h in
            record { position = first.position; rest = first.rest; event = first.event; left = first.left; foreign = first.foreign; weave = λ shown w. skipped d t (f.0 t) (first.weave shown w) }
      ]
      in at (mine d.event.fd) refl is

  -- the positions of the projection, in another order that has those on descriptors of i's in the same
  pub record WovenWith (real : List (Position V)) (events : List Event) : Type 0 where
    pub shown : List (Position V)
    pub events_are : events_of shown ≡ events
    pub woven : Woven i mine real shown

  pub weave : (events : List Event) (real : List (Position V)) → Foreign real → on_mine events ≡ on_mine (events_of real) → WovenWith real events
  weave [] real f is = record { shown = []; events_are = refl; woven = no_mine real f (sym is) }
  weave (e ∷ events) real f is =
      let at : (b : Bool) → mine e.fd ≡ b → cond b (e ∷ on_mine events) (on_mine events) ≡ on_mine (events_of real) → WovenWith real (e ∷ events) = elim [
        | true ↦ λ t h.
            let first = first_mine real e (on_mine events) f (sym h) in
            let rest = weave events first.rest first.foreign (sym first.left) in
            record { shown = only_position i first.position ∷ rest.shown; events_are = (λ k. first.event k ∷ rest.events_are k); woven = first.weave rest.shown rest.woven }
        | false ↦ λ t h.
            let rest = weave events real f h in
            record { shown = record { event = e; delivery = Nobody } ∷ rest.shown; events_are = ap (λ es. e ∷ es) rest.events_are; woven = added (record { event = e; delivery = Nobody }) t refl rest.woven }
      ]
      in at (mine e.fd) refl is

-- woven positions are projected ones
to_nobody : {V : Type 0} (id : ℕ) (exchanges : Exchanges) (calls : List PollerCall) (after : V) → To id exchanges calls after ≡ Nobody → ⊥
to_nobody id exchanges calls after e = true≢false (ap is_somebody e)
  where
    is_somebody : {V : Type 0} → Delivery V → Bool
    is_somebody Nobody = false
    is_somebody (To id exchanges calls after) = true

module _ {V : Type 0} (i : ℕ) where
  abbrev to_i : List (Position V) → List (Position V)
  to_i positions = filter (λ position. is_id i (receiver_of position.delivery)) positions

  both_alike : (e : Event) (o : Delivery V) (real shown : List (Position V)) → to_i shown ≡ to_i real
      → to_i (record { event = e; delivery = only_delivery i o } ∷ shown) ≡ to_i (record { event = e; delivery = o } ∷ real)
  both_alike e Nobody real shown same = same
  both_alike e (To j exchanges calls after) real shown same =
      elim (j == i) as (λ b. (j == i) ≡ b → to_i (record { event = e; delivery = if b then To j exchanges calls after else Nobody } ∷ shown) ≡ cond b (record { event = e; delivery = To j exchanges calls after } ∷ to_i real) (to_i real)) [
        | true ↦ λ t. ap (λ b. cond b (record { event = e; delivery = To j exchanges calls after } ∷ to_i shown) (to_i shown)) t ∙ ap (λ l. record { event = e; delivery = To j exchanges calls after } ∷ l) same
        | false ↦ λ t. same
      ] refl

  only_is_only : (o : Delivery V) → IfSome (receiver_of (only_delivery i o)) (λ j. j ≡ i)
  only_is_only Nobody = tt
  only_is_only (To j exchanges calls after) = elim (j == i) as (λ b. (j == i) ≡ b → IfSome (receiver_of (if b then To j exchanges calls after else Nobody)) (λ k. k ≡ i)) [ true ↦ λ t. eqb-true j i t | false ↦ λ t. tt ] refl

  not_to : (o : Delivery V) → only_delivery i o ≡ Nobody → is_id i (receiver_of o) ≡ false
  not_to Nobody h = refl
  not_to (To j exchanges calls after) h =
      elim (j == i) as (λ b. (j == i) ≡ b → (if b then To j exchanges calls after else Nobody) ≡ Nobody → b ≡ false) [ true ↦ λ t g. absurd (to_nobody j exchanges calls after g) | false ↦ λ t g. refl ] refl h

  pub woven_projected : (mine : ℕ → Bool) (real shown : List (Position V)) → Woven i mine real shown → AreProjected i real shown
  woven_projected mine [] [] ends = record { same = refl; only = All-nil (IsOnlyFor i) }
  woven_projected mine (_ ∷ real) (_ ∷ shown) (both d here w) =
      let rest = woven_projected mine real shown w in
      record { same = both_alike d.event d.delivery real shown rest.same; only = All-cons (IsOnlyFor i) (only_position i d) shown (only_is_only d.delivery) rest.only }
  woven_projected mine (_ ∷ real) shown (skipped d there nobody w) =
      let rest = woven_projected mine real shown w in
      record { same = rest.same ∙ sym (ap (λ b. cond b (d ∷ to_i real) (to_i real)) (not_to d.delivery nobody)); only = rest.only }
  woven_projected mine real (_ ∷ shown) (added d there nobody w) =
      let rest = woven_projected mine real shown w in
      record { same = ap (λ o. cond (is_id i (receiver_of o)) (only_position i d ∷ to_i shown) (to_i shown)) nobody ∙ rest.same; only = All-cons (IsOnlyFor i) (only_position i d) shown (only_is_only d.delivery) rest.only }
