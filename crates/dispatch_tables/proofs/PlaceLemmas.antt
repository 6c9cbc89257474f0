-- What each change of a place does to the subscribers by id and to the index.
use Rattle.std.proofs.Common.{◌≡◌, ◌≢◌, ◌⊎◌, ◌↔◌, ℕ, zero, suc, ◌<◌, ◌≤◌, List, [], ◌∷◌, ◌++◌, map, length, get_or, set, Option, Some, None, Bool, true, false, cond, is_some, IsSome, slice_get, refl, sym, ap, subst, ◌∙◌, inl, inr, arith, nat_eq, nat_cmp}
use Rattle.std.proofs.lemmas.Bool.{cases_eq, cases_lt, false≢true}
use Rattle.std.proofs.lemmas.Bool.Decides.{eqb_tells}
use Rattle.std.proofs.lemmas.List.{map-set, length-map, get_or-map, get_or-set_same, get_or-set_other, get_or_past}
use Rattle.std.proofs.lemmas.Option.{slice_get_within, slice_get-get_or, get_or_from_slice_get}
use Rattle.std.specs.Cmp.{nat_cmp_total, tied_itself}
use Rattle.std.specs.Ordering.{eq_by_cmp, is_eq}
use Rattle.std.specs.FinMap.{FinMap, find, get, insert, remove, same_map, get-insert, get-remove, get-from_entries, nat_cmp-IsAntisymmetric}
use Rattle.dispatch_tables.specs.declared.places.Place.{Place}
use Rattle.dispatch_tables.specs.declared.places.Place.TheVariants.{Held, Vacant}
use Rattle.dispatch_tables.specs.Places.{held_id, subscriber_of, with_subscriber, id_at, subscriber_at, held_entries, values_of, ArePlacedBelow, AreIndexed, AreLinked, AreSound, HaveSameHolders}
use Rattle.dispatch_tables.proofs.NumberTests.{nat_tied, fd_tells}
use Rattle.dispatch_tables.proofs.VacantPlaces.{none_some, same_some, linked_fill, linked_vacate, linked_rewrite}

-- another place, or none, for one id
pub placed_below_changed : (next later_next : ℕ) (index later : ℕ → Option ℕ) (id : ℕ) (o : Option ℕ) → ArePlacedBelow next index → next ≤ later_next → (later_next ≤ id → o ≡ None)
    → ((j : ℕ) → later j ≡ cond (nat_eq id j) o (index j)) → ArePlacedBelow later_next later
placed_below_changed next later_next index later id o kept more own changed j above =
    changed j ∙ elim (eqb_tells id j) [
      | inl p ↦ ap (λ b. cond b o (index j)) p.0 ∙ own (subst (λ k. later_next ≤ k) (sym p.1) above)
      | inr p ↦ ap (λ b. cond b o (index j)) p.0 ∙ kept j (omega (arith, more, above))
    ]

module _ {S : Type 0} where
  -- who stands at a place after a write
  pub id_at-set_same : (places : List (Place S)) (place : ℕ) (e : Place S) → place < length places → id_at (set places place e) place ≡ held_id e
  id_at-set_same places place e within =
      ap (λ l. get_or l place None) (map-set held_id places place e) ∙ get_or-set_same (map held_id places) place (held_id e) None (omega (arith, length-map places held_id))

  id_at-set_other : (places : List (Place S)) (place other : ℕ) (e : Place S) → other ≢ place → id_at (set places place e) other ≡ id_at places other
  id_at-set_other places place other e apart = ap (λ l. get_or l other None) (map-set held_id places place e) ∙ get_or-set_other (map held_id places) place other (held_id e) None apart

  subscriber_at-set_same : (places : List (Place S)) (place : ℕ) (e : Place S) → place < length places → subscriber_at (set places place e) place ≡ subscriber_of e
  subscriber_at-set_same places place e within =
      ap (λ l. get_or l place None) (map-set subscriber_of places place e) ∙ get_or-set_same (map subscriber_of places) place (subscriber_of e) None (omega (arith, length-map places subscriber_of))

  subscriber_at-set_other : (places : List (Place S)) (place other : ℕ) (e : Place S) → other ≢ place → subscriber_at (set places place e) other ≡ subscriber_at places other
  subscriber_at-set_other places place other e apart =
      ap (λ l. get_or l other None) (map-set subscriber_of places place e) ∙ get_or-set_other (map subscriber_of places) place other (subscriber_of e) None apart

  -- a place that holds an id is one of the places
  pub held_within : (places : List (Place S)) (place id : ℕ) → id_at places place ≡ Some id → place < length places
  held_within places place id held =
      elim (cases_lt place (length places)) [
        | inl within ↦ within
        | inr past ↦ absurd (none_some id (sym (get_or_past (map held_id places) place None (omega (arith, length-map places held_id))) ∙ held))
      ]

  -- the id is held nowhere and found nowhere, or found where it is held
  abbrev Finds : List (Place S) → ℕ → Type 0
  Finds places id =
      ((find nat_cmp id (held_entries places) ≡ None) × ((place : ℕ) → id_at places place ≡ Some id → ⊥))
      ⊎ ((place : ℕ) × (id_at places place ≡ Some id) × (find nat_cmp id (held_entries places) ≡ subscriber_at places place))

  not_in : (e : Place S) (places : List (Place S)) (id : ℕ) → (held_id e ≡ Some id → ⊥) → ((place : ℕ) → id_at places place ≡ Some id → ⊥) → (place : ℕ) → id_at (e ∷ places) place ≡ Some id → ⊥
  not_in e places id apart none zero held = apart held
  not_in e places id apart none (suc k) held = none k held

  finds_later : (e : Place S) (places : List (Place S)) (id : ℕ) → (held_id e ≡ Some id → ⊥) → find nat_cmp id (held_entries (e ∷ places)) ≡ find nat_cmp id (held_entries places) → Finds places id → Finds (e ∷ places) id
  finds_later e places id apart same (inl none) = inl (same ∙ none.0, not_in e places id apart none.1)
  finds_later e places id apart same (inr some) = inr (suc some.0, some.1, same ∙ some.2)

  finds_held : (holder : ℕ) (subscriber : S) (places : List (Place S)) (id : ℕ) (b : Bool) → eq_by_cmp nat_cmp id holder ≡ b → (b ≡ true → id ≡ holder) → Finds places id → Finds (Held holder subscriber ∷ places) id
  finds_held holder subscriber places id true is tied rest = inr (0, ap Some (sym (tied refl)), ap (λ b. cond b (Some subscriber) (find nat_cmp id (held_entries places))) is)
  finds_held holder subscriber places id false is tied rest =
      finds_later (Held holder subscriber) places id (λ held. false≢true (sym is ∙ ap (λ i. eq_by_cmp nat_cmp id i) (same_some holder id held) ∙ ap is_eq (tied_itself nat_cmp_total id)))
      (ap (λ b. cond b (Some subscriber) (find nat_cmp id (held_entries places))) is) rest

  finds : (places : List (Place S)) (id : ℕ) → Finds places id
  finds [] id = inl (refl, λ place held. none_some id (sym (get_or_past [] place None (omega arith)) ∙ held))
  finds (Vacant next ∷ places) id = finds_later (Vacant next) places id (none_some id) refl (finds places id)
  finds (Held holder subscriber ∷ places) id = finds_held holder subscriber places id (eq_by_cmp nat_cmp id holder) refl (nat_tied id holder) (finds places id)

  -- the subscriber at the place that the index names
  abbrev pub at_index : List (Place S) → Option ℕ → Option S
  at_index places None = None
  at_index places (Some place) = subscriber_at places place

  found_at_index : (places : List (Place S)) (index : ℕ → Option ℕ) (id : ℕ) → AreIndexed places index → Finds places id → (o : Option ℕ) → index id ≡ o → find nat_cmp id (held_entries places) ≡ at_index places o
  found_at_index places index id indexed (inl none) None is = none.0
  found_at_index places index id indexed (inl none) (Some place) is = absurd (none.1 place ((indexed id place).0 is))
  found_at_index places index id indexed (inr some) None is = absurd (none_some some.0 (sym is ∙ (indexed id some.0).1 some.1))
  found_at_index places index id indexed (inr some) (Some place) is = some.2 ∙ ap (subscriber_at places) (same_some some.0 place (sym ((indexed id some.0).1 some.1) ∙ is))

  pub get_of_places : (places : List (Place S)) (index : ℕ → Option ℕ) (id : ℕ) → AreIndexed places index → get (values_of places) id ≡ at_index places (index id)
  get_of_places places index id indexed = get-from_entries nat_cmp_total (held_entries places) id ∙ found_at_index places index id indexed (finds places id) (index id) refl

  -- the subscriber of an id that a place holds
  pub get_of_held : (places : List (Place S)) (index : ℕ → Option ℕ) (id place : ℕ) → AreIndexed places index → id_at places place ≡ Some id → get (values_of places) id ≡ subscriber_at places place
  get_of_held places index id place indexed held = get_of_places places index id indexed ∙ ap (at_index places) ((indexed id place).1 held)

  -- what the index says of an id whose place now has e
  abbrev pub place_if_held : Place S → ℕ → Option ℕ
  place_if_held (Held id subscriber) place = Some place
  place_if_held (Vacant next) place = None

  held_there : (e : Place S) (place other id : ℕ) → held_id e ≡ Some id → (place_if_held e place ≡ Some other) ↔ (place ≡ other)
  held_there (Held holder subscriber) place other id is = (same_some place other, ap Some)
  held_there (Vacant next) place other id is = absurd (none_some id is)

  held_nowhere : (e : Place S) (place other : ℕ) → place_if_held e place ≡ Some other → (place ≡ other) × ((id : ℕ) → ((j : ℕ) → held_id e ≡ Some j → j ≡ id) → held_id e ≡ Some id)
  held_nowhere (Held holder subscriber) place other is = (same_some place other is, λ id own. ap Some (own holder refl))
  held_nowhere (Vacant next) place other is = absurd (none_some other is)

  found_there : (places : List (Place S)) (e : Place S) (place : ℕ) → place < length places → at_index (set places place e) (place_if_held e place) ≡ subscriber_of e
  found_there places (Held id subscriber) place within = subscriber_at-set_same places place (Held id subscriber) within
  found_there places (Vacant next) place within = refl

  -- A place that holds the id or nobody now has e, which holds the id or nobody; and the id is held at no other place.
  module _ (places : List (Place S)) (index later : ℕ → Option ℕ) (id place : ℕ) (e : Place S) (indexed : AreIndexed places index) (within : place < length places)
      (was : (j : ℕ) → id_at places place ≡ Some j → j ≡ id) (now : (j : ℕ) → held_id e ≡ Some j → j ≡ id) (only : (k : ℕ) → index id ≡ Some k → k ≡ place)
      (changed : (j : ℕ) → later j ≡ cond (nat_eq id j) (place_if_held e place) (index j)) where
    later_own : later id ≡ place_if_held e place
    later_own = elim (eqb_tells id id) [ inl p ↦ changed id ∙ ap (λ b. cond b (place_if_held e place) (index id)) p.0 | inr p ↦ absurd (p.1 refl) ]

    later_other : (j : ℕ) → j ≢ id → later j ≡ index j
    later_other j apart = elim (eqb_tells id j) [ inl p ↦ absurd (apart (sym p.1)) | inr p ↦ changed j ∙ ap (λ b. cond b (place_if_held e place) (index j)) p.0 ]

    indexed_own : (k : ℕ) → (k ≡ place) ⊎ (k ≡ place → ⊥) → (later id ≡ Some k) ↔ (id_at (set places place e) k ≡ Some id)
    indexed_own k (inl same) = (
      (λ is. ap (id_at (set places place e)) same ∙ id_at-set_same places place e within ∙ (held_nowhere e place k (sym later_own ∙ is)).1 id now),
      (λ held. later_own ∙ (held_there e place k id (sym (id_at-set_same places place e within) ∙ ap (id_at (set places place e)) (sym same) ∙ held)).1 (sym same)),
    )
    indexed_own k (inr apart) = (
      (λ is. absurd (apart (sym (held_nowhere e place k (sym later_own ∙ is)).0))),
      (λ held. absurd (apart (only k ((indexed id k).1 (sym (id_at-set_other places place k e apart) ∙ held))))),
    )

    indexed_other : (j k : ℕ) → j ≢ id → (k ≡ place) ⊎ (k ≡ place → ⊥) → (later j ≡ Some k) ↔ (id_at (set places place e) k ≡ Some j)
    indexed_other j k other (inl same) = (
      (λ is. absurd (other (was j (ap (id_at places) (sym same) ∙ (indexed j k).0 (sym (later_other j other) ∙ is))))),
      (λ held. absurd (other (now j (sym (id_at-set_same places place e within) ∙ ap (id_at (set places place e)) (sym same) ∙ held)))),
    )
    indexed_other j k other (inr apart) = (
      (λ is. id_at-set_other places place k e apart ∙ (indexed j k).0 (sym (later_other j other) ∙ is)),
      (λ held. later_other j other ∙ (indexed j k).1 (sym (id_at-set_other places place k e apart) ∙ held)),
    )

    pub indexed_set : AreIndexed (set places place e) later
    indexed_set j k = elim (cases_eq j id) [ inl same ↦ subst (λ i. (later i ≡ Some k) ↔ (id_at (set places place e) k ≡ Some i)) (sym same) (indexed_own k (cases_eq k place)) | inr other ↦ indexed_other j k other (cases_eq k place) ]

    found_other : (j : ℕ) → j ≢ id → (o : Option ℕ) → index j ≡ o → at_index (set places place e) o ≡ at_index places o
    found_other j other None is = refl
    found_other j other (Some k) is = subscriber_at-set_other places place k e (λ same. other (was j (ap (id_at places) (sym same) ∙ (indexed j k).0 is)))

    get_set : (j : ℕ) → get (values_of (set places place e)) j ≡ cond (eq_by_cmp nat_cmp j id) (subscriber_of e) (get (values_of places) j)
    get_set j =
        get_of_places (set places place e) later j indexed_set
        ∙ elim (fd_tells j id) [
          | inl p ↦ ap (λ i. at_index (set places place e) (later i)) p.1 ∙ ap (at_index (set places place e)) later_own ∙ found_there places e place within ∙ sym (ap (λ b. cond b (subscriber_of e) (get (values_of places) j)) p.0)
          | inr p ↦ ap (at_index (set places place e)) (later_other j p.1) ∙ found_other j p.1 (index j) refl ∙ sym (get_of_places places index j indexed) ∙ sym (ap (λ b. cond b (subscriber_of e) (get (values_of places) j)) p.0)
        ]

    pub inserted : (subscriber : S) → subscriber_of e ≡ Some subscriber → values_of (set places place e) ≡ insert (values_of places) id subscriber
    inserted subscriber is = same_map nat_cmp_total nat_cmp-IsAntisymmetric _ _ (λ j. get_set j ∙ ap (λ o. cond (eq_by_cmp nat_cmp j id) o (get (values_of places) j)) is ∙ sym (get-insert nat_cmp_total (values_of places) id subscriber j))

    pub removed : subscriber_of e ≡ None → values_of (set places place e) ≡ remove (values_of places) id
    removed is = same_map nat_cmp_total nat_cmp-IsAntisymmetric _ _ (λ j. get_set j ∙ ap (λ o. cond (eq_by_cmp nat_cmp j id) o (get (values_of places) j)) is ∙ sym (get-remove nat_cmp_total (values_of places) id j))

  -- a vacant place more at the end is no subscriber more
  id_at_push : (places : List (Place S)) (next : Option ℕ) (k : ℕ) → id_at (places ++ Vacant next ∷ []) k ≡ id_at places k
  id_at_push [] next zero = refl
  id_at_push [] next (suc k) = refl
  id_at_push (e ∷ places) next zero = refl
  id_at_push (e ∷ places) next (suc k) = id_at_push places next k

  entries_push : (places : List (Place S)) (next : Option ℕ) → held_entries (places ++ Vacant next ∷ []) ≡ held_entries places
  entries_push [] next = refl
  entries_push (Held id subscriber ∷ places) next = ap (λ es. (id, subscriber) ∷ es) (entries_push places next)
  entries_push (Vacant other ∷ places) next = entries_push places next

  pub same_holders_push : (places : List (Place S)) (next : Option ℕ) → HaveSameHolders places (places ++ Vacant next ∷ [])
  same_holders_push places next = record { ids = id_at_push places next; values = ap (λ es. Rattle.std.specs.FinMap.from_entries es) (entries_push places next) }

  pub indexed_same : (before after : List (Place S)) (index : ℕ → Option ℕ) → HaveSameHolders before after → AreIndexed before index → AreIndexed after index
  indexed_same before after index same indexed id place = (
    (λ is. same.ids place ∙ (indexed id place).0 is),
    (λ held. (indexed id place).1 (sym (same.ids place) ∙ held)),
  )

  pub indexed_again : (places : List (Place S)) (index later : ℕ → Option ℕ) → ((id : ℕ) → later id ≡ index id) → AreIndexed places index → AreIndexed places later
  indexed_again places index later same indexed id place = (
    (λ is. (indexed id place).0 (sym (same id) ∙ is)),
    (λ held. same id ∙ (indexed id place).1 held),
  )

  -- the subscriber whose id a place holds
  held_entry : (places : List (Place S)) (place id : ℕ) → id_at places place ≡ Some id → (subscriber : S) × (slice_get places place ≡ Some (Held id subscriber))
  held_entry places place id held =
      let within = held_within places place id held in
      by_entry (get_or places place (Vacant None)) (slice_get-get_or places place (Vacant None) within) (sym (get_or-map held_id places place (Vacant None) None within) ∙ held)
    where
      by_entry : (e : Place S) → slice_get places place ≡ Some e → held_id e ≡ Some id → (subscriber : S) × (slice_get places place ≡ Some (Held id subscriber))
      by_entry (Held holder subscriber) found is = (subscriber, found ∙ ap (λ i. Some (Held i subscriber)) (same_some holder id is))
      by_entry (Vacant next) found is = absurd (none_some id is)

  -- what stands at a place that was read
  pub read_held : (places : List (Place S)) (place id : ℕ) (e : Place S) → id_at places place ≡ Some id → e ≡ get_or places place e → (subscriber : S) × (e ≡ Held id subscriber)
  read_held places place id e held read =
      let there = held_entry places place id held in
      (there.0, read ∙ get_or_from_slice_get places place _ e there.1)

  pub read_id : (places : List (Place S)) (place id : ℕ) (e : Place S) → id_at places place ≡ Some id → e ≡ get_or places place e → IsSome (held_id e)
  read_id places place id e held read = subst (λ x. IsSome (held_id x)) (sym (read_held places place id e held read).1) refl

  pub read_subscriber : (places : List (Place S)) (index : ℕ → Option ℕ) (place id : ℕ) (e : Place S) → AreIndexed places index → id_at places place ≡ Some id → e ≡ get_or places place e → get (values_of places) id ≡ subscriber_of e
  read_subscriber places index place id e indexed held read =
      let there = held_entry places place id held in
      let within = held_within places place id held in
      get_of_held places index id place indexed held
      ∙ get_or-map subscriber_of places place e None within
      ∙ ap subscriber_of (sym read)

  -- an id has a subscriber where it has a place
  pub index_tells : (places : List (Place S)) (index : ℕ → Option ℕ) (id : ℕ) → AreIndexed places index → (o : Option ℕ) → index id ≡ o → is_some o ≡ is_some (get (values_of places) id)
  index_tells places index id indexed None is = ap is_some (sym (get_of_places places index id indexed ∙ ap (at_index places) is))
  index_tells places index id indexed (Some place) is =
      let held = (indexed id place).0 is in
      let there = held_entry places place id held in
      ap is_some (sym (read_subscriber places index place id (Held id there.0) indexed held (sym (get_or_from_slice_get places place _ (Held id there.0) there.1))))

  pub no_place : (places : List (Place S)) (index : ℕ → Option ℕ) (id : ℕ) → AreIndexed places index → index id ≡ None → get (values_of places) id ≡ None
  no_place places index id indexed is = get_of_places places index id indexed ∙ ap (at_index places) is

  -- each id that has a subscriber is below the next
  pub held_below : (places : List (Place S)) (index : ℕ → Option ℕ) (next id : ℕ) (subscriber : S) → AreIndexed places index → ArePlacedBelow next index → get (values_of places) id ≡ Some subscriber → id < next
  held_below places index next id subscriber indexed below held =
      elim (cases_lt id next) [
        | inl less ↦ less
        | inr more ↦ absurd (none_some subscriber (sym (no_place places index id indexed (below id (omega (arith, more)))) ∙ held))
      ]

  pub no_subscriber : (places : List (Place S)) (index : ℕ → Option ℕ) (id : ℕ) → AreIndexed places index → get (values_of places) id ≡ None → index id ≡ None
  no_subscriber places index id indexed none = none_if (index id) (index_tells places index id indexed (index id) refl ∙ ap is_some none)
    where
      none_if : (o : Option ℕ) → is_some o ≡ false → o ≡ None
      none_if None is = refl
      none_if (Some k) is = absurd (false≢true (sym is))

  -- another subscriber at the place of an id
  module _ (places : List (Place S)) (first : Option ℕ) (index : ℕ → Option ℕ) (id place : ℕ) (e : Place S) (kept : AreSound places first index) (held : id_at places place ≡ Some id) (read : e ≡ get_or places place e) (subscriber : S) where
    same_index : (j : ℕ) → index j ≡ cond (nat_eq id j) (Some place) (index j)
    same_index j =
        elim (eqb_tells id j) [
          | inl p ↦ ap index (sym p.1) ∙ (kept.indexed id place).1 held ∙ sym (ap (λ b. cond b (Some place) (index j)) p.0)
          | inr p ↦ sym (ap (λ b. cond b (Some place) (index j)) p.0)
        ]

    pub sound_rewrite : AreSound (set places place (with_subscriber e subscriber)) first index
    sound_rewrite =
        let there = held_entry places place id held in
        subst (λ x. AreSound (set places place (with_subscriber x subscriber)) first index) (sym (read ∙ get_or_from_slice_get places place _ e there.1)) (record {
          indexed = indexed_set places index index id place (Held id subscriber) kept.indexed (held_within places place id held) (λ j is. same_some j id (sym is ∙ held)) (λ j is. sym (same_some id j is))
              (λ k is. same_some k place (sym is ∙ (kept.indexed id place).1 held)) same_index;
          linked = linked_rewrite places place first id there.0 subscriber kept.linked there.1;
        })

    pub values_rewrite : values_of (set places place (with_subscriber e subscriber)) ≡ insert (values_of places) id subscriber
    values_rewrite =
        let there = held_entry places place id held in
        ap (λ x. values_of (set places place (with_subscriber x subscriber))) (read ∙ get_or_from_slice_get places place _ e there.1)
        ∙ inserted places index index id place (Held id subscriber) kept.indexed (held_within places place id held) (λ j is. same_some j id (sym is ∙ held)) (λ j is. sym (same_some id j is))
        (λ k is. same_some k place (sym is ∙ (kept.indexed id place).1 held)) same_index subscriber refl

  -- a vacant place is given to an id that nobody has
  module _ (places : List (Place S)) (index later : ℕ → Option ℕ) (id place : ℕ) (next : Option ℕ) (subscriber : S) (indexed : AreIndexed places index) (linked : AreLinked places (Some place)) (found : slice_get places place ≡ Some (Vacant next))
      (none : get (values_of places) id ≡ None) (changed : (j : ℕ) → later j ≡ cond (nat_eq id j) (Some place) (index j)) where
    nobody : (j : ℕ) → id_at places place ≡ Some j → j ≡ id
    nobody j is = absurd (none_some j (sym (get_or-map held_id places place (Vacant next) None (slice_get_within places place _ found) ∙ ap held_id (get_or_from_slice_get places place _ (Vacant next) found)) ∙ is))

    nowhere : (k : ℕ) → index id ≡ Some k → k ≡ place
    nowhere k is = absurd (none_some k (sym (no_subscriber places index id indexed none) ∙ is))

    pub sound_fill : AreSound (set places place (Held id subscriber)) next later
    sound_fill = record {
      indexed = indexed_set places index later id place (Held id subscriber) indexed (slice_get_within places place _ found) nobody (λ j is. sym (same_some id j is)) nowhere changed;
      linked = linked_fill places place next id subscriber linked found;
    }

    pub values_fill : values_of (set places place (Held id subscriber)) ≡ insert (values_of places) id subscriber
    values_fill = inserted places index later id place (Held id subscriber) indexed (slice_get_within places place _ found) nobody (λ j is. sym (same_some id j is)) nowhere changed subscriber refl

  -- the place of an id falls vacant
  module _ (places : List (Place S)) (first : Option ℕ) (index later : ℕ → Option ℕ) (id place : ℕ) (kept : AreSound places first index) (is : index id ≡ Some place) (changed : (j : ℕ) → later j ≡ cond (nat_eq id j) None (index j)) where
    held : id_at places place ≡ Some id
    held = (kept.indexed id place).0 is

    pub sound_vacate : AreSound (set places place (Vacant first)) (Some place) later
    sound_vacate =
        let there = held_entry places place id held in
        record {
          indexed = indexed_set places index later id place (Vacant first) kept.indexed (held_within places place id held) (λ j other. same_some j id (sym other ∙ held)) (λ j none. absurd (none_some j none)) (λ k other. same_some k place (sym other ∙ is)) changed;
          linked = linked_vacate places place first id there.0 kept.linked there.1;
        }

    pub values_vacate : values_of (set places place (Vacant first)) ≡ remove (values_of places) id
    values_vacate = removed places index later id place (Vacant first) kept.indexed (held_within places place id held) (λ j other. same_some j id (sym other ∙ held)) (λ j none. absurd (none_some j none)) (λ k other. same_some k place (sym other ∙ is)) changed refl
