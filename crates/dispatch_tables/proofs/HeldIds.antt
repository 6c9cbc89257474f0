-- The ids that the places hold, in ascending order: the keys of the subscribers by id.
use Rattle.std.proofs.Common.{◌≡◌, ℕ, suc, ◌+◌, ◌<◌, List, [], ◌∷◌, ◌++◌, map, take, get_or, length, Option, Some, None, Bool, true, false, ◌&&◌, is_some, T, refl, sym, ap, subst, ◌∙◌, arith, append-nil, nat_cmp, is_lt, Less, ne_eqb, eqb}
use Rattle.std.specs.List.{filter_map, cons_option, list_any, IsDistinct, AllByRecursion}
use Rattle.std.specs.List.Sorted.{IsPermutation, IsNonDecreasing, IsStrictlySortedBy}
use Rattle.std.proofs.lemmas.List.{take_more}
use Rattle.std.proofs.lemmas.List.Elements.{filter_map-append}
use Rattle.std.proofs.lemmas.List.Sorted.{list_any-IsPermutation}
use Rattle.std.proofs.lemmas.Map.Keys.{IsDistinct-IsPermutation, IsStrictlyIncreasing-from_distinct, sorted_from_strictly_increasing}
use Rattle.std.specs.Cmp.{nat_cmp_total}
use Rattle.std.specs.Ordering.{eq_by_cmp}
use Rattle.std.specs.FinMap.{keys, entries, entries_sorted, contains_key-keys, get-from_entries, nat_cmp-IsAntisymmetric}
use Rattle.std.specs.FinMap.Entries.{find, is_sorted, below_all, is_some-find, same_entries}
use Rattle.dispatch_tables.specs.declared.places.Place.{Place}
use Rattle.dispatch_tables.specs.declared.places.Place.TheVariants.{Held, Vacant}
use Rattle.dispatch_tables.specs.Places.{held_id, id_at, held_entries, values_of, AreIndexed}
use Rattle.dispatch_tables.proofs.TimesListed.{flipped}
use Rattle.dispatch_tables.proofs.VacantPlaces.{same_some}

-- numbers as the keys of entries
abbrev keyed : List ℕ → List (ℕ × Unit {0})
keyed ids = map (λ id. (id, tt)) ids

keys_of_keyed : (ids : List ℕ) → map (λ e. e.0) (keyed ids) ≡ ids
keys_of_keyed [] = refl
keys_of_keyed (id ∷ ids) = ap (λ l. id ∷ l) (keys_of_keyed ids)

both : (a b : Bool) → T a → T b → T (a && b)
both true b p q = q
both false b p q = p

below_keyed : (id : ℕ) (ids : List ℕ) → AllByRecursion (λ other. nat_cmp id other ≡ Less) ids → T (below_all nat_cmp id (keyed ids))
below_keyed id [] all = tt
below_keyed id (other ∷ ids) all = both _ _ (subst (λ r. T (is_lt r)) (sym all.0) tt) (below_keyed id ids all.1)

sorted_keyed : (ids : List ℕ) → IsStrictlySortedBy nat_cmp ids → T (is_sorted nat_cmp (keyed ids))
unfolding IsStrictlySortedBy
sorted_keyed [] up = tt
sorted_keyed (id ∷ ids) up = both _ _ (below_keyed id ids up.0) (sorted_keyed ids up.1)

below_keys : {X : Type 0} (id : ℕ) (es : List (ℕ × X)) → below_all nat_cmp id (keyed (map (λ e. e.0) es)) ≡ below_all nat_cmp id es
below_keys id [] = refl
below_keys id (e ∷ es) = ap (λ b. is_lt (nat_cmp id e.0) && b) (below_keys id es)

sorted_keys : {X : Type 0} (es : List (ℕ × X)) → is_sorted nat_cmp (keyed (map (λ e. e.0) es)) ≡ is_sorted nat_cmp es
sorted_keys [] = refl
sorted_keys (e ∷ es) = ap (λ b. b && is_sorted nat_cmp (keyed (map (λ e. e.0) es))) (below_keys e.0 es) ∙ ap (λ b. below_all nat_cmp e.0 es && b) (sorted_keys es)

found_keyed : (ids : List ℕ) (q : ℕ) → is_some (find nat_cmp q (keyed ids)) ≡ list_any (eq_by_cmp nat_cmp q) ids
found_keyed ids q = is_some-find nat_cmp q (keyed ids) ∙ ap (list_any (eq_by_cmp nat_cmp q)) (keys_of_keyed ids)

same_units : (a b : Option (Unit {0})) → is_some a ≡ is_some b → a ≡ b
same_units None None e = refl
same_units None (Some b) e = absurd (subst T (sym e) tt)
same_units (Some a) None e = absurd (subst T e tt)
same_units (Some a) (Some b) e = refl

-- lists that rise, in which the same numbers stand
same_rising : (xs ys : List ℕ) → T (is_sorted nat_cmp (keyed xs)) → T (is_sorted nat_cmp (keyed ys)) → ((q : ℕ) → list_any (eq_by_cmp nat_cmp q) xs ≡ list_any (eq_by_cmp nat_cmp q) ys) → xs ≡ ys
same_rising xs ys up rising same =
    sym (keys_of_keyed xs)
    ∙ ap (map (λ e. e.0)) (same_entries nat_cmp nat_cmp_total nat_cmp-IsAntisymmetric (keyed xs) (keyed ys) up rising (λ q. same_units _ _ (found_keyed xs q ∙ same q ∙ sym (found_keyed ys q))))
    ∙ keys_of_keyed ys

module _ {S : Type 0} where
  -- one place more
  held_more : (places : List (Place S)) (i : ℕ) (e : Place S) → i < length places → e ≡ get_or places i e → filter_map held_id (take (i + 1) places) ≡ filter_map held_id (take i places) ++ cons_option (held_id e) []
  held_more places i e within is =
      ap (filter_map held_id) (take_more places i e within)
      ∙ filter_map-append held_id (take i places) (get_or places i e ∷ [])
      ∙ ap (λ x. filter_map held_id (take i places) ++ cons_option (held_id x) []) (sym is)

  pub held_more_id : (places : List (Place S)) (i id : ℕ) (subscriber : S) (e : Place S) → i < length places → e ≡ get_or places i e → e ≡ Held id subscriber → filter_map held_id (take (i + 1) places) ≡ filter_map held_id (take i places) ++ id ∷ []
  held_more_id places i id subscriber e within read is = held_more places i e within read ∙ ap (λ x. filter_map held_id (take i places) ++ cons_option (held_id x) []) is

  pub held_no_more : (places : List (Place S)) (i : ℕ) (next : Option ℕ) (e : Place S) → i < length places → e ≡ get_or places i e → e ≡ Vacant next → filter_map held_id (take (i + 1) places) ≡ filter_map held_id (take i places)
  held_no_more places i next e within read is = held_more places i e within read ∙ ap (λ x. filter_map held_id (take i places) ++ cons_option (held_id x) []) is ∙ append-nil _

  ids_of_entries : (places : List (Place S)) → map (λ e. e.0) (held_entries places) ≡ filter_map held_id places
  ids_of_entries [] = refl
  ids_of_entries (Held id subscriber ∷ places) = ap (λ l. id ∷ l) (ids_of_entries places)
  ids_of_entries (Vacant next ∷ places) = ids_of_entries places

  held_elsewhere : (id : ℕ) (places : List (Place S)) → ((place : ℕ) → id_at places place ≡ Some id → ⊥) → AllByRecursion (λ other. eqb id other ≡ false) (filter_map held_id places)
  held_elsewhere id [] none = tt
  held_elsewhere id (Held other subscriber ∷ places) none = (ne_eqb id other (λ e. none 0 (ap Some (sym e))), held_elsewhere id places (λ place. none (suc place)))
  held_elsewhere id (Vacant next ∷ places) none = held_elsewhere id places (λ place. none (suc place))

  held_once : (places : List (Place S)) → ((id a b : ℕ) → id_at places a ≡ Some id → id_at places b ≡ Some id → a ≡ b) → IsDistinct eqb (filter_map held_id places)
  unfolding IsDistinct
  held_once [] once = tt
  held_once (Held id subscriber ∷ places) once =
      (held_elsewhere id places (λ place held. omega (arith, once id (suc place) 0 held refl)), held_once places (λ j a b h k. omega (arith, once j (suc a) (suc b) h k)))
  held_once (Vacant next ∷ places) once = held_once places (λ j a b h k. omega (arith, once j (suc a) (suc b) h k))

  pub ids_in_order : (places : List (Place S)) (index : ℕ → Option ℕ) (ids : List ℕ) → AreIndexed places index → IsPermutation (filter_map held_id places) ids → IsNonDecreasing ids → ids ≡ keys (values_of places)
  ids_in_order places index ids indexed moved rising =
      let once = held_once places (λ id a b h k. same_some a b (sym ((indexed id a).1 h) ∙ (indexed id b).1 k)) in
      let apart = IsDistinct-IsPermutation eqb flipped _ ids moved once in
      same_rising ids (keys (values_of places))
      (sorted_keyed ids (sorted_from_strictly_increasing ids (IsStrictlyIncreasing-from_distinct ids rising apart)))
      (subst T (sym (sorted_keys (entries (values_of places)))) (entries_sorted (values_of places)))
      (λ q.
      sym (list_any-IsPermutation (eq_by_cmp nat_cmp q) _ ids moved)
      ∙ ap (list_any (eq_by_cmp nat_cmp q)) (sym (ids_of_entries places))
      ∙ sym (is_some-find nat_cmp q (held_entries places))
      ∙ ap is_some (sym (get-from_entries nat_cmp_total (held_entries places) q))
      ∙ contains_key-keys (values_of places) q)
