-- The slots of interests: which descriptor's is where, what is marked, and what a change of a slot does.
use Rattle.vmm_sys.proofs.Prelude.{◌≡◌, ℕ, zero, suc, ◌+◌, ◌-◌, ◌<◌, ◌≤◌, inl, inr, List, [], ◌∷◌, ◌++◌, length, set, map, refl, ap, ◌∙◌, sym, subst, arith, Option, Some, None, position, remove, MatchOption, cases_eq, eq-eqb, ne_eqb, eqb-true, get_or-set_same, get_or-set_other, get_or_past, get_or_append_left, length-map, length-set, length_push, set_at, set-set, none-some, same_Some, held, slot_at, place_at, Holds, NoneHolds, AloneHolds, AreInSlots}
use Rattle.std.proofs.lemmas.List.Edits.{remove-append_right}
use Rattle.vmm_sys.specs.declared.table.interests.Interest.{Interest}
use Rattle.vmm_sys.specs.Table.{is_of}
use Rattle.vmm_sys.proofs.Held.{held-append, slot-within, slot-grown, split-at}
use Rattle.vmm_sys.proofs.Numbers.{NotIn, AreDifferent, AreBelow, length-distinct}
use Rattle.vmm_sys.proofs.Places.{At, At-from_position, position-from_At}

-- an interest is of its descriptor
pub holds-by : (slots : List (Option Interest)) (s n : ℕ) (i : Interest) → slot_at slots s ≡ Some i → i.descriptor ≡ n → Holds slots s n
holds-by slots s n i e d = (i.event, e ∙ subst (λ m. Some i ≡ Some (record { descriptor = m; event = i.event })) d refl)

pub holds-of : (slots : List (Option Interest)) (s n : ℕ) (i : Interest) → slot_at slots s ≡ Some i → Holds slots s n → i.descriptor ≡ n
holds-of slots s n i e h = ap (λ (j : Interest). j.descriptor) (same_Some i _ (sym e ∙ h.1))

pub holds-within : (slots : List (Option Interest)) (s n : ℕ) → Holds slots s n → s < length slots
holds-within slots s n h = slot-within slots s _ h.1

-- of the same slot there is one descriptor
holds-one : (slots : List (Option Interest)) (s m n : ℕ) → Holds slots s m → Holds slots s n → m ≡ n
holds-one slots s m n h k = ap (λ (j : Interest). j.descriptor) (same_Some _ _ (sym h.1 ∙ k.1))

-- the place of the only interest of n in what the slots hold

at-place : (n : ℕ) (xs ys : List (Option Interest)) (i : Interest) → i.descriptor ≡ n → NoneHolds xs n → At (is_of n) (held (xs ++ Some i ∷ ys)) (length (held xs))
at-place n [] ys i e none = eq-eqb i.descriptor n e
at-place n (None ∷ xs) ys i e none = at-place n xs ys i e (λ t h. none (suc t) h)
at-place n (Some j ∷ xs) ys i e none = (ne_eqb j.descriptor n (λ d. none 0 (holds-by (Some j ∷ xs) 0 n j refl d)), at-place n xs ys i e (λ t h. none (suc t) h))

not-at : (n : ℕ) (slots : List (Option Interest)) (k : ℕ) → NoneHolds slots n → At (is_of n) (held slots) k → ⊥
not-at n [] k none a = a
not-at n (None ∷ slots) k none a = not-at n slots k (λ t h. none (suc t) h) a
not-at n (Some j ∷ slots) zero none a = none 0 (holds-by (Some j ∷ slots) 0 n j refl (eqb-true j.descriptor n a))
not-at n (Some j ∷ slots) (suc k) none a = not-at n slots k (λ t h. none (suc t) h) a.1

pub none_by : (o : Option ℕ) → ((k : ℕ) → o ≡ Some k → ⊥) → o ≡ None
none_by None h = refl
none_by (Some k) h = absurd (h k refl)

pub no-place : (slots : List (Option Interest)) (n : ℕ) → NoneHolds slots n → position (is_of n) (held slots) ≡ None
no-place slots n none = none_by (position (is_of n) (held slots)) (λ k e. not-at n slots k none (At-from_position (is_of n) (held slots) k e))

-- the interest of n, which slot s holds, is the one at place k
pub record Stands (slots : List (Option Interest)) (s n k : ℕ) : Type 0 where
  pub place : position (is_of n) (held slots) ≡ Some k
  pub replaced : (i : Interest) → held (set slots s (Some i)) ≡ set (held slots) k i
  pub removed : held (set slots s None) ≡ remove (held slots) k

remove_here : {A : Type 0} (xs : List A) (y : A) (ys : List A) → remove (xs ++ y ∷ ys) (length xs) ≡ xs ++ ys
remove_here xs y ys =
    let none : length xs - length xs ≡ 0 = omega arith in
    remove-append_right xs (y ∷ ys) (length xs) (length xs) refl (omega arith) ∙ ap (λ j. xs ++ remove (y ∷ ys) j) none

before-none : (slots xs ys : List (Option Interest)) (o : Option Interest) (s n : ℕ) → slots ≡ xs ++ o ∷ ys → length xs ≡ s → AloneHolds slots s n → NoneHolds xs n
before-none slots xs ys o s n e l a t h =
    let lt = holds-within xs t n h in
    let same : slot_at slots t ≡ slot_at xs t = ap (λ r. slot_at r t) e ∙ get_or_append_left xs (o ∷ ys) None t lt in
    let is = a.alone t (h.0, same ∙ h.1) in
    omega arith

pub stands : (slots : List (Option Interest)) (s n : ℕ) → AloneHolds slots s n → (k : ℕ) × Stands slots s n k
stands slots s n a =
    let i : Interest = record { descriptor = n; event = a.it.0 } in
    let r = split-at slots s (Some i) (holds-within slots s n a.it) a.it.1 in
    let xs = r.0 in
    let ys = r.1 in
    let whole : held slots ≡ held xs ++ i ∷ held ys = ap held r.2 ∙ held-append xs (Some i ∷ ys) in
    let at = at-place n xs ys i refl (before-none slots xs ys (Some i) s n r.2 r.3 a) in
    let put : (o : Option Interest) → set slots s o ≡ xs ++ o ∷ ys = λ o. ap (λ l. set l s o) r.2 ∙ set_at xs (Some i) ys o s r.3 in (
      length (held xs),
      record {
        place = position-from_At (is_of n) (held slots) (length (held xs)) (subst (λ l. At (is_of n) (held l) (length (held xs))) (sym r.2) at);
        replaced = λ j. ap held (put (Some j)) ∙ held-append xs (Some j ∷ ys) ∙ sym (ap (λ l. set l (length (held xs)) j) whole ∙ set_at (held xs) i (held ys) j (length (held xs)) refl);
        removed = ap held (put None) ∙ held-append xs (None ∷ ys) ∙ sym (ap (λ l. remove l (length (held xs))) whole ∙ remove_here (held xs) i (held ys));
      },
    )

-- at most as many are held as there are descriptors

abbrev descriptors : List (Option Interest) → List ℕ
descriptors slots = map (λ (i : Interest). i.descriptor) (held slots)

-- the slots are those of a row from number k on
abbrev Knows : List (Option ℕ) → ℕ → List (Option Interest) → Type 0
Knows places k slots = (s n : ℕ) → Holds slots s n → place_at places n ≡ Some (k + s)

knows-more : (places : List (Option ℕ)) (k : ℕ) (o : Option Interest) (slots : List (Option Interest)) → Knows places k (o ∷ slots) → Knows places (suc k) slots
knows-more places k o slots h s n r = h (suc s) n r ∙ ap Some (omega arith)

not-in : (places : List (Option ℕ)) (k x j : ℕ) (slots : List (Option Interest)) → place_at places x ≡ Some j → j < k → Knows places k slots → NotIn x (descriptors slots)
not-in places k x j [] e lt h = tt
not-in places k x j (None ∷ slots) e lt h = not-in places (suc k) x j slots e (omega arith) (knows-more places k None slots h)
not-in places k x j (Some i ∷ slots) e lt h = (
  (λ d.
      let here = h 0 x (holds-by (Some i ∷ slots) 0 x i refl (sym d)) in
      let same = same_Some j (k + 0) (sym e ∙ here) in
      omega arith),
  not-in places (suc k) x j slots e (omega arith) (knows-more places k (Some i) slots h),
)

different : (places : List (Option ℕ)) (k : ℕ) (slots : List (Option Interest)) → Knows places k slots → AreDifferent (descriptors slots) × AreBelow (length places) (descriptors slots)
different places k [] h = (tt, tt)
different places k (None ∷ slots) h = different places (suc k) slots (knows-more places k None slots h)
different places k (Some i ∷ slots) h =
    let more = knows-more places k (Some i) slots h in
    let r = different places (suc k) slots more in
    let here = h 0 i.descriptor (holds-by (Some i ∷ slots) 0 i.descriptor i refl refl) in
    ((not-in places (suc k) i.descriptor (k + 0) slots here (omega arith) more, r.0), (slot-within places i.descriptor (k + 0) here, r.1))

pub held-enough : (places : List (Option ℕ)) (slots : List (Option Interest)) → AreInSlots places slots → length (held slots) ≤ length places
held-enough places slots a =
    let d = different places 0 slots (λ s n h. a.placed s n h ∙ ap Some (omega arith)) in
    let l = length-distinct (length places) (descriptors slots) d.0 d.1 in
    subst (λ j. j ≤ length places) (length-map (held slots) (λ (i : Interest). i.descriptor)) l

-- What a change of the slots keeps

-- another row with the same in each slot
pub in-slots-same : (places : List (Option ℕ)) (slots rows : List (Option Interest)) → ((s : ℕ) → slot_at rows s ≡ slot_at slots s) → AreInSlots places slots → AreInSlots places rows
in-slots-same places slots rows e a = record {
  placed = λ s n h. a.placed s n (h.0, sym (e s) ∙ h.1);
  there = λ n s h. let r = a.there n s h in (r.0, e s ∙ r.1);
}

-- one descriptor more, without an interest
pub in-slots-grown : (places : List (Option ℕ)) (slots : List (Option Interest)) → ((n : ℕ) → place_at (places ++ None ∷ []) n ≡ place_at places n) → AreInSlots places slots → AreInSlots (places ++ None ∷ []) slots
in-slots-grown places slots e a = record {
  placed = λ s n h. e n ∙ a.placed s n h;
  there = λ n s h. a.there n s (sym (e n) ∙ h);
}

-- an interest of another descriptor is put into an empty slot, or moved there
in-slots-put-by : (places : List (Option ℕ)) (slots : List (Option Interest)) → AreInSlots places slots → (to : ℕ) (i : Interest) → NoneHolds slots i.descriptor → slot_at slots to ≡ None → to < length slots → i.descriptor < length places → AreInSlots (set places i.descriptor (Some to)) (set slots to (Some i))
in-slots-put-by places slots a to i none empty lt room =
    let n = i.descriptor in
    let here = get_or-set_same slots to (Some i) None lt in
    let known = get_or-set_same places n (Some to) None room in
    record {
      placed = λ t m k.
          elim (cases_eq t to) [
            | inl e ↦ let d = holds-of (set slots to (Some i)) t m i (ap (slot_at (set slots to (Some i))) e ∙ here) k in ap (place_at (set places n (Some to))) (sym d) ∙ known ∙ ap Some (sym e)
            | inr e ↦
                let k' : Holds slots t m = (k.0, sym (get_or-set_other slots to t (Some i) None e) ∙ k.1) in
                get_or-set_other places n m (Some to) None (λ d. none t (subst (Holds slots t) d k')) ∙ a.placed t m k'
          ];
      there = λ m t k.
          elim (cases_eq m n) [
            | inl e ↦
                let d = same_Some to t (sym known ∙ ap (place_at (set places n (Some to))) (sym e) ∙ k) in
                holds-by (set slots to (Some i)) t m i (ap (slot_at (set slots to (Some i))) (sym d) ∙ here) (sym e)
            | inr e ↦
                let r = a.there m t (sym (get_or-set_other places n m (Some to) None e) ∙ k) in
                (r.0, get_or-set_other slots to t (Some i) None (λ d. none-some _ (sym (ap (slot_at slots) d ∙ empty) ∙ r.1)) ∙ r.1)
          ];
    }

module _ (places : List (Option ℕ)) (slots : List (Option Interest)) (a : AreInSlots places slots) where
  pub place-alone : (n s : ℕ) → place_at places n ≡ Some s → AloneHolds slots s n
  place-alone n s e = record { it = a.there n s e; alone = λ t h. same_Some t s (sym (a.placed t n h) ∙ e) }

  pub place-none : (n : ℕ) → place_at places n ≡ None → NoneHolds slots n
  place-none n e s h = none-some s (sym e ∙ a.placed s n h)

  pub alone : (s n : ℕ) → Holds slots s n → AloneHolds slots s n
  alone s n h = place-alone n s (a.placed s n h)

  pub holds-below : (s n : ℕ) → Holds slots s n → n < length places
  holds-below s n h = slot-within places n s (a.placed s n h)

  -- the interest of the descriptor is replaced
  pub in-slots-replace : (s : ℕ) (i : Interest) → Holds slots s i.descriptor → AreInSlots places (set slots s (Some i))
  in-slots-replace s i h =
      let here = get_or-set_same slots s (Some i) None (holds-within slots s i.descriptor h) in
      record {
        placed = λ t n k.
            elim (cases_eq t s) [
              | inl e ↦ let d = holds-of (set slots s (Some i)) t n i (ap (slot_at (set slots s (Some i))) e ∙ here) k in ap (place_at places) (sym d) ∙ a.placed s i.descriptor h ∙ ap Some (sym e)
              | inr e ↦ a.placed t n (k.0, sym (get_or-set_other slots s t (Some i) None e) ∙ k.1)
            ];
        there = λ n t k.
            elim (cases_eq t s) [
              | inl e ↦ holds-by (set slots s (Some i)) t n i (ap (slot_at (set slots s (Some i))) e ∙ here) (holds-one slots s i.descriptor n h (subst (λ u. Holds slots u n) e (a.there n t k)))
              | inr e ↦ let r = a.there n t k in (r.0, get_or-set_other slots s t (Some i) None e ∙ r.1)
            ];
      }

  -- it is taken out
  pub in-slots-remove : (s n : ℕ) → Holds slots s n → AreInSlots (set places n None) (set slots s None)
  in-slots-remove s n h =
      let here = get_or-set_same slots s None None (holds-within slots s n h) in
      let gone = get_or-set_same places n None None (holds-below s n h) in
      record {
        placed = λ t m k.
            elim (cases_eq t s) [
              | inl e ↦ absurd (none-some _ (sym (ap (slot_at (set slots s None)) e ∙ here) ∙ k.1))
              | inr e ↦
                  let k' : Holds slots t m = (k.0, sym (get_or-set_other slots s t None None e) ∙ k.1) in
                  get_or-set_other places n m None None (λ d. e ((alone s n h).alone t (subst (Holds slots t) d k'))) ∙ a.placed t m k'
            ];
        there = λ m t k.
            elim (cases_eq m n) [
              | inl e ↦ absurd (none-some t (sym (ap (place_at (set places n None)) e ∙ gone) ∙ k))
              | inr e ↦
                  let r = a.there m t (sym (get_or-set_other places n m None None e) ∙ k) in
                  (r.0, get_or-set_other slots s t None None (λ d. e (holds-one slots s m n (subst (λ u. Holds slots u m) d r) h)) ∙ r.1)
            ];
      }

  -- it is put behind the others
  pub in-slots-push : (i : Interest) → NoneHolds slots i.descriptor → i.descriptor < length places → AreInSlots (set places i.descriptor (Some (length slots))) (slots ++ Some i ∷ [])
  in-slots-push i none room =
      let rows : List (Option Interest) = slots ++ None ∷ [] in
      let more = length_push slots None in
      let empty : slot_at rows (length slots) ≡ None = slot-grown slots (length slots) ∙ get_or_past slots (length slots) None (omega arith) in
      let put = in-slots-put-by places rows (in-slots-same places slots rows (slot-grown slots) a) (length slots) i (λ s h. none s (h.0, sym (slot-grown slots s) ∙ h.1)) empty (omega arith) room in
      subst (AreInSlots (set places i.descriptor (Some (length slots)))) (set_at slots None [] (Some i) (length slots) refl) put

  -- it is moved to an empty slot
  pub in-slots-shift : (from to : ℕ) (i : Interest) → slot_at slots from ≡ Some i → slot_at slots to ≡ None → to < length slots → AreInSlots (set places i.descriptor (Some to)) (set (set slots from None) to (Some i))
  in-slots-shift from to i e empty lt =
      let n = i.descriptor in
      let h = holds-by slots from n i e refl in
      let rows : List (Option Interest) = set slots from None in
      let gone = in-slots-remove from n h in
      let none : NoneHolds rows n = λ s k.
      elim (cases_eq s from) [
        | inl d ↦ none-some _ (sym (ap (slot_at rows) d ∙ get_or-set_same slots from None None (holds-within slots from n h)) ∙ k.1)
        | inr d ↦ d ((alone from n h).alone s (k.0, sym (get_or-set_other slots from s None None d) ∙ k.1))
      ] in
      let other : to ≡ from → ⊥ = λ d. none-some i (sym empty ∙ ap (slot_at slots) d ∙ e) in
      let put = in-slots-put-by (set places n None) rows gone to i none (get_or-set_other slots from to None None other ∙ empty) (rw (length-set slots from None) lt) (rw (length-set places n None) (holds-below from n h)) in
      subst (λ ps. AreInSlots ps (set rows to (Some i))) (set-set places n None (Some to)) put

  -- what is known of a descriptor says whether a slot holds its interest, and which
  pub slot-of : (n : ℕ) (o : Option ℕ) → place_at places n ≡ o → MatchOption o (NoneHolds slots n) (λ s. AloneHolds slots s n)
  slot-of n None e = place-none n e
  slot-of n (Some s) e = place-alone n s e

-- with its only interest out of its slot, none holds one
pub none-left : (slots : List (Option Interest)) (s n : ℕ) → AloneHolds slots s n → NoneHolds (set slots s None) n
none-left slots s n a t h = elim (cases_eq t s) [
  | inl d ↦ none-some _ (sym (ap (slot_at (set slots s None)) d ∙ get_or-set_same slots s None None (holds-within slots s n a.it)) ∙ h.1)
  | inr d ↦ d (a.alone t (h.0, sym (get_or-set_other slots s t None None d) ∙ h.1))
]

-- rows that hold the same hold an interest of n, or none, together
find-held : (slots : List (Option Interest)) (n : ℕ) (k : ℕ) → At (is_of n) (held slots) k → (s : ℕ) × Holds slots s n
find-held [] n k a = absurd a
find-held (None ∷ slots) n k a = let r = find-held slots n k a in (suc r.0, r.1)
find-held (Some j ∷ slots) n zero a = (0, holds-by (Some j ∷ slots) 0 n j refl (eqb-true j.descriptor n a))
find-held (Some j ∷ slots) n (suc k) a = let r = find-held slots n k a.1 in (suc r.0, r.1)

holds-at : (slots : List (Option Interest)) (s n : ℕ) → Holds slots s n → (k : ℕ) × At (is_of n) (held slots) k
holds-at [] s n h = absurd (none-some _ h.1)
holds-at (None ∷ slots) zero n h = absurd (none-some _ h.1)
holds-at (None ∷ slots) (suc s) n h = holds-at slots s n h
holds-at (Some j ∷ slots) zero n h = (0, eq-eqb j.descriptor n (ap (λ (i : Interest). i.descriptor) (same_Some j _ h.1)))
holds-at (Some j ∷ slots) (suc s) n h =
    elim (cases_eq j.descriptor n) [
      | inl e ↦ (0, eq-eqb j.descriptor n e)
      | inr e ↦ let r = holds-at slots s n h in (suc r.0, (ne_eqb j.descriptor n e, r.1))
    ]

pub none-held : (slots : List (Option Interest)) (n : ℕ) → position (is_of n) (held slots) ≡ None → NoneHolds slots n
none-held slots n e s h =
    let r = holds-at slots s n h in
    none-some r.0 (sym e ∙ position-from_At (is_of n) (held slots) r.0 r.1)

pub none-kept : (slots rows : List (Option Interest)) (n : ℕ) → held rows ≡ held slots → NoneHolds slots n → NoneHolds rows n
none-kept slots rows n e none s h =
    let r = holds-at rows s n h in
    let q = find-held slots n r.0 (subst (λ l. At (is_of n) l r.0) e r.1) in
    none q.0 q.1
