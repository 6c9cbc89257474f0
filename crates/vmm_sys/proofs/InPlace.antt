-- A report of the interests that are ready and stand last: it leaves them where they are.
use Rattle.vmm_sys.proofs.Prelude.{◌≡◌, ℕ, zero, suc, ◌+◌, ◌-◌, ◌<◌, ◌≤◌, Bool, true, false, inl, inr, List, [], ◌∷◌, ◌++◌, length, take, drop, set, map, filter, get_or, refl, ap, ◌∙◌, sym, subst, arith, append_assoc, Option, Some, None, IsSome, cases_lt, false≢true, append-nil, get_or_past, get_or-drop, get_or-take, length-drop, length-map, length-take, take-append-drop, take_more, drop_more, set_at, map-append, get_or_from_slice_get, none-some, same_Some, held, InterestsState, slot_at, passes, AreMarked, IsMarked, IsFirstFrom}
use Rattle.std.proofs.lemmas.List.Elements.{filter-append}
use Rattle.vmm_sys.specs.declared.entries.EpollEvent.{EpollEvent}
use Rattle.vmm_sys.specs.declared.table.interests.Interest.{Interest}
use Rattle.vmm_sys.proofs.Held.{held-append, slot-within}
use Rattle.vmm_sys.proofs.Picks.{Picked, fails, IsDone, done_by_none}
use Rattle.vmm_sys.proofs.Walked.{NoneIn, none_filter, bare_fails}

-- slots each of which holds something
pub full : {A : Type 0} (slots : List (Option A)) → ((t : ℕ) → t < length slots → IsSome (get_or slots t None)) → slots ≡ map Some (held slots)
full [] h = refl
full (None ∷ slots) h = absurd (false≢true (h 0 (omega arith)))
full (Some x ∷ slots) h = ap (λ l. Some x ∷ l) (full slots (λ t lt. h (suc t) (omega (arith, lt))))

held_at : {A : Type 0} (xs : List A) (at : ℕ) (x : A) → get_or (map Some xs) at None ≡ Some x → get_or xs at x ≡ x
held_at [] at x e = absurd (none-some x e)
held_at (y ∷ xs) zero x e = same_Some y x e
held_at (y ∷ xs) (suc at) x e = held_at xs at x e

-- the slots from `first` on
module _ (slots : List (Option Interest)) (first : ℕ) (some : (s : ℕ) → first ≤ s → s < length slots → IsSome (slot_at slots s)) where
  pub full_last : drop first slots ≡ map Some (held (drop first slots))
  full_last =
      let rest = length-drop first slots in
      full (drop first slots) (λ t lt. subst (λ (o : Option Interest). IsSome o) (sym (get_or-drop first slots t None)) (some (first + t) (omega arith) (omega arith)))

  pub length_last : length (held (drop first slots)) ≡ length slots - first
  length_last = sym (length-map (held (drop first slots)) Some) ∙ sym (ap length full_last) ∙ length-drop first slots

  -- the entry of one more of them is written
  pub written : (f : Interest → EpollEvent) (at : ℕ) (i : Interest) (buffer ws : List EpollEvent) → slot_at slots (first + at) ≡ Some i → at < length buffer →
      ws ≡ map f (take at (held (drop first slots))) ++ drop at buffer → set ws at (f i) ≡ map f (take (at + 1) (held (drop first slots))) ++ drop (at + 1) buffer
  written f at i buffer ws here free now =
      let is : List Interest = held (drop first slots) in
      let there : get_or (map Some is) at None ≡ Some i = sym (ap (λ l. slot_at l at) full_last) ∙ get_or-drop first slots at None ∙ here in
      let lt : at < length is = subst (λ n. at < n) (length-map is Some) (slot-within (map Some is) at i there) in
      let cut = length-take at is in
      let len : length (map f (take at is)) ≡ at = length-map (take at is) f ∙ omega arith in
      let more : take (at + 1) is ≡ take at is ++ i ∷ [] = take_more is at i lt ∙ ap (λ j. take at is ++ j ∷ []) (held_at is at i there) in
      ap (λ l. set l at (f i)) (now ∙ ap (λ l. map f (take at is) ++ l) (drop_more buffer at (f i) free))
      ∙ set_at (map f (take at is)) (get_or buffer at (f i)) (drop (at + 1) buffer) (f i) at len
      ∙ sym (ap (λ l. map f l ++ drop (at + 1) buffer) more ∙ ap (λ l. l ++ drop (at + 1) buffer) (map-append f (take at is) (i ∷ [])) ∙ append_assoc (map f (take at is)) (f i ∷ []) (drop (at + 1) buffer))

-- interests that all pass
all_filter : (p : Interest → Bool) (slots : List (Option Interest)) → ((t : ℕ) → t < length slots → passes p (slot_at slots t) ≡ true) → (filter p (held slots) ≡ held slots) × (filter (fails p) (held slots) ≡ [])
all_filter p [] h = (refl, refl)
all_filter p (None ∷ slots) h = absurd (false≢true (h 0 (omega arith)))
all_filter p (Some i ∷ slots) h =
    let e : p i ≡ true = h 0 (omega arith) in
    let r = all_filter p slots (λ t lt. h (suc t) (omega (arith, lt))) in
    (simp e (ap (λ l. i ∷ l) r.0), simp e r.1)

some_passes : (p : Interest → Bool) (o : Option Interest) → passes p o ≡ true → IsSome o
some_passes p None e = absurd (false≢true e)
some_passes p (Some i) e = refl

-- the slots from `first` on hold the interests that pass, and no others do
pub record StandLast (p : Interest → Bool) (now : InterestsState) (first : ℕ) : Type 0 where
  pub marks : AreMarked p now
  pub front : IsFirstFrom now.marks 0 first
  pub ready : (s : ℕ) → first ≤ s → s < length now.slots → IsMarked now.marks s

module _ {p : Interest → Bool} {now : InterestsState} {first : ℕ} (h : StandLast p now first) where
  marked_passes : (s : ℕ) → s < length now.slots → IsMarked now.marks s → passes p (slot_at now.slots s) ≡ true
  marked_passes s lt marked = sym (h.marks s lt) ∙ get_or_from_slice_get now.marks s true false marked

  pub some_last : (s : ℕ) → first ≤ s → s < length now.slots → IsSome (slot_at now.slots s)
  some_last s ge lt = some_passes p (slot_at now.slots s) (marked_passes s lt (h.ready s ge lt))

  unmarked : (s : ℕ) → s < first → passes p (slot_at now.slots s) ≡ false
  unmarked s lt = bare_fails p now h.marks s (h.front.first s (omega arith) lt)

  none_before : NoneIn p (take first now.slots)
  none_before t =
      elim (cases_lt t first) [
        | inl lt ↦ ap (passes p) (get_or-take first now.slots t None lt) ∙ unmarked t lt
        | inr ge ↦ let cut = length-take first now.slots in ap (passes p) (get_or_past (take first now.slots) t None (omega arith))
      ]

  all_last : (t : ℕ) → t < length (drop first now.slots) → passes p (slot_at (drop first now.slots) t) ≡ true
  all_last t lt =
      let rest = length-drop first now.slots in
      ap (passes p) (get_or-drop first now.slots t None) ∙ marked_passes (first + t) (omega arith) (h.ready (first + t) (omega arith) (omega arith))

  pub split : held now.slots ≡ held (take first now.slots) ++ held (drop first now.slots)
  split = ap held (sym (take-append-drop first now.slots)) ∙ held-append (take first now.slots) (drop first now.slots)

  pub ready_are : filter p (held now.slots) ≡ held (drop first now.slots)
  ready_are =
      ap (filter p) split ∙ filter-append p (held (take first now.slots)) (held (drop first now.slots))
      ∙ ap (λ l. l ++ filter p (held (drop first now.slots))) (none_filter p (take first now.slots) none_before).0 ∙ (all_filter p (drop first now.slots) all_last).0

  pub others_are : filter (fails p) (held now.slots) ≡ held (take first now.slots)
  others_are =
      ap (filter (fails p)) split ∙ filter-append (fails p) (held (take first now.slots)) (held (drop first now.slots))
      ∙ ap (λ l. l ++ filter (fails p) (held (drop first now.slots))) (none_filter p (take first now.slots) none_before).1
      ∙ ap (λ l. held (take first now.slots) ++ l) (all_filter p (drop first now.slots) all_last).1 ∙ append-nil (held (take first now.slots))

  pub count_is : length (held (drop first now.slots)) ≡ length now.slots - first
  count_is = length_last now.slots first some_last

  module _ (f : Interest → EpollEvent) (ys ws : List EpollEvent) (buffer : ws ≡ map f (held (drop first now.slots)) ++ drop (length now.slots - first) ys) where
    abbrev pub in_place : Picked p f (held now.slots) ys (held now.slots) ws (length now.slots - first) None
    in_place = record {
      looked = held now.slots;
      rest = [];
      whole = sym (append-nil (held now.slots));
      list = rw (others_are, ready_are) split;
      buffer = rw ready_are buffer;
      count_is = ap length ready_are ∙ count_is;
      next_is = refl;
    }

    -- a report of them all is the whole
    pub done_in_place : length now.slots ≤ first + length ys → IsDone p f in_place
    done_in_place few = done_by_none p f in_place (omega arith) refl
