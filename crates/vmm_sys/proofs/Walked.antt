-- A wait's walk from ready slot to ready slot: what was looked at, what is left, and what came to the back.
use Rattle.vmm_sys.proofs.Prelude.{◌≡◌, ℕ, zero, suc, ◌+◌, ◌-◌, ◌<◌, ◌≤◌, Bool, true, false, not, cond, inl, inr, List, [], ◌∷◌, ◌++◌, length, drop, set, map, filter, get_or, refl, ap, ◌∙◌, sym, arith, append_assoc, Option, Some, None, slice_get, find, cases_lt, cases_Bool, false≢true, get_or_past, get_or_append_left, get_or-append_right, set_at, append-nil, map-append, length-append, length-map, length_push, drop_more, nil_from_length, get_or_from_slice_get, held, InterestsState, slot_at, passes, AreMarked, IsMarked, IsFirstFrom}
use Rattle.std.proofs.lemmas.List.Elements.{filter-append}
use Rattle.vmm_sys.specs.declared.entries.EpollEvent.{EpollEvent}
use Rattle.vmm_sys.specs.declared.table.interests.Interest.{Interest}
use Rattle.vmm_sys.proofs.Held.{held-append, held-full, slot-within, split-at}
use Rattle.vmm_sys.proofs.Picks.{Picked, fails, IsDone, done_by_none}

-- the slots below `from` were looked at, and so those of `looked`: those that pass came to the back in their order, and the others are in `left`
pub record Walked (p : Interest → Bool) (f : Interest → EpollEvent) (before : InterestsState) (ys : List EpollEvent) (now : InterestsState) (ws : List EpollEvent) (count from : ℕ) : Type 0 where
  pub left : List (Option Interest)
  pub rest : List (Option Interest)
  pub looked : List Interest
  pub slots_are : now.slots ≡ left ++ (rest ++ map Some (filter p looked))
  pub whole : held before.slots ≡ looked ++ held rest
  pub passed : held left ≡ filter (fails p) looked
  pub left_is : length left ≡ from
  pub end_is : from + length rest ≡ length before.slots
  pub count_is : length (filter p looked) ≡ count
  pub buffer : ws ≡ map f (filter p looked) ++ drop count ys
  pub room : now.room ≡ before.room
  pub marks : AreMarked p now

pub Walked-start : (p : Interest → Bool) (f : Interest → EpollEvent) (before : InterestsState) (ys : List EpollEvent) → AreMarked p before → Walked p f before ys before ys 0 0
Walked-start p f before ys marks = record {
  left = [];
  rest = before.slots;
  looked = [];
  slots_are = sym (append-nil before.slots);
  whole = refl;
  passed = refl;
  left_is = refl;
  end_is = omega arith;
  count_is = refl;
  buffer = refl;
  room = refl;
  marks = marks;
}

-- no slot holds an interest that passes
abbrev pub NoneIn : (Interest → Bool) → List (Option Interest) → Type 0
NoneIn p slots = (t : ℕ) → passes p (slot_at slots t) ≡ false

pub none_find : (p : Interest → Bool) (slots : List (Option Interest)) → NoneIn p slots → find p (held slots) ≡ None
none_find p [] h = refl
none_find p (None ∷ slots) h = none_find p slots (λ t. h (suc t))
none_find p (Some i ∷ slots) h = let e : p i ≡ false = h 0 in simp e (none_find p slots (λ t. h (suc t)))

pub none_filter : (p : Interest → Bool) (slots : List (Option Interest)) → NoneIn p slots → (filter p (held slots) ≡ []) × (filter (fails p) (held slots) ≡ held slots)
none_filter p [] h = (refl, refl)
none_filter p (None ∷ slots) h = none_filter p slots (λ t. h (suc t))
none_filter p (Some i ∷ slots) h =
    let e : p i ≡ false = h 0 in
    let r = none_filter p slots (λ t. h (suc t)) in
    (simp e r.0, simp e (ap (λ l. i ∷ l) r.1))

filter_shorter_by : (b : Bool) (p : Interest → Bool) (x : Interest) (xs : List Interest) → p x ≡ b → length (filter p xs) ≤ length xs → length (filter p (x ∷ xs)) ≤ length (x ∷ xs)
filter_shorter_by true p x xs e h = simp e (omega arith)
filter_shorter_by false p x xs e h = simp e (omega arith)

filter_shorter : (p : Interest → Bool) (xs : List Interest) → length (filter p xs) ≤ length xs
filter_shorter p [] = omega arith
filter_shorter p (x ∷ xs) = filter_shorter_by (p x) p x xs refl (filter_shorter p xs)

pub get_marked : (marks : List Bool) (n : ℕ) → get_or marks n false ≡ true → slice_get marks n ≡ Some true
get_marked [] n e = absurd (false≢true e)
get_marked (b ∷ marks) zero e = ap Some e
get_marked (b ∷ marks) (suc n) e = get_marked marks n e

-- what a slot without a mark holds doesn't pass
pub bare_fails : (p : Interest → Bool) (now : InterestsState) → AreMarked p now → (s : ℕ) → ¬ IsMarked now.marks s → passes p (slot_at now.slots s) ≡ false
bare_fails p now h s bare =
    elim (cases_lt s (length now.slots)) [
      | inl lt ↦ elim (cases_Bool (passes p (slot_at now.slots s))) [ inl b ↦ absurd (bare (get_marked now.marks s (h s lt ∙ b))) | inr b ↦ b ]
      | inr ge ↦ ap (passes p) (get_or_past now.slots s None ge)
    ]

module _ {p : Interest → Bool} {f : Interest → EpollEvent} {before now : InterestsState} {ys ws : List EpollEvent} {count from : ℕ} (h : Walked p f before ys now ws count from) where
  abbrev moved : List Interest
  moved = filter p h.looked

  pub now_held : held now.slots ≡ filter (fails p) h.looked ++ (held h.rest ++ moved)
  now_held =
      ap held h.slots_are ∙ held-append h.left (h.rest ++ map Some moved) ∙ ap (λ l. l ++ held (h.rest ++ map Some moved)) h.passed
      ∙ ap (λ l. filter (fails p) h.looked ++ l) (held-append h.rest (map Some moved) ∙ ap (λ l. held h.rest ++ l) (held-full moved))

  abbrev pub picked : Picked p f (held before.slots) ys (held now.slots) ws count (slice_get (held h.rest) 0)
  picked = record { looked = h.looked; rest = held h.rest; whole = h.whole; list = now_held; buffer = h.buffer; count_is = h.count_is; next_is = refl }

  -- a slot of those that are left
  at_rest : (t : ℕ) → t < length h.rest → slot_at now.slots (from + t) ≡ slot_at h.rest t
  at_rest t lt =
      let there : (from + t) - from ≡ t = omega arith in
      ap (λ l. slot_at l (from + t)) h.slots_are ∙ get_or-append_right h.left (h.rest ++ map Some moved) from (from + t) None h.left_is (omega arith)
      ∙ ap (slot_at (h.rest ++ map Some moved)) there ∙ get_or_append_left h.rest (map Some moved) None t lt

  unmarked : (s : ℕ) → ¬ IsMarked now.marks s → passes p (slot_at now.slots s) ≡ false
  unmarked = bare_fails p now h.marks

  -- a slot that was in use is
  pub stays_in_use : (s : ℕ) → s < length before.slots → s < length now.slots
  stays_in_use s lt =
      let whole = ap length h.slots_are ∙ length-append h.left (h.rest ++ map Some moved) in
      let rest = length-append h.rest (map Some moved) in
      let l = h.left_is in
      let e = h.end_is in
      omega arith

  -- where none is marked any more, up to the end that there was, the walk is over
  pub done_by_marks : count ≤ length ys → ((s : ℕ) → from ≤ s → s < length before.slots → ¬ IsMarked now.marks s) → IsDone p f picked
  done_by_marks le bare =
      let none : NoneIn p h.rest = λ t.
      elim (cases_lt t (length h.rest)) [
        | inl lt ↦ sym (ap (passes p) (at_rest t lt)) ∙ unmarked (from + t) (bare (from + t) (omega arith) (let e = h.end_is in omega arith))
        | inr ge ↦ ap (passes p) (get_or_past h.rest t None ge)
      ] in
      done_by_none p f picked le (none_find p h.rest none)

  -- so it is where as many were moved as there are
  pub done_by_all : count ≤ length ys → length (held before.slots) ≤ count → IsDone p f picked
  done_by_all le all =
      let some = filter_shorter p h.looked in
      let most = h.count_is in
      let length_is = ap length h.whole ∙ length-append h.looked (held h.rest) in
      let none = nil_from_length (held h.rest) (omega arith) in
      done_by_none p f picked le (ap (find p) none)

  -- the first marked slot
  module _ (slot : ℕ) (i : Interest) (first : IsFirstFrom now.marks from slot) (lt : slot < length before.slots) (at : slot_at now.slots slot ≡ Some i) where
    within : slot - from < length h.rest
    within = let e = h.end_is in let g = first.from in omega arith

    here : slot_at h.rest (slot - from) ≡ Some i
    here = let s : from + (slot - from) ≡ slot = (let g = first.from in omega arith) in sym (at_rest (slot - from) within) ∙ ap (slot_at now.slots) s ∙ at

    abbrev cut : (xs ys : List (Option Interest)) × (h.rest ≡ xs ++ Some i ∷ ys) × (length xs ≡ slot - from)
    cut = split-at h.rest (slot - from) (Some i) within here

    none_before : NoneIn p cut.0
    none_before t =
        elim (cases_lt t (length cut.0)) [
          | inl l ↦
              let g = first.from in
              let w = within in
              let c = cut.3 in
              ap (passes p) (sym (ap (λ r. slot_at r t) cut.2 ∙ get_or_append_left cut.0 (Some i ∷ cut.1) None t l) ∙ sym (at_rest t (omega arith)))
              ∙ unmarked (from + t) (first.first (from + t) (omega arith) (omega arith))
          | inr ge ↦ ap (passes p) (get_or_past cut.0 t None ge)
        ]

    i_passes : p i ≡ true
    i_passes = sym (ap (passes p) at) ∙ sym (h.marks slot (slot-within now.slots slot i at)) ∙ get_or_from_slice_get now.marks slot true false first.marked

    front_is : length (h.left ++ cut.0) ≡ slot
    front_is = let l = h.left_is in let c = cut.3 in let g = first.from in let a = length-append h.left cut.0 in omega arith

    abbrev seen : List Interest
    seen = h.looked ++ (held cut.0 ++ i ∷ [])

    more : filter p seen ≡ moved ++ i ∷ []
    more =
        filter-append p h.looked (held cut.0 ++ i ∷ [])
        ∙ ap (λ l. moved ++ l) (filter-append p (held cut.0) (i ∷ []) ∙ ap (λ l. l ++ filter p (i ∷ [])) (none_filter p cut.0 none_before).0 ∙ ap (λ b. cond b (i ∷ []) []) i_passes)

    same : filter (fails p) seen ≡ filter (fails p) h.looked ++ held cut.0
    same =
        filter-append (fails p) h.looked (held cut.0 ++ i ∷ [])
        ∙ ap (λ l. filter (fails p) h.looked ++ l) (filter-append (fails p) (held cut.0) (i ∷ []) ∙ ap (λ l. l ++ filter (fails p) (i ∷ [])) (none_filter p cut.0 none_before).1
        ∙ ap (λ b. held cut.0 ++ cond (not b) (i ∷ []) []) i_passes ∙ append-nil (held cut.0))

    -- what the slots are once it is put last
    put : set now.slots slot None ++ slot_at now.slots slot ∷ [] ≡ ((h.left ++ cut.0) ++ None ∷ []) ++ (cut.1 ++ map Some (moved ++ i ∷ []))
    put =
        let front : List (Option Interest) = h.left ++ cut.0 in
        let whole : now.slots ≡ front ++ Some i ∷ (cut.1 ++ map Some moved) =
        h.slots_are ∙ ap (λ l. h.left ++ (l ++ map Some moved)) cut.2 ∙ ap (λ l. h.left ++ l) (append_assoc cut.0 (Some i ∷ cut.1) (map Some moved)) ∙ sym (append_assoc h.left cut.0 (Some i ∷ (cut.1 ++ map Some moved))) in
        let gone : set now.slots slot None ≡ front ++ None ∷ (cut.1 ++ map Some moved) = ap (λ l. set l slot None) whole ∙ set_at front (Some i) (cut.1 ++ map Some moved) None slot front_is in
        ap (λ l. l ++ slot_at now.slots slot ∷ []) gone ∙ ap (λ o. (front ++ None ∷ (cut.1 ++ map Some moved)) ++ o ∷ []) at
        ∙ append_assoc front (None ∷ (cut.1 ++ map Some moved)) (Some i ∷ [])
        ∙ ap (λ l. front ++ None ∷ l) (append_assoc cut.1 (map Some moved) (Some i ∷ []) ∙ ap (λ l. cut.1 ++ l) (sym (map-append Some moved (i ∷ []))))
        ∙ sym (append_assoc front (None ∷ []) (cut.1 ++ map Some (moved ++ i ∷ [])))

    pub Walked-more : (then : InterestsState) (vs : List EpollEvent) → count < length ys → then.slots ≡ set now.slots slot None ++ slot_at now.slots slot ∷ [] → then.room ≡ now.room → AreMarked p then → vs ≡ set ws count (f i) → Walked p f before ys then vs (count + 1) (slot + 1)
    Walked-more then vs free slots room marks v =
        let b : ws ≡ map f moved ++ (get_or ys count (f i) ∷ drop (count + 1) ys) = rw (drop_more ys count (f i) free) at h.buffer in
        record {
          left = (h.left ++ cut.0) ++ None ∷ [];
          rest = cut.1;
          looked = seen;
          slots_are = rw more (slots ∙ put);
          whole =
              h.whole ∙ ap (λ l. h.looked ++ l) (ap held cut.2 ∙ held-append cut.0 (Some i ∷ cut.1) ∙ sym (append_assoc (held cut.0) (i ∷ []) (held cut.1)))
              ∙ sym (append_assoc h.looked (held cut.0 ++ i ∷ []) (held cut.1));
          passed = held-append (h.left ++ cut.0) (None ∷ []) ∙ append-nil (held (h.left ++ cut.0)) ∙ held-append h.left cut.0 ∙ ap (λ l. l ++ held cut.0) h.passed ∙ sym same;
          left_is = length_push (h.left ++ cut.0) None ∙ ap (λ n. n + 1) front_is;
          end_is = (let e = h.end_is in let c = cut.3 in let g = first.from in let a = ap length cut.2 ∙ length-append cut.0 (Some i ∷ cut.1) in omega arith);
          count_is = rw more (length_push moved i ∙ ap (λ n. n + 1) h.count_is);
          buffer = rw (v, more) (rw map-append (ap (λ l. set l count (f i)) b ∙ set_at (map f moved) (get_or ys count (f i)) (drop (count + 1) ys) (f i) count (length-map moved f ∙ h.count_is) ∙ sym (append_assoc (map f moved) (f i ∷ []) (drop (count + 1) ys))));
          room = room ∙ h.room;
          marks = marks;
        }
