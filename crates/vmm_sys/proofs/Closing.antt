-- How the slots are closed up: what they hold comes to the front, one after the other.
use Rattle.vmm_sys.proofs.Prelude.{◌≡◌, ℕ, zero, suc, ◌+◌, ◌<◌, ◌≤◌, Bool, inl, inr, List, [], ◌∷◌, ◌++◌, length, set, map, take, replicate, refl, ap, ◌∙◌, sym, subst, arith, append_assoc, Option, Some, None, IsSome, is_some, cases_lt, append-nil, map-append, length-map, length-append, length-replicate, get_or_at, set_at, take_at, replicate_more, nil_from_length, held, InterestsState, slot_at, AreMarked}
use Rattle.vmm_sys.specs.declared.table.interests.Interest.{Interest}
use Rattle.vmm_sys.proofs.Held.{slot-cut}

-- the slots below `slot` were looked at: what they held is now in those below `next`, and the ones from there up to `slot` are empty
pub record Closing (before now : InterestsState) (slot next : ℕ) : Type 0 where
  pub front : List Interest
  pub gap : ℕ
  pub rest : List (Option Interest)
  pub slots_are : now.slots ≡ map Some front ++ (replicate gap None ++ rest)
  pub list : held before.slots ≡ front ++ held rest
  pub next_is : length front ≡ next
  pub slot_is : next + gap ≡ slot
  pub end_is : slot + length rest ≡ length before.slots
  pub room : now.room ≡ before.room
  pub marks : (p : Interest → Bool) → AreMarked p before → AreMarked p now

pub Closing-start : (s : InterestsState) → Closing s s 0 0
Closing-start s = record { front = []; gap = 0; rest = s.slots; slots_are = refl; list = refl; next_is = refl; slot_is = refl; end_is = omega arith; room = refl; marks = λ p h. h }

more_front : (front : List Interest) (i : Interest) (rest : List (Option Interest)) → map Some front ++ Some i ∷ rest ≡ map Some (front ++ i ∷ []) ++ rest
more_front front i rest = sym (ap (λ l. l ++ rest) (map-append Some front (i ∷ [])) ∙ append_assoc (map Some front) (Some i ∷ []) rest)

more_gap : (gap : ℕ) (rest : List (Option Interest)) → replicate gap None ++ None ∷ rest ≡ replicate (gap + 1) None ++ rest
more_gap gap rest = sym (append_assoc (replicate gap None) (None ∷ []) rest) ∙ ap (λ l. l ++ rest) (replicate_more gap None)

-- a number of empty slots above 0 begins with one
gap_at : (gap : ℕ) (rest : List (Option Interest)) → 0 < gap → (g : ℕ) × (gap ≡ suc g) × (replicate gap None ++ rest ≡ None ∷ (replicate g None ++ rest))
gap_at zero rest lt = absurd (omega (arith, lt))
gap_at (suc g) rest lt = (g, refl, refl)

nonempty : {A : Type 0} (xs : List A) → 0 < length xs → (x : A) × (rest : List A) × (xs ≡ x ∷ rest)
nonempty [] lt = absurd (omega (arith, lt))
nonempty (x ∷ xs) lt = (x, xs, refl)

module _ {before now : InterestsState} {slot next : ℕ} (h : Closing before now slot next) where
  abbrev looked : List (Option Interest)
  looked = map Some h.front ++ replicate h.gap None

  looked_length : length looked ≡ slot
  looked_length =
      let empty : List (Option Interest) = replicate h.gap None in
      let none : Option Interest = None in
      length-append (map Some h.front) empty ∙ ap (λ n. n + length empty) (length-map h.front Some ∙ h.next_is)
      ∙ ap (λ n. next + n) (length-replicate h.gap none) ∙ h.slot_is

  pub now_length : length now.slots ≡ length before.slots
  now_length =
      ap length h.slots_are ∙ ap length (sym (append_assoc (map Some h.front) (replicate h.gap None) h.rest)) ∙ length-append looked h.rest
      ∙ ap (λ n. n + length h.rest) looked_length ∙ h.end_is

  module _ (o : Option Interest) (rest : List (Option Interest)) (r : h.rest ≡ o ∷ rest) where
    here : now.slots ≡ looked ++ o ∷ rest
    here = h.slots_are ∙ ap (λ l. map Some h.front ++ (replicate h.gap None ++ l)) r ∙ sym (append_assoc (map Some h.front) (replicate h.gap None) (o ∷ rest))

    at_slot : slot_at now.slots slot ≡ o
    at_slot = ap (λ l. slot_at l slot) here ∙ get_or_at looked o rest None slot looked_length

    end_more : (slot + 1) + length rest ≡ length before.slots
    end_more = let l = ap length r in let e = h.end_is in omega arith

  -- the slot that is looked at
  pub looked_at : slot < length before.slots → (o : Option Interest) × (rest : List (Option Interest)) × (h.rest ≡ o ∷ rest) × (slot_at now.slots slot ≡ o)
  looked_at lt =
      let e = h.end_is in
      let r = nonempty h.rest (omega arith) in
      (r.0, r.1, r.2, at_slot r.0 r.1 r.2)

  -- an empty slot is passed over
  pub Closing-over : (lt : slot < length before.slots) → slot_at now.slots slot ≡ None → Closing before now (slot + 1) next
  Closing-over lt e =
      let l = looked_at lt in
      let r : h.rest ≡ None ∷ l.1 = l.2 ∙ ap (λ o. o ∷ l.1) (sym l.3 ∙ e) in
      record {
        front = h.front;
        gap = h.gap + 1;
        rest = l.1;
        slots_are = h.slots_are ∙ ap (λ m. map Some h.front ++ (replicate h.gap None ++ m)) r ∙ ap (λ m. map Some h.front ++ m) (more_gap h.gap l.1);
        list = h.list ∙ ap (λ m. h.front ++ held m) r;
        next_is = h.next_is;
        slot_is = (let s = h.slot_is in omega arith);
        end_is = end_more None l.1 r;
        room = h.room;
        marks = h.marks;
      }

  -- what is found stays where there is no gap
  pub Closing-stays : (lt : slot < length before.slots) (i : Interest) → slot_at now.slots slot ≡ Some i → slot ≤ next → Closing before now (slot + 1) (next + 1)
  Closing-stays lt i e le =
      let l = looked_at lt in
      let r : h.rest ≡ Some i ∷ l.1 = l.2 ∙ ap (λ o. o ∷ l.1) (sym l.3 ∙ e) in
      let none : h.gap ≡ 0 = (let s = h.slot_is in omega arith) in
      record {
        front = h.front ++ i ∷ [];
        gap = 0;
        rest = l.1;
        slots_are = h.slots_are ∙ ap (λ g. map Some h.front ++ (replicate g None ++ h.rest)) none ∙ ap (λ m. map Some h.front ++ m) r ∙ more_front h.front i l.1;
        list = h.list ∙ ap (λ m. h.front ++ held m) r ∙ sym (append_assoc h.front (i ∷ []) (held l.1));
        next_is = length-append h.front (i ∷ []) ∙ ap (λ n. n + 1) h.next_is;
        slot_is = (let s = h.slot_is in omega arith);
        end_is = end_more (Some i) l.1 r;
        room = h.room;
        marks = h.marks;
      }

  -- the first slot of a gap is empty
  pub next_empty : next < slot → slot_at now.slots next ≡ None
  next_empty lt =
      let g = gap_at h.gap h.rest (let s = h.slot_is in omega arith) in
      ap (λ l. slot_at l next) (h.slots_are ∙ ap (λ m. map Some h.front ++ m) g.2) ∙ get_or_at (map Some h.front) None (replicate g.0 None ++ h.rest) None next (length-map h.front Some ∙ h.next_is)

  -- else it is moved to the front of the gap
  pub Closing-moves : (lt : slot < length before.slots) (i : Interest) → slot_at now.slots slot ≡ Some i → next < slot → (then : InterestsState) →
      then.slots ≡ set (set now.slots slot None) next (slot_at now.slots slot) → then.room ≡ now.room → ((p : Interest → Bool) → AreMarked p now → AreMarked p then) → Closing before then (slot + 1) (next + 1)
  Closing-moves lt i e gap then new room marks =
      let l = looked_at lt in
      let r : h.rest ≡ Some i ∷ l.1 = l.2 ∙ ap (λ o. o ∷ l.1) (sym l.3 ∙ e) in
      let g = gap_at h.gap (None ∷ l.1) (let s = h.slot_is in omega arith) in
      let out : set now.slots slot None ≡ map Some h.front ++ (replicate h.gap None ++ None ∷ l.1) =
      ap (λ m. set m slot None) (here (Some i) l.1 r) ∙ set_at looked (Some i) l.1 None slot looked_length ∙ append_assoc (map Some h.front) (replicate h.gap None) (None ∷ l.1) in
      let put : set (set now.slots slot None) next (Some i) ≡ map Some h.front ++ Some i ∷ (replicate g.0 None ++ None ∷ l.1) =
      ap (λ m. set m next (Some i)) (out ∙ ap (λ m. map Some h.front ++ m) g.2) ∙ set_at (map Some h.front) None (replicate g.0 None ++ None ∷ l.1) (Some i) next (length-map h.front Some ∙ h.next_is) in
      record {
        front = h.front ++ i ∷ [];
        gap = h.gap;
        rest = l.1;
        slots_are =
            new ∙ ap (set (set now.slots slot None) next) e ∙ put ∙ more_front h.front i (replicate g.0 None ++ None ∷ l.1)
            ∙ ap (λ m. map Some (h.front ++ i ∷ []) ++ m) (more_gap g.0 l.1 ∙ ap (λ n. replicate n None ++ l.1) (let s = g.1 in omega arith));
        list = h.list ∙ ap (λ m. h.front ++ held m) r ∙ sym (append_assoc h.front (i ∷ []) (held l.1));
        next_is = length-append h.front (i ∷ []) ∙ ap (λ n. n + 1) h.next_is;
        slot_is = (let s = h.slot_is in omega arith);
        end_is = end_more (Some i) l.1 r;
        room = room ∙ h.room;
        marks = λ p m. marks p (h.marks p m);
      }

  step_by : (o : Option Interest) → slot_at now.slots slot ≡ o → (lt : slot < length before.slots) (then : InterestsState) (n : ℕ) → then.room ≡ now.room →
      (slot_at now.slots slot ≡ None → (n ≡ next) × (then ≡ now)) →
      (IsSome (slot_at now.slots slot) → slot ≤ next → (n ≡ next + 1) × (then ≡ now)) →
      (IsSome (slot_at now.slots slot) → next < slot → (n ≡ next + 1) × (then.slots ≡ set (set now.slots slot None) next (slot_at now.slots slot))) →
      ((p : Interest → Bool) → AreMarked p now → AreMarked p then) → Closing before then (slot + 1) n
  step_by None e lt then n room empty stays moves marks =
      let r = empty e in
      subst (λ v. Closing before v (slot + 1) n) (sym r.1) (subst (λ k. Closing before now (slot + 1) k) (sym r.0) (Closing-over lt e))
  step_by (Some i) e lt then n room empty stays moves marks =
      let some : IsSome (slot_at now.slots slot) = ap is_some e in
      elim (cases_lt next slot) [
        | inl gap ↦ let r = moves some gap in subst (λ k. Closing before then (slot + 1) k) (sym r.0) (Closing-moves lt i e gap then r.1 room marks)
        | inr le ↦
            let r = stays some le in
            subst (λ v. Closing before v (slot + 1) n) (sym r.1) (subst (λ k. Closing before now (slot + 1) k) (sym r.0) (Closing-stays lt i e le))
      ]

  pub Closing-step : (lt : slot < length before.slots) (then : InterestsState) (n : ℕ) → then.room ≡ now.room →
      (slot_at now.slots slot ≡ None → (n ≡ next) × (then ≡ now)) →
      (IsSome (slot_at now.slots slot) → slot ≤ next → (n ≡ next + 1) × (then ≡ now)) →
      (IsSome (slot_at now.slots slot) → next < slot → (n ≡ next + 1) × (then.slots ≡ set (set now.slots slot None) next (slot_at now.slots slot))) →
      ((p : Interest → Bool) → AreMarked p now → AreMarked p then) → Closing before then (slot + 1) n
  Closing-step = step_by (slot_at now.slots slot) refl

  -- at the end the front alone holds something
  pub closed : length before.slots ≤ slot → now.slots ≡ map Some (held before.slots) ++ replicate h.gap None
  closed le =
      let e = h.end_is in
      let none = nil_from_length h.rest (omega arith) in
      let all : held before.slots ≡ h.front = h.list ∙ ap (λ m. h.front ++ held m) none ∙ append-nil h.front in
      h.slots_are ∙ ap (λ m. map Some h.front ++ (replicate h.gap None ++ m)) none ∙ ap (λ m. map Some h.front ++ m) (append-nil (replicate h.gap None)) ∙ ap (λ m. map Some m ++ replicate h.gap None) (sym all)

  pub closed_cut : length before.slots ≤ slot → take next now.slots ≡ map Some (held before.slots)
  closed_cut le =
      let e = h.end_is in
      let none = nil_from_length h.rest (omega arith) in
      let all : held before.slots ≡ h.front = h.list ∙ ap (λ m. h.front ++ held m) none ∙ append-nil h.front in
      ap (take next) (closed le) ∙ take_at (map Some (held before.slots)) (replicate h.gap None) next (length-map (held before.slots) Some ∙ ap length all ∙ h.next_is)

  pub closed_same : (le : length before.slots ≤ slot) (s : ℕ) → slot_at (take next now.slots) s ≡ slot_at now.slots s
  closed_same le s = ap (λ l. slot_at l s) (closed_cut le) ∙ sym (ap (λ l. slot_at l s) (closed le) ∙ slot-cut (map Some (held before.slots)) h.gap s)
