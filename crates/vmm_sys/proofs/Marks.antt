-- Rows of marks, and rows that mark the words of others.
use Rattle.vmm_sys.proofs.Prelude.{◌≡◌, ◌≢◌, ℕ, zero, suc, ◌+◌, ◌*◌, ◌/◌, ◌<◌, ◌≤◌, Bool, true, false, List, [], ◌∷◌, ◌++◌, length, set, replicate, min, max, Option, Some, None, refl, sym, ap, ◌∙◌, subst, inl, inr, arith, length-set, ◌⊎◌, ◌↔◌, MatchOption, Result, Ok, Err, OnOk, OnErr, slice_get, cases_lt, cases_eq, iff_false, get_or-set_same, length-append, length-replicate, append-nil, slice_get-get_or, IsMarked, IsFirstFrom, NoneFrom, NoneBelow, NoneInWordFrom, IsEmptyWord, MarksWords}
use Rattle.std.proofs.Math.Nat.{min-le_left, min-le_right, le-max_left, max-le}
use Rattle.std.specs.Option.{unwrap_or}

-- a position that isn't marked stays so
pub bare_set : (marks : List Bool) (n : ℕ) → ¬ IsMarked marks n → marks ≡ set marks n false
bare_set [] n bare = refl
bare_set (true ∷ marks) zero bare = absurd (bare refl)
bare_set (false ∷ marks) zero bare = refl
bare_set (mark ∷ marks) (suc n) bare = ap (λ l. mark ∷ l) (bare_set marks n bare)

-- one that is marked stays so
pub marked_set : (marks : List Bool) (n : ℕ) → IsMarked marks n → marks ≡ set marks n true
marked_set [] n is = refl
marked_set (mark ∷ marks) zero is = let u : mark ≡ true = cc in ap (λ b. b ∷ marks) u
marked_set (mark ∷ marks) (suc n) is = ap (λ l. mark ∷ l) (marked_set marks n is)

-- a mark is what a test says, so writing that changes nothing
pub same_set : (marks : List Bool) (n : ℕ) (test mark : Bool) → (test ≡ true) ↔ IsMarked marks n → test ≡ mark → marks ≡ set marks n mark
same_set marks n test true is e = marked_set marks n (is.0 e)
same_set marks n test false is e = bare_set marks n (iff_false is e)

-- a position is marked or not
cases_marked : (marks : List Bool) (n : ℕ) → IsMarked marks n ⊎ (¬ IsMarked marks n)
cases_marked [] n = inr (λ marked. cc)
cases_marked (true ∷ marks) zero = inl refl
cases_marked (false ∷ marks) zero = inr (λ marked. cc)
cases_marked (mark ∷ marks) (suc n) = cases_marked marks n

-- one position is written, and the others stay
IsMarked-set_same : (marks : List Bool) (n : ℕ) → n < length marks → IsMarked (set marks n true) n
IsMarked-set_same marks n within =
    slice_get-get_or (set marks n true) n true (omega (arith, length-set marks n true)) ∙ ap Some (get_or-set_same marks n true true within)

IsMarked-set_false : (marks : List Bool) (n : ℕ) → ¬ IsMarked (set marks n false) n
IsMarked-set_false [] n marked = cc
IsMarked-set_false (mark ∷ marks) zero marked = cc
IsMarked-set_false (mark ∷ marks) (suc n) marked = IsMarked-set_false marks n marked

slice_get-set_other : (marks : List Bool) (n m : ℕ) (mark : Bool) → m ≢ n → slice_get (set marks n mark) m ≡ slice_get marks m
slice_get-set_other [] n m mark other = refl
slice_get-set_other (x ∷ marks) zero zero mark other = absurd (other refl)
slice_get-set_other (x ∷ marks) zero (suc m) mark other = refl
slice_get-set_other (x ∷ marks) (suc n) zero mark other = refl
slice_get-set_other (x ∷ marks) (suc n) (suc m) mark other = slice_get-set_other marks n m mark (λ same. other (ap suc same))

IsMarked-set_other : (marks : List Bool) (n m : ℕ) (mark : Bool) → m ≢ n → IsMarked marks m → IsMarked (set marks n mark) m
IsMarked-set_other marks n m mark other marked = slice_get-set_other marks n m mark other ∙ marked

IsMarked-unset_other : (marks : List Bool) (n m : ℕ) (mark : Bool) → m ≢ n → IsMarked (set marks n mark) m → IsMarked marks m
IsMarked-unset_other marks n m mark other marked = sym (slice_get-set_other marks n m mark other) ∙ marked

-- the positions that a row gets longer by aren't marked
IsMarked-replicate : (k n : ℕ) → ¬ IsMarked (replicate k false) n
IsMarked-replicate zero n marked = cc
IsMarked-replicate (suc k) zero marked = cc
IsMarked-replicate (suc k) (suc n) marked = IsMarked-replicate k n marked

IsMarked-grown : (marks : List Bool) (k n : ℕ) → IsMarked marks n → IsMarked (marks ++ replicate k false) n
IsMarked-grown [] k n marked = cc
IsMarked-grown (mark ∷ marks) k zero marked = marked
IsMarked-grown (mark ∷ marks) k (suc n) marked = IsMarked-grown marks k n marked

IsMarked-ungrown : (marks : List Bool) (k n : ℕ) → IsMarked (marks ++ replicate k false) n → IsMarked marks n
IsMarked-ungrown [] k n marked = absurd (IsMarked-replicate k n marked)
IsMarked-ungrown (mark ∷ marks) k zero marked = marked
IsMarked-ungrown (mark ∷ marks) k (suc n) marked = IsMarked-ungrown marks k n marked

module _ (upper lower : List Bool) (kept : MarksWords upper lower) where
  -- a word with some mark is marked above
  above : (w : ℕ) → ¬ IsEmptyWord lower w → IsMarked upper w
  above w some =
      elim (cases_marked upper w) [
        | inl marked ↦ marked
        | inr none ↦ absurd (some (λ m here marked. none (subst (IsMarked upper) here (kept.marked m marked))))
      ]

  -- a mark is set in an empty word
  pub set_first : (n : ℕ) → n < length lower → MarksWords (set upper (n / 64) true) (set lower n true)
  set_first n within = record {
    room = omega (arith, length-set lower n true, length-set upper (n / 64) true, kept.room);
    marked = λ m marked. elim (cases_eq (m / 64) (n / 64)) [
      | inl same ↦ subst (IsMarked (set upper (n / 64) true)) (sym same) (IsMarked-set_same upper (n / 64) (let room = kept.room in omega arith))
      | inr away ↦ IsMarked-set_other upper (n / 64) (m / 64) true away (kept.marked m (IsMarked-unset_other lower n m true (λ e. away (ap (λ k. k / 64) e)) marked))
    ];
    others = λ w marked empty. elim (cases_eq w (n / 64)) [
      | inl same ↦ empty n (sym same) (IsMarked-set_same lower n within)
      | inr away ↦ kept.others w (IsMarked-unset_other upper (n / 64) w true away marked)
          (λ m here was. empty m here (IsMarked-set_other lower n m true (λ e. away (sym here ∙ ap (λ k. k / 64) e)) was))
    ];
  }

  -- a mark is set in a word that has some
  pub set_further : (n : ℕ) → n < length lower → ¬ IsEmptyWord lower (n / 64) → MarksWords upper (set lower n true)
  set_further n within some = record {
    room = omega (arith, length-set lower n true, kept.room);
    marked = λ m marked. elim (cases_eq m n) [
      | inl same ↦ subst (λ k. IsMarked upper (k / 64)) (sym same) (above (n / 64) some)
      | inr other ↦ kept.marked m (IsMarked-unset_other lower n m true other marked)
    ];
    others = λ w marked empty. kept.others w marked (λ m here was. elim (cases_eq m n) [
      | inl same ↦ empty n (sym (ap (λ k. k / 64) same) ∙ here) (IsMarked-set_same lower n within)
      | inr other ↦ empty m here (IsMarked-set_other lower n m true other was)
    ]);
  }

  -- the last mark of a word is cleared
  pub clear_last : (n : ℕ) → IsEmptyWord (set lower n false) (n / 64) → MarksWords (set upper (n / 64) false) (set lower n false)
  clear_last n none = record {
    room = omega (arith, length-set lower n false, length-set upper (n / 64) false, kept.room);
    marked = λ m marked. elim (cases_eq (m / 64) (n / 64)) [
      | inl same ↦ absurd (none m same marked)
      | inr away ↦ IsMarked-set_other upper (n / 64) (m / 64) false away (kept.marked m (IsMarked-unset_other lower n m false (λ e. away (ap (λ k. k / 64) e)) marked))
    ];
    others = λ w marked empty. elim (cases_eq w (n / 64)) [
      | inl same ↦ IsMarked-set_false upper (n / 64) (subst (IsMarked (set upper (n / 64) false)) same marked)
      | inr away ↦ kept.others w (IsMarked-unset_other upper (n / 64) w false away marked)
          (λ m here was. empty m here (IsMarked-set_other lower n m false (λ e. away (sym here ∙ ap (λ k. k / 64) e)) was))
    ];
  }

  -- a mark is cleared, and others are left in its word
  pub clear_further : (n : ℕ) → ¬ IsEmptyWord (set lower n false) (n / 64) → MarksWords upper (set lower n false)
  clear_further n some = record {
    room = omega (arith, length-set lower n false, kept.room);
    marked = λ m marked. elim (cases_eq m n) [
      | inl same ↦ absurd (IsMarked-set_false lower n (subst (IsMarked (set lower n false)) same marked))
      | inr other ↦ kept.marked m (IsMarked-unset_other lower n m false other marked)
    ];
    others = λ w marked empty. elim (cases_eq w (n / 64)) [
      | inl same ↦ some (subst (IsEmptyWord (set lower n false)) same empty)
      | inr away ↦ kept.others w marked (λ m here was. empty m here (IsMarked-set_other lower n m false (λ e. away (sym here ∙ ap (λ k. k / 64) e)) was))
    ];
  }

  -- a search from k on finds nothing in the rest of its word, and then the first one of the first word that is marked
  pub found : (k w : ℕ) (r : Option ℕ) → NoneInWordFrom lower k → IsFirstFrom upper (k / 64 + 1) w
      → MatchOption r (IsEmptyWord lower w) (λ n. IsFirstFrom lower (w * 64) n) → MatchOption r (NoneFrom lower k) (λ n. IsFirstFrom lower k n)
  found k w None rest word empty = absurd (kept.others w word.marked empty)
  found k w (Some n) rest word it =
      let after = word.from in
      let from = it.from in
      record {
        from = omega arith;
        marked = it.marked;
        first = λ m at before marked. elim (cases_eq (m / 64) (k / 64)) [
          | inl same ↦ rest m at same marked
          | inr away ↦ elim (cases_lt (m / 64) w) [
            | inl sooner ↦ word.first (m / 64) (let more : m / 64 ≢ k / 64 = away in omega arith) sooner (kept.marked m marked)
            | inr there ↦ it.first m (omega arith) before marked
          ]
        ];
      }

  -- both rows get longer by marks that aren't set
  pub grown : (upper' lower' : List Bool) (j k : ℕ) → upper' ≡ upper ++ replicate j false → lower' ≡ lower ++ replicate k false → length lower' ≤ 64 * length upper' → MarksWords upper' lower'
  grown upper' lower' j k more_upper more_lower room = record {
    room = room;
    marked = λ m marked. subst (λ ms. IsMarked ms (m / 64)) (sym more_upper) (IsMarked-grown upper j (m / 64) (kept.marked m (IsMarked-ungrown lower k m (subst (λ ms. IsMarked ms m) more_lower marked))));
    others = λ w marked empty. kept.others w (IsMarked-ungrown upper j w (subst (λ ms. IsMarked ms w) more_upper marked))
        (λ m here was. empty m here (subst (λ ms. IsMarked ms m) (sym more_lower) (IsMarked-grown lower k m was)));
  }

-- a row that got longer, or that was to
pub length-longer : (old new : List Bool) (k : ℕ) → new ≡ old ++ replicate k false → length new ≡ length old + k
length-longer old new k more = ap length more ∙ length-append old (replicate k false) ∙ ap (λ n. length old + n) (length-replicate k false)

pub longer_or_same : {A E : Type 0} (old new : List Bool) (k : ℕ) (r : Result A E) → OnOk r (new ≡ old ++ replicate k false) → OnErr r (new ≡ old)
    → (j : ℕ) × (j ≤ k) × (new ≡ old ++ replicate j false)
longer_or_same old new k (Ok u) more same = (k, omega arith, more)
longer_or_same old new k (Err e) more same = (0, omega arith, same ∙ sym (append-nil old))

-- what is known of the numbers below stays known

pub below-put : (marks : List Bool) (k n : ℕ) (mark : Bool) → NoneBelow marks k → NoneBelow (set marks n mark) (min k n)
below-put marks k n mark none m lt marked =
    let other : m ≢ n = λ e. let at_most = min-le_right k n in absurd (omega arith) in
    none m (let at_most = min-le_left k n in omega arith) (IsMarked-unset_other marks n m mark other marked)

pub below-grown : (old new : List Bool) (j k : ℕ) → new ≡ old ++ replicate j false → NoneBelow old k → NoneBelow new k
below-grown old new j k more none m lt marked = none m lt (IsMarked-ungrown old j m (subst (λ ms. IsMarked ms m) more marked))

-- a search from the lowest finds the first from any number on
pub first_from-lowest : (marks : List Bool) (k n : ℕ) → NoneBelow marks k → (found : Option ℕ) →
    MatchOption found (NoneFrom marks (max n k)) (λ f. IsFirstFrom marks (max n k) f) → MatchOption found (NoneFrom marks n) (λ f. IsFirstFrom marks n f)
first_from-lowest marks k n none None h = λ m ge marked. elim (cases_lt m k) [ inl lt ↦ none m lt marked | inr le ↦ h m (max-le ge le) marked ]
first_from-lowest marks k n none (Some f) h = record {
  from = (let least = le-max_left n k in let from = h.from in omega arith);
  marked = h.marked;
  first = λ m ge before marked. elim (cases_lt m k) [ inl lt ↦ none m lt marked | inr le ↦ h.first m (max-le ge le) before marked ];
}

-- and none is below the first
pub below-first : (marks : List Bool) (k : ℕ) → NoneBelow marks k → (found : Option ℕ) → MatchOption found (NoneFrom marks 0) (λ f. IsFirstFrom marks 0 f) → NoneBelow marks (unwrap_or found k)
below-first marks k none None h = none
below-first marks k none (Some f) h = λ m before marked. h.first m (omega arith) before marked
