-- A walk over a list that moves the first elements that pass a test to the back, and writes what f gives of them into another.
use Rattle.vmm_sys.proofs.Prelude.{◌≡◌, ℕ, zero, suc, ◌+◌, ◌-◌, ◌<◌, ◌≤◌, Bool, true, false, not, cond, List, [], ◌∷◌, ◌++◌, length, take, drop, set, map, filter, get_or, refl, sym, ap, ◌∙◌, arith, append_assoc, Option, Some, None, slice_get, find, append-nil, drop_more, set_at, length_push, map-append, length-map, without_first}
use Rattle.std.proofs.Math.Seq.{take-append-add, take-nil}
use Rattle.std.proofs.lemmas.List.Elements.{filter-append}

-- the lists xs and ys when the walk began, zs and ws now that n elements were moved: those of `looked` were looked at, and `next` is the first of the rest
pub record Picked {A B : Type 0} (p : A → Bool) (f : A → B) (xs : List A) (ys : List B) (zs : List A) (ws : List B) (n : ℕ) (next : Option A) : Type 0 where
  pub looked : List A
  pub rest : List A
  pub whole : xs ≡ looked ++ rest
  pub list : zs ≡ filter (λ x. not (p x)) looked ++ (rest ++ filter p looked)
  pub buffer : ws ≡ map f (filter p looked) ++ drop n ys
  pub count_is : length (filter p looked) ≡ n
  pub next_is : next ≡ slice_get rest 0

-- y is the first element that passes
pub record Found {A : Type 0} (p : A → Bool) (xs : List A) (y : A) : Type 0 where
  pub before : List A
  pub behind : List A
  pub whole : xs ≡ before ++ y ∷ behind
  pub others : (filter p before ≡ []) × (filter (λ x. not (p x)) before ≡ before)
  pub passes : p y ≡ true

pub head_by : {A : Type 0} (ys : List A) (x : A) → slice_get ys 0 ≡ Some x → (rest : List A) × (ys ≡ x ∷ rest)
head_by [] x e = absurd cc
head_by (y ∷ ys) x e = let u : y ≡ x = cc in (ys, ap (λ v. v ∷ ys) u)

pub none_by : {A : Type 0} (ys : List A) → slice_get ys 0 ≡ None → ys ≡ []
none_by [] e = refl
none_by (y ∷ ys) e = absurd cc

module _ {A : Type 0} (p : A → Bool) where
  abbrev pub fails : A → Bool
  fails x = not (p x)

  found-cons : (b : Bool) (x : A) (xs : List A) (y : A) → p x ≡ b → find p (x ∷ xs) ≡ Some y → (find p xs ≡ Some y → Found p xs y) → Found p (x ∷ xs) y
  found-cons true x xs y e h ih =
      let s : Some x ≡ Some y = simp e at h in
      let u : x ≡ y = cc in
      record { before = []; behind = xs; whole = ap (λ z. z ∷ xs) u; others = (refl, refl); passes = ap p (sym u) ∙ e }
  found-cons false x xs y e h ih =
      let r = ih (simp e at h) in
      record { before = x ∷ r.before; behind = r.behind; whole = ap (λ l. x ∷ l) r.whole; others = (simp e r.others.0, simp e (ap (λ l. x ∷ l) r.others.1)); passes = r.passes }

  -- what `find` gives is that element
  pub found : (xs : List A) (y : A) → find p xs ≡ Some y → Found p xs y
  found [] y e = absurd cc
  found (x ∷ xs) y e = found-cons (p x) x xs y refl e (found xs y)

  -- no element passes
  abbrev NonePasses : List A → Type 0
  NonePasses xs = (filter p xs ≡ []) × ((c : ℕ) → without_first p xs c ≡ xs)

  without_first-nil : (c : ℕ) → without_first p [] c ≡ []
  without_first-nil zero = refl
  without_first-nil (suc c) = refl

  without_first-zero : (xs : List A) → without_first p xs 0 ≡ xs
  without_first-zero [] = refl
  without_first-zero (x ∷ xs) = refl

  -- an element in front that doesn't pass stays
  without_first-skip : (x : A) (xs : List A) (c : ℕ) → p x ≡ false → without_first p (x ∷ xs) c ≡ x ∷ without_first p xs c
  without_first-skip x xs zero e = ap (λ l. x ∷ l) (sym (without_first-zero xs))
  without_first-skip x xs (suc c) e = rw e refl

  none-cons : (b : Bool) (x : A) (xs : List A) → p x ≡ b → find p (x ∷ xs) ≡ None → (find p xs ≡ None → NonePasses xs) → NonePasses (x ∷ xs)
  none-cons true x xs e h ih = let s : Some x ≡ None = simp e at h in absurd cc
  none-cons false x xs e h ih =
      let r = ih (simp e at h) in
      (simp e r.0, λ c. without_first-skip x xs c e ∙ ap (λ l. x ∷ l) (r.1 c))

  none_passes : (xs : List A) → find p xs ≡ None → NonePasses xs
  none_passes [] e = (refl, without_first-nil)
  none_passes (x ∷ xs) e = none-cons (p x) x xs refl e (none_passes xs)

  -- with room for those of a front part and c more, none of that part stays
  without_first-over_by : (b : Bool) (x : A) (fs rest : List A) (m c : ℕ) → p x ≡ b → m ≡ length (filter p (x ∷ fs)) + c →
      ((k : ℕ) → k ≡ length (filter p fs) + c → without_first p (fs ++ rest) k ≡ filter fails fs ++ without_first p rest c) →
      without_first p (x ∷ (fs ++ rest)) m ≡ filter fails (x ∷ fs) ++ without_first p rest c
  without_first-over_by true x fs rest zero c e h ih =
      let l : length (filter p (x ∷ fs)) ≡ suc (length (filter p fs)) = simp e in
      absurd (omega arith)
  without_first-over_by true x fs rest (suc m) c e h ih =
      let l : length (filter p (x ∷ fs)) ≡ suc (length (filter p fs)) = simp e in
      simp e (ih m (omega arith))
  without_first-over_by false x fs rest m c e h ih =
      let l : length (filter p (x ∷ fs)) ≡ length (filter p fs) = simp e in
      let r : filter fails (x ∷ fs) ≡ x ∷ filter fails fs = simp e in
      without_first-skip x (fs ++ rest) m e ∙ ap (λ l. x ∷ l) (ih m (omega arith)) ∙ ap (λ l. l ++ without_first p rest c) (sym r)

  without_first-over : (fs rest : List A) (m c : ℕ) → m ≡ length (filter p fs) + c → without_first p (fs ++ rest) m ≡ filter fails fs ++ without_first p rest c
  without_first-over [] rest m c e = ap (without_first p rest) (omega (arith, e))
  without_first-over (x ∷ fs) rest m c e = without_first-over_by (p x) x fs rest m c refl e (λ k q. without_first-over fs rest k c q)

module _ {A B : Type 0} (p : A → Bool) (f : A → B) {xs : List A} {ys : List B} where
  module _ {zs : List A} {ws : List B} {n : ℕ} {next : Option A} (h : Picked p f xs ys zs ws n next) where
    abbrev pub passed : List A
    passed = filter (fails p) h.looked

    abbrev pub moved : List A
    moved = filter p h.looked

    -- the next element in the list as it is
    pub here : (x : A) (rest : List A) → h.rest ≡ x ∷ rest → zs ≡ passed ++ x ∷ (rest ++ moved)
    here x rest e = h.list ∙ ap (λ l. passed ++ (l ++ moved)) e

    module _ (y : A) (r : Found p h.rest y) where
      -- what stands before the one that was found, and behind it
      abbrev pub front : List A
      front = passed ++ r.before

      abbrev pub behind : List A
      behind = r.behind ++ moved

      pub found_here : zs ≡ front ++ y ∷ behind
      found_here =
          h.list ∙ ap (λ l. passed ++ (l ++ moved)) r.whole ∙ ap (λ l. passed ++ l) (append_assoc r.before (y ∷ r.behind) moved)
          ∙ sym (append_assoc passed r.before (y ∷ behind))

      -- it is put last and written
      pub Picked-more : (us : List A) (vs : List B) (following : Option A) → n < length ys → us ≡ (front ++ behind) ++ y ∷ [] → vs ≡ set ws n (f y) → following ≡ slice_get r.behind 0 → Picked p f xs ys us vs (n + 1) following
      Picked-more us vs following room u v m =
          let passes = r.passes in
          let now : List A = h.looked ++ (r.before ++ y ∷ []) in
          let one : filter p (r.before ++ y ∷ []) ≡ y ∷ [] = filter-append p r.before (y ∷ []) ∙ ap (λ l. l ++ filter p (y ∷ [])) r.others.0 ∙ ap (λ b. cond b (y ∷ []) []) passes in
          let more : filter p now ≡ moved ++ y ∷ [] = filter-append p h.looked (r.before ++ y ∷ []) ∙ ap (λ l. moved ++ l) one in
          let none : filter (fails p) (r.before ++ y ∷ []) ≡ r.before = filter-append (fails p) r.before (y ∷ []) ∙ ap (λ l. l ++ filter (fails p) (y ∷ [])) r.others.1 ∙ ap (λ b. r.before ++ cond (not b) (y ∷ []) []) passes ∙ append-nil r.before in
          let same : filter (fails p) now ≡ front = filter-append (fails p) h.looked (r.before ++ y ∷ []) ∙ ap (λ l. passed ++ l) none in
          let b : ws ≡ map f moved ++ (get_or ys n (f y) ∷ drop (n + 1) ys) = rw (drop_more ys n (f y) room) at h.buffer in
          record {
            looked = now;
            rest = r.behind;
            whole = h.whole ∙ ap (λ l. h.looked ++ l) (r.whole ∙ sym (append_assoc r.before (y ∷ []) r.behind)) ∙ sym (append_assoc h.looked (r.before ++ y ∷ []) r.behind);
            list = rw (same, more) (u ∙ append_assoc front behind (y ∷ []) ∙ ap (λ l. front ++ l) (append_assoc r.behind moved (y ∷ [])));
            buffer = rw (v, more) (rw map-append (ap (λ l. set l n (f y)) b ∙ set_at (map f moved) (get_or ys n (f y)) (drop (n + 1) ys) (f y) n (length-map moved f ∙ h.count_is) ∙ sym (append_assoc (map f moved) (f y ∷ []) (drop (n + 1) ys))));
            count_is = rw more (length_push _ y ∙ ap (λ j. j + 1) h.count_is);
            next_is = m;
          }

    -- what the walk is to do: the first ones that pass are moved and written, as many as there is room for
    abbrev pub IsDone : Type 0
    IsDone = (n ≡ length (take (length ys) (filter p xs))) × (zs ≡ without_first p xs (length ys) ++ take (length ys) (filter p xs)) × (ws ≡ map f (take (length ys) (filter p xs)) ++ drop n ys)

    done_by : (c : ℕ) → length ys ≡ n + c → take c (filter p h.rest) ≡ [] → without_first p h.rest c ≡ h.rest → IsDone
    done_by c room none stays =
        let m : length ys ≡ length moved + c = room ∙ ap (λ j. j + c) (sym h.count_is) in
        let chosen : take (length ys) (filter p xs) ≡ moved =
        ap (λ l. take (length ys) (filter p l)) h.whole ∙ ap (take (length ys)) (filter-append p h.looked h.rest) ∙ ap (λ j. take j (moved ++ filter p h.rest)) m
        ∙ take-append-add moved (filter p h.rest) c ∙ ap (λ l. moved ++ l) none ∙ append-nil moved in
        let kept : without_first p xs (length ys) ≡ passed ++ h.rest =
        ap (λ l. without_first p l (length ys)) h.whole ∙ without_first-over p h.looked h.rest (length ys) c m ∙ ap (λ l. passed ++ l) stays in
        (rw chosen (sym h.count_is), rw (chosen, kept) (h.list ∙ sym (append_assoc passed h.rest moved)), rw chosen h.buffer)

    -- where the room is over, and where none of the rest passes
    pub done_by_room : n ≡ length ys → IsDone
    done_by_room e = done_by 0 (omega (arith, e)) refl (without_first-zero p h.rest)

    pub done_by_none : n ≤ length ys → find p h.rest ≡ None → IsDone
    done_by_none le e =
        let r = none_passes p h.rest e in
        done_by (length ys - n) (omega (arith, le)) (rw r.0 (take-nil (length ys - n))) (r.1 (length ys - n))
