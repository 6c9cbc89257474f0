-- Orders of dispatch: each report has one, and just one.
use Rattle.std.proofs.Common.{◌≡◌, ℕ, zero, suc, ◌<◌, ◌≤◌, ◌==◌, nat_lt, refl, sym, ap, subst, ◌∙◌, List, [], ◌∷◌, ◌++◌, Bool, true, false, cond, arith, length, get_or, AllPairs, filter, inl, inr, eq-eqb, eqb-true}
use Rattle.std.proofs.lemmas.Bool.{cases_lt, lt-ltb, le-ltb}
use Rattle.std.proofs.lemmas.Bool.Decides.{nat_tests}
use Rattle.std.proofs.lemmas.List.Elements.{filter-append}
use Rattle.std.specs.List.Sorted.{IsPermutation}
use Rattle.std.proofs.lemmas.List.Sorted.{IsPermutation-refl, IsPermutation-cons, IsPermutation-trans, IsPermutation-middle}
use Rattle.dispatch_tables.specs.Event.{Event}
use Rattle.dispatch_tables.specs.ClassOrder.{of_class, IsOrdered}

pub nil_cons : {A : Type 0} (x : A) (xs : List A) → [] ≡ x ∷ xs → ⊥
nil_cons x xs e = cc

pub head_is : {A : Type 0} (x y : A) (xs ys : List A) → x ∷ xs ≡ y ∷ ys → x ≡ y
head_is x y xs ys e = cc

pub tail_is : {A : Type 0} (x y : A) (xs ys : List A) → x ∷ xs ≡ y ∷ ys → xs ≡ ys
tail_is x y xs ys e = cc

cond_swap : (x : Event) (l : List Event) (p q : Event → Bool) (a b : Bool) (fp fq : List Event) → p x ≡ a → q x ≡ b → filter p fq ≡ l → filter q fp ≡ l → filter p (cond b (x ∷ fq) fq) ≡ filter q (cond a (x ∷ fp) fp)
cond_swap x l p q true true fp fq e f g h = ap (λ t. cond t (x ∷ filter p fq) (filter p fq)) e ∙ ap (λ l. x ∷ l) (g ∙ sym h) ∙ sym (ap (λ t. cond t (x ∷ filter q fp) (filter q fp)) f)
cond_swap x l p q true false fp fq e f g h = g ∙ sym h ∙ sym (ap (λ t. cond t (x ∷ filter q fp) (filter q fp)) f)
cond_swap x l p q false true fp fq e f g h = ap (λ t. cond t (x ∷ filter p fq) (filter p fq)) e ∙ g ∙ sym h
cond_swap x l p q false false fp fq e f g h = g ∙ sym h

pub filter_swap : (p q : Event → Bool) (xs : List Event) → filter p (filter q xs) ≡ filter q (filter p xs)
filter_swap p q [] = refl
filter_swap p q (x ∷ xs) = cond_swap x (filter q (filter p xs)) p q (p x) (q x) (filter p xs) (filter q xs) refl refl (filter_swap p q xs) refl

module _ (class : ℕ → ℕ) where
  -- each is of class n at most; of class n
  abbrev pub AreAtMost : ℕ → List Event → Type 0
  AreAtMost n [] = Unit {0}
  AreAtMost n (x ∷ xs) = (class x.fd ≤ n) × AreAtMost n xs

  abbrev AreOfClass : ℕ → List Event → Type 0
  AreOfClass n [] = Unit {0}
  AreOfClass n (x ∷ xs) = (class x.fd ≡ n) × AreOfClass n xs

  -- the classes don't rise
  abbrev pub Descends : List Event → Type 0
  Descends [] = Unit {0}
  Descends (x ∷ xs) = AreAtMost (class x.fd) xs × Descends xs

  at_most_from : (n : ℕ) (xs : List Event) → ((j : ℕ) (d : Event) → j < length xs → class (get_or xs j d).fd ≤ n) → AreAtMost n xs
  at_most_from n [] h = tt
  at_most_from n (x ∷ xs) h = (h 0 x (omega arith), at_most_from n xs (λ j d l. h (suc j) d (omega (arith, l))))

  at_most_to : (n : ℕ) (xs : List Event) → AreAtMost n xs → (j : ℕ) (d : Event) → j < length xs → class (get_or xs j d).fd ≤ n
  at_most_to n [] h j d l = absurd (omega (arith, l))
  at_most_to n (x ∷ xs) h zero d l = h.0
  at_most_to n (x ∷ xs) h (suc j) d l = at_most_to n xs h.1 j d (omega (arith, l))

  descends_from : (xs : List Event) → AllPairs (λ a b. class b.fd ≤ class a.fd) xs → Descends xs
  descends_from [] h = tt
  descends_from (x ∷ xs) h = (
    at_most_from (class x.fd) xs (λ j d l. h 0 (suc j) d (omega arith) (omega (arith, l))),
    descends_from xs (λ i j d a b. h (suc i) (suc j) d (omega (arith, a)) (omega (arith, b))),
  )

  pub descends_to : (xs : List Event) → Descends xs → AllPairs (λ a b. class b.fd ≤ class a.fd) xs
  descends_to [] h i j d a b = absurd (omega (arith, b))
  descends_to (x ∷ xs) h zero zero d a b = absurd (omega (arith, a))
  descends_to (x ∷ xs) h (suc i) zero d a b = absurd (omega (arith, a))
  descends_to (x ∷ xs) h zero (suc j) d a b = at_most_to (class x.fd) xs h.0 j d (omega (arith, b))
  descends_to (x ∷ xs) h (suc i) (suc j) d a b = descends_to xs h.1 i j d (omega (arith, a)) (omega (arith, b))

  at_most_more : (m n : ℕ) (xs : List Event) → m ≤ n → AreAtMost m xs → AreAtMost n xs
  at_most_more m n [] le h = tt
  at_most_more m n (x ∷ xs) le h = (omega (arith, le, h.0), at_most_more m n xs le h.1)

  -- an event before those of its class and of lower ones
  abbrev put : Event → List Event → List Event
  put e [] = e ∷ []
  put e (x ∷ xs) = cond (nat_lt (class e.fd) (class x.fd)) (x ∷ put e xs) (e ∷ x ∷ xs)

  abbrev pub by_class : List Event → List Event
  by_class [] = []
  by_class (e ∷ es) = put e (by_class es)

  put_at_most : (n : ℕ) (e : Event) (xs : List Event) → class e.fd ≤ n → AreAtMost n xs → AreAtMost n (put e xs)
  put_at_most n e [] le h = (le, tt)
  put_at_most n e (x ∷ xs) le h =
      elim (nat_lt (class e.fd) (class x.fd)) as (λ t. AreAtMost n (cond t (x ∷ put e xs) (e ∷ x ∷ xs))) [
        | true ↦ (h.0, put_at_most n e xs le h.1)
        | false ↦ (le, h)
      ]

  put_descends : (e : Event) (xs : List Event) → Descends xs → Descends (put e xs)
  put_descends e [] h = (tt, tt)
  put_descends e (x ∷ xs) h = elim (cases_lt (class e.fd) (class x.fd)) [
    | inl l ↦ subst (λ t. Descends (cond t (x ∷ put e xs) (e ∷ x ∷ xs))) (sym (lt-ltb (class e.fd) (class x.fd) l)) (put_at_most (class x.fd) e xs (omega (arith, l)) h.0, put_descends e xs h.1)
    | inr l ↦ subst (λ t. Descends (cond t (x ∷ put e xs) (e ∷ x ∷ xs))) (sym (le-ltb (class e.fd) (class x.fd) l)) ((l, at_most_more (class x.fd) (class e.fd) xs l h.0), h)
  ]

  swapped : (e x : Event) (l : List Event) (a b : Bool) → (a ≡ true → b ≡ true → ⊥) → cond a (x ∷ cond b (e ∷ l) l) (cond b (e ∷ l) l) ≡ cond b (e ∷ cond a (x ∷ l) l) (cond a (x ∷ l) l)
  swapped e x l true true apart = absurd (apart refl refl)
  swapped e x l true false apart = refl
  swapped e x l false b apart = refl

  put_class : (n : ℕ) (e : Event) (xs : List Event) → of_class class n (put e xs) ≡ of_class class n (e ∷ xs)
  put_class n e [] = refl
  put_class n e (x ∷ xs) = elim (cases_lt (class e.fd) (class x.fd)) [
    | inl l ↦
        ap (λ t. of_class class n (cond t (x ∷ put e xs) (e ∷ x ∷ xs))) (lt-ltb (class e.fd) (class x.fd) l)
        ∙ ap (λ es. cond (class x.fd == n) (x ∷ es) es) (put_class n e xs)
        ∙ swapped e x (of_class class n xs) (class x.fd == n) (class e.fd == n) (λ p q. let s = eqb-true (class x.fd) n p in let t = eqb-true (class e.fd) n q in omega (arith, l, s, t))
    | inr l ↦ ap (λ t. of_class class n (cond t (x ∷ put e xs) (e ∷ x ∷ xs))) (le-ltb (class e.fd) (class x.fd) l)
  ]

  by_class_descends : (xs : List Event) → Descends (by_class xs)
  by_class_descends [] = tt
  by_class_descends (x ∷ xs) = put_descends x (by_class xs) (by_class_descends xs)

  by_class_stable : (n : ℕ) (xs : List Event) → of_class class n (by_class xs) ≡ of_class class n xs
  by_class_stable n [] = refl
  by_class_stable n (x ∷ xs) = put_class n x (by_class xs) ∙ ap (λ es. cond (class x.fd == n) (x ∷ es) es) (by_class_stable n xs)

  -- each report has an order
  pub ordered_by_class : (report : List Event) → IsOrdered class report (by_class report)
  ordered_by_class report = record { descending = descends_to (by_class report) (by_class_descends report); stable = λ n. by_class_stable n report }

  pub lowest_descends : (xs : List Event) → AreAtMost 0 xs → Descends xs
  lowest_descends [] h = tt
  lowest_descends (x ∷ xs) h = (at_most_more 0 (class x.fd) xs (omega arith) h.1, lowest_descends xs h.1)

  put_permutation : (e : Event) (xs : List Event) → IsPermutation (e ∷ xs) (put e xs)
  put_permutation e [] = IsPermutation-refl (e ∷ [])
  put_permutation e (x ∷ xs) =
      elim (nat_lt (class e.fd) (class x.fd)) as (λ t. IsPermutation (e ∷ x ∷ xs) (cond t (x ∷ put e xs) (e ∷ x ∷ xs))) [
        | true ↦ IsPermutation-trans (e ∷ x ∷ xs) (x ∷ e ∷ xs) (x ∷ put e xs) (IsPermutation-middle (e ∷ []) x xs) (IsPermutation-cons x (e ∷ xs) (put e xs) (put_permutation e xs))
        | false ↦ IsPermutation-refl (e ∷ x ∷ xs)
      ]

  by_class_permutation : (xs : List Event) → IsPermutation xs (by_class xs)
  by_class_permutation [] = IsPermutation-refl []
  by_class_permutation (x ∷ xs) = IsPermutation-trans (x ∷ xs) (x ∷ by_class xs) (put x (by_class xs)) (IsPermutation-cons x xs (by_class xs) (by_class_permutation xs)) (put_permutation x (by_class xs))

  -- a report whose classes don't rise is in order
  pub ordered_already : (report : List Event) → Descends report → IsOrdered class report report
  ordered_already report h = record { descending = descends_to report h; stable = λ n. refl }

  not_same : (a b : ℕ) → a < b → (a == b) ≡ false
  not_same a b below = grind (arith, nat_tests, below)

  class_0 : (xs : List Event) → ((fd : ℕ) → class fd ≡ 0) → AreAtMost 0 xs
  class_0 [] lowest = tt
  class_0 (x ∷ xs) lowest = (omega (arith, lowest x.fd), class_0 xs lowest)

  pub ordered_in_class_0 : (report : List Event) → ((fd : ℕ) → class fd ≡ 0) → IsOrdered class report report
  ordered_in_class_0 report lowest = ordered_already report (lowest_descends report (class_0 report lowest))

  none_above : (m n : ℕ) (xs : List Event) → m < n → AreAtMost m xs → of_class class n xs ≡ []
  none_above m n [] below h = refl
  none_above m n (x ∷ xs) below h = ap (λ t. cond t (x ∷ of_class class n xs) (of_class class n xs)) (not_same (class x.fd) n (omega (arith, below, h.0))) ∙ none_above m n xs below h.1

  own_class : (x : Event) (xs : List Event) → of_class class (class x.fd) (x ∷ xs) ≡ x ∷ of_class class (class x.fd) xs
  own_class x xs = ap (λ t. cond t (x ∷ of_class class (class x.fd) xs) (of_class class (class x.fd) xs)) (eq-eqb (class x.fd) (class x.fd) refl)

  not_lower : (x y : Event) (xs ys : List Event) → AreAtMost (class x.fd) xs → ((n : ℕ) → of_class class n (x ∷ xs) ≡ of_class class n (y ∷ ys)) → class x.fd < class y.fd → ⊥
  not_lower x y xs ys h same below = nil_cons _ _ (sym (none_above (class x.fd) (class y.fd) (x ∷ xs) below (omega arith, h)) ∙ same (class y.fd) ∙ own_class y ys)

  of_tail : (n : ℕ) (x y : Event) (xs ys : List Event) → class x.fd ≡ class y.fd → of_class class n (x ∷ xs) ≡ of_class class n (y ∷ ys) → of_class class n xs ≡ of_class class n ys
  of_tail n x y xs ys alike same = of_test (class x.fd == n) refl
    where
      of_test : (t : Bool) → (class x.fd == n) ≡ t → of_class class n xs ≡ of_class class n ys
      of_test true e =
          tail_is x y (of_class class n xs) (of_class class n ys)
          (sym (ap (λ t. cond t (x ∷ of_class class n xs) (of_class class n xs)) e) ∙ same ∙ ap (λ t. cond t (y ∷ of_class class n ys) (of_class class n ys)) (ap (λ c. c == n) (sym alike) ∙ e))
      of_test false e =
          sym (ap (λ t. cond t (x ∷ of_class class n xs) (of_class class n xs)) e) ∙ same ∙ ap (λ t. cond t (y ∷ of_class class n ys) (of_class class n ys)) (ap (λ c. c == n) (sym alike) ∙ e)

  -- lists whose classes don't rise, with the same events of each class, are one list
  same_order : (xs ys : List Event) → Descends xs → Descends ys → ((n : ℕ) → of_class class n xs ≡ of_class class n ys) → xs ≡ ys
  same_order [] [] g h same = refl
  same_order [] (y ∷ ys) g h same = absurd (nil_cons _ _ (same (class y.fd) ∙ own_class y ys))
  same_order (x ∷ xs) [] g h same = absurd (nil_cons _ _ (sym (same (class x.fd)) ∙ own_class x xs))
  same_order (x ∷ xs) (y ∷ ys) g h same = elim (cases_lt (class x.fd) (class y.fd)) [
    | inl l ↦ absurd (not_lower x y xs ys g.0 same l)
    | inr l ↦ elim (cases_lt (class y.fd) (class x.fd)) [
      | inl m ↦ absurd (not_lower y x ys xs h.0 (λ n. sym (same n)) m)
      | inr m ↦
          let alike : class x.fd ≡ class y.fd = omega (arith, l, m) in
          let first = head_is x y _ _ (sym (own_class x xs) ∙ same (class x.fd) ∙ ap (λ n. of_class class n (y ∷ ys)) alike ∙ own_class y ys) in
          let rest = same_order xs ys g.1 h.1 (λ n. of_tail n x y xs ys alike (same n)) in
          (λ k. first k ∷ rest k)
    ]
  ]

  -- a report has just one order
  pub one_order : (report a b : List Event) → IsOrdered class report a → IsOrdered class report b → a ≡ b
  one_order report a b g h = same_order a b (descends_from a g.descending) (descends_from b h.descending) (λ n. g.stable n ∙ sym (h.stable n))

  -- and that has the events of the report
  pub ordered_permutation : (report ordered : List Event) → IsOrdered class report ordered → IsPermutation report ordered
  ordered_permutation report ordered h = subst (IsPermutation report) (one_order report (by_class report) ordered (ordered_by_class report) h) (by_class_permutation report)

  -- four passes are in order, where no class is above 3
  one_passes : (n : ℕ) (x : Event) (xs : List Event) (b : Bool) → (class x.fd == n) ≡ b → AreOfClass n xs → AreOfClass n (cond b (x ∷ xs) xs)
  one_passes n x xs true e h = (eqb-true (class x.fd) n e, h)
  one_passes n x xs false e h = h

  class_passes : (n : ℕ) (xs : List Event) → AreOfClass n (of_class class n xs)
  class_passes n [] = tt
  class_passes n (x ∷ xs) = one_passes n x (of_class class n xs) (class x.fd == n) refl (class_passes n xs)

  class_at_most : (m n : ℕ) (xs : List Event) → m ≤ n → AreOfClass m xs → AreAtMost n xs
  class_at_most m n [] le h = tt
  class_at_most m n (x ∷ xs) le h = (omega (arith, le, h.0), class_at_most m n xs le h.1)

  at_most_append : (n : ℕ) (xs ys : List Event) → AreAtMost n xs → AreAtMost n ys → AreAtMost n (xs ++ ys)
  at_most_append n [] ys g h = h
  at_most_append n (x ∷ xs) ys g h = (g.0, at_most_append n xs ys g.1 h)

  descends_append : (n : ℕ) (xs ys : List Event) → AreOfClass n xs → AreAtMost n ys → Descends ys → Descends (xs ++ ys)
  descends_append n [] ys g le h = h
  descends_append n (x ∷ xs) ys g le h =
      (subst (λ m. AreAtMost m (xs ++ ys)) (sym g.0) (at_most_append n xs ys (class_at_most n n xs (omega arith) g.1) le), descends_append n xs ys g.1 le h)

  again : (n : ℕ) (xs : List Event) → AreOfClass n xs → of_class class n xs ≡ xs
  again n [] h = refl
  again n (x ∷ xs) h = ap (λ t. cond t (x ∷ of_class class n xs) (of_class class n xs)) (eq-eqb (class x.fd) n h.0) ∙ ap (λ l. x ∷ l) (again n xs h.1)

  none_of : (m n : ℕ) (xs : List Event) → (m == n) ≡ false → AreOfClass m xs → of_class class n xs ≡ []
  none_of m n [] differ h = refl
  none_of m n (x ∷ xs) differ h = ap (λ t. cond t (x ∷ of_class class n xs) (of_class class n xs)) (ap (λ c. c == n) h.0 ∙ differ) ∙ none_of m n xs differ h.1

  -- what a pass of class m gives of class n
  abbrev passed : ℕ → ℕ → List Event → List Event
  passed m n xs = cond (m == n) (of_class class n xs) []

  pass : (m n : ℕ) (xs : List Event) → of_class class n (of_class class m xs) ≡ passed m n xs
  pass m n xs = of_test (m == n) refl
    where
      of_test : (t : Bool) → (m == n) ≡ t → of_class class n (of_class class m xs) ≡ cond (m == n) (of_class class n xs) []
      of_test true e =
          ap (λ k. of_class class n (of_class class k xs)) (eqb-true m n e) ∙ again n (of_class class n xs) (class_passes n xs) ∙ sym (ap (λ t. cond t (of_class class n xs) []) e)
      of_test false e = none_of m n (of_class class m xs) e (class_passes m xs) ∙ sym (ap (λ t. cond t (of_class class n xs) []) e)

  append_none : (xs : List Event) → xs ++ [] ≡ xs
  append_none [] = refl
  append_none (x ∷ xs) = ap (λ l. x ∷ l) (append_none xs)

  unpassed : (m n : ℕ) (xs : List Event) → m < n → passed m n xs ≡ []
  unpassed m n xs below = ap (λ t. cond t (of_class class n xs) []) (not_same m n below)

  all_passed : (n : ℕ) (xs : List Event) → AreAtMost 3 xs → passed 3 n xs ++ (passed 2 n xs ++ (passed 1 n xs ++ passed 0 n xs)) ≡ of_class class n xs
  all_passed zero xs h = refl
  all_passed (suc zero) xs h = append_none _
  all_passed (suc (suc zero)) xs h = append_none _
  all_passed (suc (suc (suc zero))) xs h = append_none _
  all_passed (suc (suc (suc (suc n)))) xs h =
      let m = suc (suc (suc (suc n))) in
      (λ k. unpassed 3 m xs (omega arith) k ++ (unpassed 2 m xs (omega arith) k ++ (unpassed 1 m xs (omega arith) k ++ unpassed 0 m xs (omega arith) k))) ∙ sym (none_above 3 m xs (omega arith) h)

  abbrev pub passes : List Event → List Event
  passes xs = of_class class 3 xs ++ (of_class class 2 xs ++ (of_class class 1 xs ++ of_class class 0 xs))

  passes_stable : (n : ℕ) (xs : List Event) → AreAtMost 3 xs → of_class class n (passes xs) ≡ of_class class n xs
  passes_stable n xs h =
      filter-append (λ e. class e.fd == n) (of_class class 3 xs) (of_class class 2 xs ++ (of_class class 1 xs ++ of_class class 0 xs))
      ∙ ap (λ l. of_class class n (of_class class 3 xs) ++ l) (filter-append (λ e. class e.fd == n) (of_class class 2 xs) (of_class class 1 xs ++ of_class class 0 xs))
      ∙ ap (λ l. of_class class n (of_class class 3 xs) ++ (of_class class n (of_class class 2 xs) ++ l)) (filter-append (λ e. class e.fd == n) (of_class class 1 xs) (of_class class 0 xs))
      ∙ (λ k. pass 3 n xs k ++ (pass 2 n xs k ++ (pass 1 n xs k ++ pass 0 n xs k)))
      ∙ all_passed n xs h

  passes_descend : (xs : List Event) → Descends (passes xs)
  passes_descend xs =
      let of : (m n : ℕ) → m ≤ n → AreAtMost n (of_class class m xs) = λ m n le. class_at_most m n (of_class class m xs) le (class_passes m xs) in
      let lowest : Descends (of_class class 0 xs) = subst Descends (append_none _) (descends_append 0 (of_class class 0 xs) [] (class_passes 0 xs) tt tt) in
      let low = descends_append 1 (of_class class 1 xs) (of_class class 0 xs) (class_passes 1 xs) (of 0 1 (omega arith)) lowest in
      let high = descends_append 2 (of_class class 2 xs) _ (class_passes 2 xs) (at_most_append 2 (of_class class 1 xs) (of_class class 0 xs) (of 1 2 (omega arith)) (of 0 2 (omega arith))) low in
      descends_append 3 (of_class class 3 xs) _ (class_passes 3 xs)
      (at_most_append 3 (of_class class 2 xs) _ (of 2 3 (omega arith)) (at_most_append 3 (of_class class 1 xs) (of_class class 0 xs) (of 1 3 (omega arith)) (of 0 3 (omega arith)))) high

  pub ordered_by_passes : (report : List Event) → AreAtMost 3 report → IsOrdered class report (passes report)
  ordered_by_passes report h = record { descending = descends_to (passes report) (passes_descend report); stable = λ n. passes_stable n report h }

-- other classes, which are the same where a test is passed
module _ (class own : ℕ → ℕ) (mine : ℕ → Bool) (alike : (fd : ℕ) → mine fd ≡ true → own fd ≡ class fd) where
  abbrev kept : List Event → List Event
  kept xs = filter (λ e. mine e.fd) xs

  one_kept : (n : ℕ) (x : Event) (xs : List Event) (b : Bool) → mine x.fd ≡ b → of_class own n xs ≡ of_class class n xs → of_class own n (cond b (x ∷ xs) xs) ≡ of_class class n (cond b (x ∷ xs) xs)
  one_kept n x xs true e same = (λ k. cond (alike x.fd e k == n) (x ∷ same k) (same k))
  one_kept n x xs false e same = same

  kept_class : (n : ℕ) (xs : List Event) → of_class own n (kept xs) ≡ of_class class n (kept xs)
  kept_class n [] = refl
  kept_class n (x ∷ xs) = one_kept n x (kept xs) (mine x.fd) refl (kept_class n xs)

  one_at_most : (n : ℕ) (x : Event) (xs : List Event) (b : Bool) → mine x.fd ≡ b → class x.fd ≤ n → AreAtMost own n xs → AreAtMost own n (cond b (x ∷ xs) xs)
  one_at_most n x xs true e le h = (subst (λ c. c ≤ n) (sym (alike x.fd e)) le, h)
  one_at_most n x xs false e le h = h

  at_most_kept : (n : ℕ) (xs : List Event) → AreAtMost class n xs → AreAtMost own n (kept xs)
  at_most_kept n [] h = tt
  at_most_kept n (x ∷ xs) h = one_at_most n x (kept xs) (mine x.fd) refl h.0 (at_most_kept n xs h.1)

  one_descends : (x : Event) (xs : List Event) (b : Bool) → mine x.fd ≡ b → AreAtMost own (class x.fd) xs → Descends own xs → Descends own (cond b (x ∷ xs) xs)
  one_descends x xs true e le h = (subst (λ c. AreAtMost own c xs) (sym (alike x.fd e)) le, h)
  one_descends x xs false e le h = h

  descends_kept : (xs : List Event) → Descends class xs → Descends own (kept xs)
  descends_kept [] h = tt
  descends_kept (x ∷ xs) h = one_descends x (kept xs) (mine x.fd) refl (at_most_kept (class x.fd) xs h.0) (descends_kept xs h.1)

module _ (class own : ℕ → ℕ) (mine : ℕ → Bool) (alike : (fd : ℕ) → mine fd ≡ true → own fd ≡ class fd) where
  -- those that pass the test come in one order by both
  pub one_order_of_mine : (report a b : List Event) → IsOrdered class report a → IsOrdered own report b → filter (λ e. mine e.fd) b ≡ filter (λ e. mine e.fd) a
  one_order_of_mine report a b g h =
      same_order own (filter (λ e. mine e.fd) b) (filter (λ e. mine e.fd) a)
      (descends_kept own own mine (λ fd e. refl) b (descends_from own b h.descending))
      (descends_kept class own mine alike a (descends_from class a g.descending))
      (λ n.
      let by_own : Event → Bool = λ e. own e.fd == n in
      let by_class_n : Event → Bool = λ e. class e.fd == n in
      let by_mine : Event → Bool = λ e. mine e.fd in
      filter_swap by_own by_mine b
      ∙ ap (filter by_mine) (h.stable n)
      ∙ filter_swap by_mine by_own report
      ∙ kept_class class own mine alike n report
      ∙ filter_swap by_class_n by_mine report
      ∙ ap (filter by_mine) (sym (g.stable n))
      ∙ filter_swap by_mine by_class_n a
      ∙ sym (kept_class class own mine alike n a))
