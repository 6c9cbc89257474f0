-- A settled tree: its root is the first of its leaves, and a write is settled upwards.
use Rattle.std.proofs.Common.{ℕ, zero, suc, ◌+◌, ◌*◌, ◌/◌, ◌-◌, ◌≡◌, ◌≢◌, ◌<◌, ◌≤◌, ◌⊎◌, inl, inr, false, List, length, get_or, set, drop, Option, Some, None, arith, sym, refl, subst, ◌∙◌}
use Rattle.std.specs.List.{All, Contains}
use Rattle.std.specs.Option.{IfSome}
use Rattle.std.proofs.lemmas.Bool.{cases_lt, cases_eq}
use Rattle.std.proofs.lemmas.List.{length-drop, get_or-drop, get_or_default, get_or-set_other, get_or-set_same, length-set}
use Rattle.std.proofs.lemmas.List.Elements.{All-from_get_or}
use Rattle.timerfd.specs.DueTree.{earlier, node, IsSettledBut}
use Rattle.timerfd.specs.Dues.{is_due, IsFirstOf}

-- this time isn't later than the other; `None` is never, later than all
abbrev pub NotLater : Option ℕ → Option ℕ → Type 0
NotLater time None = Unit {0}
NotLater None (Some other) = ⊥
NotLater (Some time) (Some other) = time ≤ other

NotLater-refl : (a : Option ℕ) → NotLater a a
NotLater-refl None = tt
NotLater-refl (Some a) = omega arith

NotLater-trans : (a b c : Option ℕ) → NotLater a b → NotLater b c → NotLater a c
NotLater-trans a b None p q = tt
NotLater-trans a None (Some c) p q = absurd q
NotLater-trans None (Some b) (Some c) p q = absurd p
NotLater-trans (Some a) (Some b) (Some c) p q = omega arith

earlier_first : (a b : Option ℕ) → NotLater (earlier a b) a
earlier_first None b = tt
earlier_first (Some a) None = omega arith
earlier_first (Some a) (Some b) = omega arith

earlier_second : (a b : Option ℕ) → NotLater (earlier a b) b
earlier_second None b = NotLater-refl b
earlier_second (Some a) None = tt
earlier_second (Some a) (Some b) = omega arith

-- the earlier of two is one of them
earlier_is : (a b : Option ℕ) (time : ℕ) → earlier a b ≡ Some time → (a ≡ Some time) ⊎ (b ≡ Some time)
earlier_is None b time e = inr e
earlier_is (Some a) None time e = inl e
earlier_is (Some a) (Some b) time e = grind arith

module _ (tree : List (Option ℕ)) (half : ℕ) (even : length tree ≡ 2 * half) (settled : IsSettledBut 0 tree) where
  left : (n : ℕ) → 0 < n → 2 * n + 1 < length tree → NotLater (node tree n) (node tree (2 * n))
  left n above within = rw (settled n above within (omega arith)) (earlier_first (node tree (2 * n)) (node tree (2 * n + 1)))

  right : (n : ℕ) → 0 < n → 2 * n + 1 < length tree → NotLater (node tree n) (node tree (2 * n + 1))
  right n above within = rw (settled n above within (omega arith)) (earlier_second (node tree (2 * n)) (node tree (2 * n + 1)))

  -- the root isn't later than any node
  root_first : (fuel n : ℕ) → n ≤ fuel → 0 < n → n < length tree → NotLater (node tree 1) (node tree n)
  root_first zero n few above within = absurd (omega arith)
  root_first (suc fuel) n few above within =
      let P : ℕ → Type 0 = λ (k : ℕ). NotLater (node tree 1) (node tree k) in
      elim (cases_lt 1 n) [
        | inr one ↦ let e : 1 ≡ n = omega arith in subst P e (NotLater-refl (node tree 1))
        | inl more ↦
            let parent : NotLater (node tree 1) (node tree (n / 2)) = root_first fuel (n / 2) (omega arith) (omega arith) (omega arith) in
            elim (cases_eq n (2 * (n / 2))) [
              | inl e ↦ subst P (sym e) (NotLater-trans (node tree 1) (node tree (n / 2)) (node tree (2 * (n / 2))) parent (left (n / 2) (omega arith) (omega arith)))
              | inr ne ↦
                  let e : 2 * (n / 2) + 1 ≡ n = omega arith in
                  subst P e (NotLater-trans (node tree 1) (node tree (n / 2)) (node tree (2 * (n / 2) + 1)) parent (right (n / 2) (omega arith) (omega arith)))
            ]
      ]

  -- what a node has, one of the leaves below it has
  leaf_of : (fuel n time : ℕ) → half ≤ fuel + n → 0 < n → n < length tree → node tree n ≡ Some time → (k : ℕ) × (half ≤ k) × (k < length tree) × (node tree k ≡ Some time)
  leaf_of zero n time few above within is = (n, omega arith, within, is)
  leaf_of (suc fuel) n time few above within is =
      elim (cases_lt n half) [
        | inr leaf ↦ (n, leaf, within, is)
        | inl inner ↦
            elim (earlier_is (node tree (2 * n)) (node tree (2 * n + 1)) time (sym (settled n above (omega arith) (omega arith)) ∙ is)) [
              | inl e ↦ leaf_of fuel (2 * n) time (omega arith) (omega arith) (omega arith) e
              | inr e ↦ leaf_of fuel (2 * n + 1) time (omega arith) (omega arith) (omega arith) e
            ]
      ]

  leaf : (k : ℕ) → k < length (drop half tree) → get_or (drop half tree) k None ≡ node tree (half + k)
  leaf k within = get_or-drop half tree k None

  -- the root isn't later than any leaf
  root_first_leaf : 0 < half → (k : ℕ) → k < length (drop half tree) → NotLater (node tree 1) (get_or (drop half tree) k None)
  root_first_leaf some k within =
      let short : k < length tree - half = rw (length-drop half tree) at within in
      rw (leaf k within) (root_first (half + k) (half + k) (omega arith) (omega arith) (omega arith))

none_first : (time : Option ℕ) → NotLater None time → time ≡ None
none_first None p = refl
none_first (Some time) p = absurd p

some_first : (first : ℕ) (time : Option ℕ) → NotLater (Some first) time → IfSome time (λ other. first ≤ other)
some_first first None p = tt
some_first first (Some time) p = p

first_none : (times : List (Option ℕ)) → ((k : ℕ) → k < length times → NotLater None (get_or times k None)) → IsFirstOf times None
first_none times first = All-from_get_or (λ time. time ≡ None) times None (λ k within. none_first (get_or times k None) (first k within))

first_some : (times : List (Option ℕ)) (time : ℕ) → ((k : ℕ) → k < length times → NotLater (Some time) (get_or times k None)) → Contains times (Some time) → IsFirstOf times (Some time)
first_some times time first has = (has, All-from_get_or (λ other. IfSome other (λ other. time ≤ other)) times None (λ k within. some_first time (get_or times k None) (first k within)))

first_from : (times : List (Option ℕ)) (time : Option ℕ) → ((k : ℕ) → k < length times → NotLater time (get_or times k None))
    → ((first : ℕ) → time ≡ Some first → Contains times (Some first)) → IsFirstOf times time
first_from times None first has = first_none times first
first_from times (Some time) first has = first_some times time first (has time refl)

leaf_contained : (tree : List (Option ℕ)) (half first k : ℕ) → half ≤ k → k < length tree → node tree k ≡ Some first → Contains (drop half tree) (Some first)
leaf_contained tree half first k below within is =
    let short : k - half < length (drop half tree) = rw (length-drop half tree) (omega arith) in
    let same : half + (k - half) ≡ k = omega arith in
    let at : get_or (drop half tree) (k - half) None ≡ Some first = rw (get_or-drop half tree (k - half) None, same) is in
    (k - half, short, get_or_default (drop half tree) (k - half) (Some first) None short ∙ at)

-- the root is the first of the leaves
pub root_is_first : (tree : List (Option ℕ)) (half : ℕ) → length tree ≡ 2 * half → IsSettledBut 0 tree → 0 < half → IsFirstOf (drop half tree) (node tree 1)
root_is_first tree half even settled some =
    first_from (drop half tree) (node tree 1) (root_first_leaf tree half even settled some)
    (λ first is.
    let (k, below, within, e) = leaf_of tree half even settled half 1 first (omega arith) (omega arith) (omega arith) is in
    leaf_contained tree half first k below within e)

not_due : (now : ℕ) (first other : Option ℕ) → NotLater first other → is_due now first ≡ false → is_due now other ≡ false
not_due now first None p none = refl
not_due now None (Some other) p none = absurd p
not_due now (Some first) (Some other) p none = grind arith

-- where the root isn't due, no leaf is
pub root_not_due : (tree : List (Option ℕ)) (half now : ℕ) → length tree ≡ 2 * half → IsSettledBut 0 tree → 0 < half → is_due now (node tree 1) ≡ false → All (λ time. is_due now time ≡ false) (drop half tree)
root_not_due tree half now even settled some none =
    All-from_get_or (λ time. is_due now time ≡ false) (drop half tree) None
    (λ k within. not_due now (node tree 1) (get_or (drop half tree) k None) (root_first_leaf tree half even settled some k within) none)

-- once a node has the earlier of the two below it, the node above it is the one that may not have it
pub settled_upwards : (tree : List (Option ℕ)) (n : ℕ) (time : Option ℕ) → 0 < n → 2 * n + 1 < length tree → IsSettledBut n tree
    → time ≡ earlier (node tree (2 * n)) (node tree (2 * n + 1)) → IsSettledBut (n / 2) (set tree n time)
settled_upwards tree n time above within settled is k positive short ne =
    let short' : 2 * k + 1 < length tree = omega (arith, length-set tree n time) in
    let apart : 2 * k ≢ n = omega arith in
    let apart' : 2 * k + 1 ≢ n = omega arith in
    let P : ℕ → Type 0 = λ (j : ℕ). node (set tree n time) j ≡ earlier (node tree (2 * j)) (node tree (2 * j + 1)) in
    rw (get_or-set_other tree n (2 * k) time None apart, get_or-set_other tree n (2 * k + 1) time None apart')
    (elim (cases_eq k n) [
      | inl e ↦ subst P (sym e) (get_or-set_same tree n time None (omega arith) ∙ is)
      | inr other ↦ rw (get_or-set_other tree n k time None other) (settled k positive short' other)
    ])
