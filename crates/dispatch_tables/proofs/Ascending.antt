-- Ascending lists of descriptors, searched by halving.
use Rattle.std.proofs.Common.{◌≡◌, ℕ, ◌+◌, ◌-◌, ◌*◌, ◌^◌, ◌<◌, ◌≤◌, ◌==◌, ◌||◌, refl, sym, ap, subst, ◌∙◌, List, ◌∷◌, Bool, true, false, arith, length, get_or, take, drop, inl, inr, insert, eq-eqb, ne_eqb}
use Rattle.std.specs.List.{list_any}
use Rattle.std.proofs.lemmas.Bool.{cases_lt}
use Rattle.std.proofs.lemmas.Nat.{pow-add}
use Rattle.std.proofs.lemmas.List.{get_or_default, take-append-drop}
use Rattle.std.proofs.lemmas.List.Edits.{get_or-insert_below, get_or-insert_at, get_or-insert_above, length-insert}
use Rattle.std.proofs.lemmas.List.Folds.{list_any-append, list_any_at, list_any_none}
use Rattle.std.proofs.Math.Nat.{mul-le-mul_right}
use Rattle.std.proofs.Math.Pow.{pow_mono}
use Rattle.dispatch_tables.specs.Cancelled.{IsAscending, IsPlaceOf, HasEntered, is_among}

-- a probe below the descriptor: so are the entries before it; one above it: so are those after it
module _ (list : List ℕ) (fd : ℕ) (middle : ℕ) (up : IsAscending list) (within : middle < length list) where
  here : get_or list middle fd ≡ get_or list middle 0
  here = get_or_default list middle fd 0 within

  pub below_more : get_or list middle 0 < fd → (k : ℕ) → k < middle + 1 → get_or list k fd < fd
  below_more less k l = elim (cases_lt k middle) [
    | inl before ↦ omega (arith, up k middle fd before within, here, less)
    | inr after ↦ subst (λ n. get_or list n fd < fd) (omega (arith, l, after)) (subst (λ x. x < fd) (sym here) less)
  ]

  pub above_more : fd < get_or list middle 0 → (k : ℕ) → middle ≤ k → k < length list → fd < get_or list k fd
  above_more more k from l = elim (cases_lt middle k) [
    | inl before ↦ omega (arith, up middle k fd before l, here, more)
    | inr after ↦ subst (λ n. fd < get_or list n fd) (omega (arith, from, after)) (subst (λ x. fd < x) (sym here) more)
  ]

-- one more probe halves what is left, and is one of the digits
doubled : (w t : ℕ) → w * (t + t) ≡ (w + w) * t
doubled w t = omega arith

pub halved_more : (w v p n : ℕ) → w + w ≤ v → v * 2 ^ p ≤ n → w * 2 ^ (p + 1) ≤ n
halved_more w v p n half fits = omega (arith, ap (λ t. w * t) (pow-add 2 p 1), doubled w (2 ^ p), mul-le-mul_right (2 ^ p) half, fits)

pub few_more : (v p n digits : ℕ) → 0 < v → v * 2 ^ p ≤ n → n < 2 ^ digits → p + 1 ≤ digits
few_more v p n digits some fits below = elim (cases_lt p digits) [
  | inl l ↦ omega (arith, l)
  | inr l ↦ absurd (omega (arith, pow_mono l, mul-le-mul_right {m = 1} {n = v} (2 ^ p) some, fits, below))
]

-- what a place says of the list
pub among_at : (list : List ℕ) (fd : ℕ) (found : Bool) (at : ℕ) → IsPlaceOf list fd found at → found ≡ is_among fd list
among_at list fd true at place = sym (list_any_at (λ x. x == fd) list at fd place.0 (ap (λ x. x == fd) place.1 ∙ eq-eqb fd fd refl))
among_at list fd false at place = sym (list_any_none (λ x. x == fd) list (λ k d l. elim (cases_lt k at) [
  | inl before ↦ ne_eqb (get_or list k d) fd (λ e. omega (arith, e, subst (λ x. x < fd) (get_or_default list k fd d l) (place.1 k before)))
  | inr after ↦ ne_eqb (get_or list k d) fd (λ e. omega (arith, e, subst (λ x. fd < x) (get_or_default list k fd d l) (place.2 k after l)))
]))

last_out : (a b c : Bool) → a || (b || c) ≡ (a || c) || b
last_out true b c = refl
last_out false true true = refl
last_out false true false = refl
last_out false false true = refl
last_out false false false = refl

-- a descriptor that stands nowhere is put in at its place
module _ (list : List ℕ) (fd : ℕ) (at : ℕ) (place : IsPlaceOf list fd false at) where
  pub entered : HasEntered list fd (insert list at fd)
  entered q =
      list_any-append (λ x. x == q) (take at list) (fd ∷ drop at list)
      ∙ last_out (list_any (λ x. x == q) (take at list)) (fd == q) (list_any (λ x. x == q) (drop at list))
      ∙ ap (λ b. b || (fd == q)) (sym (list_any-append (λ x. x == q) (take at list) (drop at list)) ∙ ap (λ l. list_any (λ x. x == q) l) (take-append-drop at list))

  before : (k : ℕ) (d : ℕ) → k < at → get_or (insert list at fd) k d ≡ get_or list k d
  before k d l = get_or-insert_below list at fd d k l place.0

  at_it : (d : ℕ) → get_or (insert list at fd) at d ≡ fd
  at_it d = get_or-insert_at list at fd d place.0

  one_less : (k : ℕ) → at < k → k ≡ (k - 1) + 1
  one_less k l = omega (arith, l)

  after : (k : ℕ) (d : ℕ) → at < k → get_or (insert list at fd) k d ≡ get_or list (k - 1) d
  after k d l = ap (λ n. get_or (insert list at fd) n d) (one_less k l) ∙ get_or-insert_above list at fd d (k - 1) (omega (arith, l)) place.0

  below_it : (k : ℕ) (d : ℕ) → k < at → get_or list k d < fd
  below_it k d l = subst (λ x. x < fd) (get_or_default list k fd d (omega (arith, l, place.0))) (place.1 k l)

  above_it : (k : ℕ) (d : ℕ) → at ≤ k → k < length list → fd < get_or list k d
  above_it k d from l = subst (λ x. fd < x) (get_or_default list k fd d l) (place.2 k from l)

  -- the last entry is before the place, at it, or after it
  up_to_it : (i : ℕ) (d : ℕ) → i < at → get_or (insert list at fd) i d < get_or (insert list at fd) at d
  up_to_it i d l = omega (arith, before i d l, at_it d, below_it i d l)

  up_from : IsAscending list → (i j : ℕ) (d : ℕ) → i < j → at < j → j - 1 < length list → get_or (insert list at fd) i d < get_or (insert list at fd) j d
  up_from up i j d l past within = elim (cases_lt i at) [
    | inl less ↦ omega (arith, before i d less, after j d past, up i (j - 1) d (omega (arith, less, past)) within)
    | inr more ↦ elim (cases_lt at i) [
      | inl above ↦ omega (arith, after i d above, after j d past, up (i - 1) (j - 1) d (omega (arith, above, l)) within)
      | inr below ↦
          let same : i ≡ at = omega (arith, more, below) in
          omega (arith, ap (λ n. get_or (insert list at fd) n d) same, at_it d, after j d past, above_it (j - 1) d (omega (arith, past)) within)
    ]
  ]

  pub still_ascending : IsAscending list → IsAscending (insert list at fd)
  still_ascending up i j d l within = elim (cases_lt j at) [
    | inl less ↦ omega (arith, before i d (omega (arith, l, less)), before j d less, up i j d l (omega (arith, less, place.0)))
    | inr more ↦ elim (cases_lt at j) [
      | inl past ↦ up_from up i j d l past (omega (arith, past, within, length-insert list at fd place.0))
      | inr below ↦
          let same : at ≡ j = omega (arith, more, below) in
          subst (λ n. get_or (insert list at fd) i d < get_or (insert list at fd) n d) same (up_to_it i d (omega (arith, l, same)))
    ]
  ]
