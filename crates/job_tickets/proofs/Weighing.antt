-- Of ascending numbers that weigh as much as 1 to n do, and are n, each is at its place.
use Rattle.std.proofs.Common.{◌≡◌, ℕ, zero, suc, ◌+◌, ◌*◌, ◌^◌, ◌<◌, ◌≤◌, List, [], ◌∷◌, ◌++◌, length, get_or, take, refl, sym, ap, ◌∙◌, arith, lit<, length-append, add-one}
use Rattle.std.proofs.Math.Nat.{mul-le-mul_right, mul-le-mul_left, pow-le-pow_right, one-le-pow}
use Rattle.std.proofs.Math.Seq.{take-suc, take_all}
use Rattle.std.proofs.lemmas.Grind.{pow_more, common_steps}
use Rattle.std.specs.List.Sorted.{IsNonDecreasing}
use Rattle.job_tickets.specs.Weights.{weight, weight_to, weigh, one_to}

pub weight_more : (n : ℕ) → weight (suc n) ≡ weight n * 2 ^ 64
unfolding weight
weight_more n = rw (← add-one n) (pow_more (2 ^ 64) n)

pub weight_some : (n : ℕ) → 1 ≤ weight n
unfolding weight
weight_some n = one-le-pow n (2 ^ 64) (lit< tt)

pub weight_mono : (m n : ℕ) → m ≤ n → weight m ≤ weight n
unfolding weight
weight_mono m n le = pow-le-pow_right {n = 2 ^ 64} (lit< tt) le

pub weigh-append : (xs ys : List ℕ) → weigh (xs ++ ys) ≡ weigh xs + weigh ys
weigh-append [] ys = omega arith
weigh-append (x ∷ xs) ys = omega (arith, weigh-append xs ys)

-- fewer than 2 ^ 64 of one weigh less than one of the next
few : (k n : ℕ) → k < 2 ^ 64 → k * weight n < weight (suc n)
few k n room =
    let less : suc k * weight n ≤ 2 ^ 64 * weight n = mul-le-mul_right (weight n) room in
    let some = weight_some n in
    let more = weight_more n in
    omega arith

-- 1 to n weigh less than the next
below_next : (n : ℕ) → weight_to n ≤ n * weight n
below_next zero = omega arith
below_next (suc n) =
    let here = below_next n in
    let up : n * weight n ≤ n * weight (suc n) = mul-le-mul_left n (weight_mono n (suc n) (omega arith)) in
    omega arith

weigh_take_more : (xs : List ℕ) (j : ℕ) → j < length xs → weigh (take (suc j) xs) ≡ weigh (take j xs) + weight (get_or xs j 0)
weigh_take_more xs j in_range = omega (arith, ap weigh (take-suc xs j 0 in_range), weigh-append (take j xs) (get_or xs j 0 ∷ []))

-- numbers that are at most m weigh at most as much as that many of m
weigh_take_below : (xs : List ℕ) (j m : ℕ) → j ≤ length xs → ((i : ℕ) → i < j → get_or xs i 0 ≤ m) → weigh (take j xs) ≤ j * weight m
weigh_take_below xs zero m fits below = omega arith
weigh_take_below xs (suc j) m fits below =
    let here = weigh_take_below xs j m (omega arith) (λ i lt. below i (omega arith)) in
    let last = weight_mono (get_or xs j 0) m (below j (omega arith)) in
    let more = weigh_take_more xs j fits in
    omega arith

-- where the last is less than j + 1, all are, and weigh too little
not_low : (xs : List ℕ) (j : ℕ) → suc j ≤ length xs → suc j < 2 ^ 64 → IsNonDecreasing xs → weigh (take (suc j) xs) ≡ weight_to (suc j) → get_or xs j 0 ≤ j → ⊥
not_low xs j fits room sorted same low =
    let all = weigh_take_below xs (suc j) j fits (λ i lt. let up = sorted i j 0 (omega arith) fits in omega arith) in
    let little = few (suc j) j room in
    omega arith

-- where it is more, it weighs too much
not_high : (xs : List ℕ) (j : ℕ) → suc j ≤ length xs → suc j < 2 ^ 64 → weigh (take (suc j) xs) ≡ weight_to (suc j) → suc (suc j) ≤ get_or xs j 0 → ⊥
not_high xs j fits room same high =
    let much = weight_mono (suc (suc j)) (get_or xs j 0) high in
    let more = weigh_take_more xs j fits in
    let little = few (suc j) (suc j) room in
    let total = below_next (suc j) in
    omega arith

-- the last of the first j + 1 is j + 1
last_is : (xs : List ℕ) (j : ℕ) → suc j ≤ length xs → suc j < 2 ^ 64 → IsNonDecreasing xs → weigh (take (suc j) xs) ≡ weight_to (suc j) → get_or xs j 0 ≡ suc j
last_is xs j fits room sorted same =
    omega (arith, not_low xs j fits room sorted same, not_high xs j fits room same)

pub places : (xs : List ℕ) (j : ℕ) → j ≤ length xs → j < 2 ^ 64 → IsNonDecreasing xs → weigh (take j xs) ≡ weight_to j → take j xs ≡ one_to j
places xs zero fits room sorted same = refl
places xs (suc j) fits room sorted same =
    let x-is = last_is xs j fits room sorted same in
    let more = weigh_take_more xs j fits in
    let rest : weigh (take j xs) ≡ weight_to j = omega (arith, ap weight x-is) in
    take-suc xs j 0 fits ∙ (ap (λ ys. ys ++ (get_or xs j 0 ∷ [])) (places xs j (omega arith) (omega arith) sorted rest) ∙ ap (λ n. one_to j ++ (n ∷ [])) x-is)

pub length-one_to : (n : ℕ) → length (one_to n) ≡ n
length-one_to zero = refl
length-one_to (suc n) = omega (arith, length-append (one_to n) (suc n ∷ []), length-one_to n)

pub get_or-one_to : (n i : ℕ) → i < n → get_or (one_to n) i 0 ≡ suc i
get_or-one_to zero i lt = absurd (omega arith)
get_or-one_to (suc n) i lt = grind (arith, common_steps, length-one_to n, get_or-one_to n i)

-- a number that is not at its place
pub not_in_order : (xs : List ℕ) (n i : ℕ) → i < n → (get_or xs i 0 ≡ suc i → ⊥) → xs ≡ one_to n → ⊥
not_in_order xs n i lt other all = other (ap (λ ys. get_or ys i 0) all ∙ get_or-one_to n i lt)

-- ascending numbers that weigh as much as 1 to n do, and are n, are 1 to n
pub in_place : (xs : List ℕ) (n : ℕ) → length xs ≡ n → n < 2 ^ 64 → IsNonDecreasing xs → weigh xs ≡ weight_to n → xs ≡ one_to n
in_place xs n len room sorted same =
    let whole : take n xs ≡ xs = take_all n xs (omega arith) in
    let same' : weigh (take n xs) ≡ weight_to n = ap weigh whole ∙ same in
    sym whole ∙ places xs n (omega arith) room sorted same'
