-- Marks held as bits: what a word's bits say of its marks.
use Rattle.vmm_sys.proofs.Prelude.{◌≡◌, ◌≢◌, ℕ, ◌+◌, ◌-◌, ◌*◌, ◌/◌, ◌%◌, ◌^◌, ◌<◌, ◌≤◌, Bool, true, false, List, ◌++◌, length, get_or, set, replicate, eqb, Some, Result, Ok, Err, take, refl, sym, ap, ◌∙◌, subst, inl, inr, arith, w64, lit<, length-set, length-append, ◌↔◌, if◌then◌else◌, is_ok, OnOk, bit_and, bit_or, cases_lt, cases_eq, eq-eqb, eqb-true, length-replicate, take_all, same_lists, get_or-set_same, get_or-set_other, get_or_past, get_or-replicate, get_or_append_left, get_or-append_right, slice_get-get_or, slice_get_within, get_or_from_slice_get, IsMarked, IsEmptyWord, NoneInWordFrom, IsFirstFrom}
use Rattle.std.specs.Int.{bit_at, bit_not, trailing_zeros}
use Rattle.std.proofs.lemmas.List.FromFn.{length-map-range_with_len, get_or-map-range_with_len}
use Rattle.std.proofs.Math.Nat.{div-le_self, div-one}
use Rattle.std.proofs.lemmas.Nat.{div-mul-add, mod-mul-add, shr-shr}
use Rattle.std.proofs.lemmas.Nat.Bits.{bit_at-lt, bit_at-zero, bit_at_above, bit_at-trailing_zeros, same_from_bits_below, shr_and_one, bit_at_set_same, bit_at_set_other, bit_at_clear_same, bit_at_clear_other}
use Rattle.vmm_sys.specs.Row.{mark_at, marks_of}

-- bit n of the words
abbrev pub bit_of : List ℕ → ℕ → ℕ
bit_of words n = bit_at (get_or words (n / 64) 0) (n % 64)

pub length-marks_of : (words : List ℕ) → length (marks_of words) ≡ 64 * length words
unfolding marks_of
length-marks_of words = length-map-range_with_len (mark_at words) 0 (64 * length words)

get_or-marks_of : (words : List ℕ) (n : ℕ) (d : Bool) → n < 64 * length words → get_or (marks_of words) n d ≡ eqb (bit_of words n) 1
unfolding marks_of
get_or-marks_of words n d h = get_or-map-range_with_len (mark_at words) 0 (64 * length words) n n d h (omega arith)

-- a position is marked exactly if its bit is 1
pub bit_from_mark : (words : List ℕ) (n : ℕ) → IsMarked (marks_of words) n → bit_of words n ≡ 1
bit_from_mark words n h =
    let within : n < 64 * length words = omega (arith, slice_get_within (marks_of words) n true h, length-marks_of words) in
    eqb-true (bit_of words n) 1 (sym (get_or-marks_of words n false within) ∙ get_or_from_slice_get (marks_of words) n true false h)

bit_within : (words : List ℕ) (n : ℕ) → bit_of words n ≡ 1 → n < 64 * length words
bit_within words n h =
    elim (cases_lt n (64 * length words)) [
      | inl within ↦ within
      | inr past ↦ absurd (let out : bit_of words n ≡ 0 = ap (λ v. bit_at v (n % 64)) (get_or_past words (n / 64) 0 (omega arith)) ∙ bit_at-zero (n % 64) in omega arith)
    ]

pub mark_from_bit : (words : List ℕ) (n : ℕ) → bit_of words n ≡ 1 → IsMarked (marks_of words) n
mark_from_bit words n h =
    let within = bit_within words n h in
    let inside : n < length (marks_of words) = omega (arith, length-marks_of words) in
    slice_get-get_or (marks_of words) n false inside ∙ ap Some (get_or-marks_of words n false within ∙ eq-eqb (bit_of words n) 1 h)

-- a word has no mark exactly if it is 0
pub empty_from_zero : (words : List ℕ) (w : ℕ) → get_or words w 0 ≡ 0 → IsEmptyWord (marks_of words) w
empty_from_zero words w zero m here marked =
    let none : bit_of words m ≡ 0 = ap (λ v. bit_at (get_or words v 0) (m % 64)) here ∙ ap (λ v. bit_at v (m % 64)) zero ∙ bit_at-zero (m % 64) in
    let one = bit_from_mark words m marked in
    omega arith

no_bit : (words : List ℕ) (w i : ℕ) → IsEmptyWord (marks_of words) w → i < 64 → bit_at (get_or words w 0) i ≡ 0
no_bit words w i empty small =
    let place : (w * 64 + i) / 64 ≡ w = div-mul-add w 64 i small in
    let bit : (w * 64 + i) % 64 ≡ i = mod-mul-add w 64 i small in
    let same : bit_of words (w * 64 + i) ≡ bit_at (get_or words w 0) i = ap (λ v. bit_at (get_or words v 0) ((w * 64 + i) % 64)) place ∙ ap (λ v. bit_at (get_or words w 0) v) bit in
    let two = bit_at-lt (get_or words w 0) i in
    elim (cases_eq (bit_of words (w * 64 + i)) 1) [
      | inl one ↦ absurd (empty (w * 64 + i) place (mark_from_bit words (w * 64 + i) one))
      | inr other ↦ omega arith
    ]

pub zero_from_empty : (words : List ℕ) (w : ℕ) → get_or words w 0 < 2 ^ 64 → IsEmptyWord (marks_of words) w → get_or words w 0 ≡ 0
zero_from_empty words w fits empty =
    same_from_bits_below 64 (get_or words w 0) 0 fits (lit< tt) (λ i small. no_bit words w i empty small ∙ sym (bit_at-zero i))

-- what one word written over another does to each bit
bit_of-set : (words : List ℕ) (n value k : ℕ) → n / 64 < length words → k ≢ n
    → ((i : ℕ) → i < 64 → i ≢ n % 64 → bit_at value i ≡ bit_at (get_or words (n / 64) 0) i)
    → bit_of (set words (n / 64) value) k ≡ bit_of words k
bit_of-set words n value k within other others =
    elim (cases_eq (k / 64) (n / 64)) [
      | inl same ↦
          let low : k % 64 < 64 = omega arith in
          let apart : k % 64 ≢ n % 64 = λ e. other (omega arith) in
          let here = ap (λ w. bit_at (get_or (set words (n / 64) value) w 0) (k % 64)) same in
          here ∙ ap (λ v. bit_at v (k % 64)) (get_or-set_same words (n / 64) value 0 within) ∙ others (k % 64) low apart ∙ ap (λ w. bit_at (get_or words w 0) (k % 64)) (sym same)
      | inr away ↦ ap (λ v. bit_at v (k % 64)) (get_or-set_other words (n / 64) (k / 64) value 0 away)
    ]

-- one bit is written
pub marks_of-set : (words : List ℕ) (n value : ℕ) (mark : Bool) → n < 64 * length words → eqb (bit_at value (n % 64)) 1 ≡ mark
    → ((i : ℕ) → i < 64 → i ≢ n % 64 → bit_at value i ≡ bit_at (get_or words (n / 64) 0) i)
    → marks_of (set words (n / 64) value) ≡ set (marks_of words) n mark
marks_of-set words n value mark inside here others =
    let new : List ℕ = set words (n / 64) value in
    let within : n / 64 < length words = omega arith in
    let room : length new ≡ length words = length-set words (n / 64) value in
    let marks : length (marks_of words) ≡ 64 * length words = length-marks_of words in
    let long : length (marks_of new) ≡ length (set (marks_of words) n mark) = length-marks_of new ∙ ap (λ k. 64 * k) room ∙ sym marks ∙ sym (length-set (marks_of words) n mark) in
    same_lists (marks_of new) (set (marks_of words) n mark) long (λ k d small.
    let below : k < 64 * length new = omega (arith, length-marks_of new) in
    let bit = get_or-marks_of new k d below in
    elim (cases_eq k n) [
      | inl same ↦
          let value_here : bit_of new n ≡ bit_at value (n % 64) = ap (λ v. bit_at v (n % 64)) (get_or-set_same words (n / 64) value 0 within) in
          let at_n : n < length (marks_of words) = omega arith in
          bit ∙ ap (λ m. eqb (bit_of new m) 1) same ∙ ap (λ v. eqb v 1) value_here ∙ here
          ∙ sym (get_or-set_same (marks_of words) n mark d at_n) ∙ ap (λ m. get_or (set (marks_of words) n mark) m d) (sym same)
      | inr other ↦
          let old : k < 64 * length words = omega arith in
          bit ∙ ap (λ v. eqb v 1) (bit_of-set words n value k within other others) ∙ sym (get_or-marks_of words k d old) ∙ sym (get_or-set_other (marks_of words) n k mark d other)
    ])

-- words of 0 are pushed
pub marks_of-grown : (words : List ℕ) (k : ℕ) → marks_of (words ++ replicate k 0) ≡ marks_of words ++ replicate (64 * k) false
marks_of-grown words k =
    let new : List ℕ = words ++ replicate k 0 in
    let room : length new ≡ length words + k = length-append words (replicate k 0) ∙ ap (λ n. length words + n) (length-replicate k 0) in
    let marks : length (marks_of words) ≡ 64 * length words = length-marks_of words in
    let all : length (marks_of new) ≡ 64 * length new = length-marks_of new in
    let sum : length (marks_of words ++ replicate (64 * k) false) ≡ length (marks_of words) + 64 * k = length-append (marks_of words) (replicate (64 * k) false) ∙ ap (λ n. length (marks_of words) + n) (length-replicate (64 * k) false) in
    same_lists (marks_of new) (marks_of words ++ replicate (64 * k) false) (omega arith) (λ n d small.
    let below : n < 64 * length new = omega arith in
    let bit = get_or-marks_of new n d below in
    elim (cases_lt n (64 * length words)) [
      | inl old ↦
          let word : n / 64 < length words = omega arith in
          let at : n < length (marks_of words) = omega arith in
          bit ∙ ap (λ v. eqb (bit_at v (n % 64)) 1) (get_or_append_left words (replicate k 0) 0 (n / 64) word)
          ∙ sym (get_or-marks_of words n d old) ∙ sym (get_or_append_left (marks_of words) (replicate (64 * k) false) d n at)
      | inr pushed ↦
          let word : length words ≤ n / 64 = omega arith in
          let rest : n / 64 - length words < k = omega arith in
          let left : n - 64 * length words < 64 * k = omega arith in
          let zero : get_or new (n / 64) 0 ≡ 0 = get_or-append_right words (replicate k 0) (length words) (n / 64) 0 refl word ∙ get_or-replicate k (n / 64 - length words) 0 0 rest in
          let none : bit_of new n ≡ 0 = ap (λ v. bit_at v (n % 64)) zero ∙ bit_at-zero (n % 64) in
          let unmarked : get_or (marks_of words ++ replicate (64 * k) false) n d ≡ false = get_or-append_right (marks_of words) (replicate (64 * k) false) (64 * length words) n d marks pushed ∙ get_or-replicate (64 * k) (n - 64 * length words) false d left in
          bit ∙ ap (λ v. eqb v 1) none ∙ sym unmarked
    ])

-- a row of words is filled up to k words, if that succeeds
pub resized : {A E : Type 0} (words new : List ℕ) (k : ℕ) (r : Result A E) → length words ≤ k
    → new ≡ (if is_ok r then take k words ++ replicate (k - length words) 0 else words)
    → OnOk r (marks_of new ≡ marks_of words ++ replicate (64 * k - length (marks_of words)) false)
resized words new k (Err e) more is = tt
resized words new k (Ok u) more is =
    let size : 64 * (k - length words) ≡ 64 * k - length (marks_of words) = omega (arith, length-marks_of words) in
    ap marks_of (is ∙ ap (λ ws. ws ++ replicate (k - length words) 0) (take_all k words more)) ∙ marks_of-grown words (k - length words)
    ∙ ap (λ n. marks_of words ++ replicate n false) size

-- a word from bit k on is 0
pub rest_none : (word k i : ℕ) → word / 2 ^ k ≡ 0 → k ≤ i → bit_at word i ≡ 0
rest_none word k i none from =
    let shifted : bit_at (word / 2 ^ k) (i - k) ≡ bit_at word (k + (i - k)) = ap (λ v. v % 2) (shr-shr word k (i - k)) in
    let back : k + (i - k) ≡ i = omega arith in
    ap (bit_at word) (sym back) ∙ sym shifted ∙ ap (λ v. bit_at v (i - k)) none ∙ bit_at-zero (i - k)

-- it is not, and the lowest 1 of what is left is at t
pub rest_first : (word k t : ℕ) → word < 2 ^ 64 → k < 64 → word / 2 ^ k ≢ 0 → t ≡ trailing_zeros w64 (word / 2 ^ k)
    → (k + t < 64) × (bit_at word (k + t) ≡ 1) × ((i : ℕ) → k ≤ i → i < k + t → bit_at word i ≡ 0)
rest_first word k t fits small some is =
    let rest : ℕ = word / 2 ^ k in
    let left : word / 2 ^ k ≤ word = div-le_self word (2 ^ k) in
    let lowest = bit_at-trailing_zeros w64 (word / 2 ^ k) (omega arith) (omega arith) in
    let at : (i : ℕ) → bit_at (word / 2 ^ k) i ≡ bit_at word (k + i) = λ i. ap (λ v. v % 2) (shr-shr word k i) in
    let one : bit_at word (k + t) ≡ 1 = sym (at t) ∙ ap (bit_at (word / 2 ^ k)) is ∙ lowest.1 in (
      elim (cases_lt (k + t) 64) [
        | inl within ↦ within
        | inr past ↦ absurd (let zero = bit_at_above word 64 (k + t) fits past in omega arith)
      ],
      one,
      λ i from before.
          let back : k + (i - k) ≡ i = omega arith in
          let under : i - k < trailing_zeros w64 (word / 2 ^ k) = subst (λ v. i - k < v) is (omega arith) in
          ap (bit_at word) (sym back) ∙ sym (at (i - k)) ∙ lowest.2 (i - k) under,
    )

-- a position of the word of n, from n on, by its bit
bit_in_word : (words : List ℕ) (n m : ℕ) → m / 64 ≡ n / 64 → bit_of words m ≡ bit_at (get_or words (n / 64) 0) (m % 64)
bit_in_word words n m same = ap (λ w. bit_at (get_or words w 0) (m % 64)) same

-- no mark is in the rest of the word
pub none_in_word : (words : List ℕ) (n word : ℕ) → word ≡ get_or words (n / 64) 0 → word / 2 ^ (n % 64) ≡ 0 → NoneInWordFrom (marks_of words) n
none_in_word words n word is none m from same marked =
    let one = bit_from_mark words m marked in
    let at : n % 64 ≤ m % 64 = omega arith in
    let zero = rest_none word (n % 64) (m % 64) none at in
    let bit = bit_in_word words n m same ∙ ap (λ v. bit_at v (m % 64)) (sym is) in
    omega arith

-- the first one is there
pub first_in_word : (words : List ℕ) (n word t : ℕ) → word < 2 ^ 64 → word ≡ get_or words (n / 64) 0 → word / 2 ^ (n % 64) ≢ 0 → t ≡ trailing_zeros w64 (word / 2 ^ (n % 64))
    → IsFirstFrom (marks_of words) n (n + t)
first_in_word words n word t fits is some lowest =
    let small : n % 64 < 64 = omega arith in
    let rest = rest_first word (n % 64) t fits small some lowest in
    let within : n % 64 + t < 64 = rest.0 in
    let same : (n + t) / 64 ≡ n / 64 = omega arith in
    let place : (n + t) % 64 ≡ n % 64 + t = omega arith in
    record {
      from = omega arith;
      marked = mark_from_bit words (n + t) (bit_in_word words n (n + t) same ∙ ap (λ v. bit_at v ((n + t) % 64)) (sym is) ∙ ap (bit_at word) place ∙ rest.1);
      first = λ m from before marked.
          let here : m / 64 ≡ n / 64 = omega arith in
          let one = bit_from_mark words m marked in
          let bit = bit_in_word words n m here ∙ ap (λ v. bit_at v (m % 64)) (sym is) in
          let zero = rest.2 (m % 64) (omega arith) (omega arith) in
          omega arith;
    }

-- beyond the words there are no marks
pub none_past : (words : List ℕ) (n : ℕ) → length words ≤ n / 64 → NoneInWordFrom (marks_of words) n
none_past words n past m from same marked =
    let within = slice_get_within (marks_of words) m true marked in
    let marks = length-marks_of words in
    omega arith

-- what the tests of the code say
pub tests_mark : (words : List ℕ) (n word : ℕ) → word ≡ get_or words (n / 64) 0 → (eqb (bit_and (word / 2 ^ (n % 64)) 1) 1 ≡ true) ↔ IsMarked (marks_of words) n
tests_mark words n word is =
    let bit : bit_and (word / 2 ^ (n % 64)) 1 ≡ bit_of words n = shr_and_one word (n % 64) ∙ ap (λ v. bit_at v (n % 64)) is in
    (λ test. mark_from_bit words n (sym bit ∙ eqb-true (bit_and (word / 2 ^ (n % 64)) 1) 1 test), λ marked. eq-eqb (bit_and (word / 2 ^ (n % 64)) 1) 1 (bit ∙ bit_from_mark words n marked))

pub tests_empty : (words : List ℕ) (w word : ℕ) → word < 2 ^ 64 → word ≡ get_or words w 0 → (eqb word 0 ≡ true) ↔ IsEmptyWord (marks_of words) w
tests_empty words w word fits is =
    (λ test. empty_from_zero words w (sym is ∙ eqb-true word 0 test), λ empty. eq-eqb word 0 (is ∙ zero_from_empty words w (subst (λ v. v < 2 ^ 64) is fits) empty))

-- what the code writes
pub set_bit : (words : List ℕ) (n word : ℕ) → n < 64 * length words → word ≡ get_or words (n / 64) 0
    → marks_of (set words (n / 64) (bit_or word (1 * 2 ^ (n % 64) % 2 ^ 64))) ≡ set (marks_of words) n true
set_bit words n word within is =
    let small : n % 64 < 64 = omega arith in
    let value : ℕ = bit_or word (1 * 2 ^ (n % 64) % 2 ^ 64) in
    marks_of-set words n value true within (eq-eqb (bit_at value (n % 64)) 1 (bit_at_set_same w64 word (n % 64) small))
    (λ i inside other. bit_at_set_other w64 word (n % 64) small i other ∙ ap (λ v. bit_at v i) is)

pub clear_bit : (words : List ℕ) (n word : ℕ) → n < 64 * length words → word ≡ get_or words (n / 64) 0
    → marks_of (set words (n / 64) (bit_and word (bit_not w64 (1 * 2 ^ (n % 64) % 2 ^ 64)))) ≡ set (marks_of words) n false
clear_bit words n word within is =
    let small : n % 64 < 64 = omega arith in
    let value : ℕ = bit_and word (bit_not w64 (1 * 2 ^ (n % 64) % 2 ^ 64)) in
    marks_of-set words n value false within (ap (λ b. eqb b 1) (bit_at_clear_same w64 word (n % 64) small))
    (λ i inside other. bit_at_clear_other w64 word (n % 64) small i inside other ∙ ap (λ v. bit_at v i) is)

pub empty_past : (words : List ℕ) (w : ℕ) → length words ≤ w → IsEmptyWord (marks_of words) w
empty_past words w past = empty_from_zero words w (get_or_past words w 0 past)

-- of a whole word
pub first_of_word : (words : List ℕ) (w word : ℕ) → word < 2 ^ 64 → word ≡ get_or words w 0 → word ≢ 0 → IsFirstFrom (marks_of words) (w * 64) (w * 64 + trailing_zeros w64 word)
first_of_word words w word fits is some =
    let start : w * 64 / 64 ≡ w = omega arith in
    let low : w * 64 % 64 ≡ 0 = omega arith in
    let whole : word / 2 ^ (w * 64 % 64) ≡ word = ap (λ k. word / 2 ^ k) low ∙ div-one word in
    first_in_word words (w * 64) word (trailing_zeros w64 word) fits (is ∙ ap (λ k. get_or words k 0) (sym start)) (λ zero. some (sym whole ∙ zero)) (ap (trailing_zeros w64) (sym whole))
