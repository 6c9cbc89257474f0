-- Decimal numbers as they are written.
use Rattle.std.proofs.Common.{ℕ, ℤ, pos, negsuc, FitsSigned, drop, zero, suc, ◌≡◌, ◌≢◌, ◌≤◌, ◌<◌}
use Rattle.std.proofs.Common.{◌^◌, List, ◌∷◌, length, get_or, Result, Ok, Err, IfOk, sym, arith, ap, ◌∙◌}
use Rattle.std.specs.Fmt.{decimal, signed_decimal}
use Rattle.std.specs.Int.{IsInRange, w32}
use Rattle.std.specs.Str.Parse.{AllDigits, digits_value, ParsesUnsigned}
use Rattle.std.specs.Result.{OkIff}
use Rattle.std.proofs.lemmas.Str.Parse.{IsNumeralModel, numerals_by_value, tells_digits, digit_at, parse_plain}
use Rattle.std.proofs.lemmas.Fmt.{digits_decimal, decimal_nonempty, first_decimal, decimal_digit, decimal-digits_value}

decimals : IsNumeralModel (AllDigits 10) (digits_value 10)
decimals = numerals_by_value (AllDigits 10) tells_digits

-- a number begins with a digit
pub first_is_digit : (n : ℕ) → n < 2 ^ 64 → IsInRange 48 57 (get_or (decimal n) 0 0)
first_is_digit n small = digit_at (decimal n) 0 (digits_decimal decimals n small) (decimal_nonempty n small)

-- only 0 begins with a 0
pub length-decimal_zero : (n : ℕ) → n < 2 ^ 64 → get_or (decimal n) 0 0 ≡ 48 → length (decimal n) ≤ 1
length-decimal_zero zero small first = rw (decimal_digit 0 (omega arith)) (omega arith)
length-decimal_zero (suc n) small first = absurd (omega (arith, first_decimal (suc n) (omega arith) small, first))

-- what is parsed is the number's decimal form, if it has no + and no 0 in front
pub decimal_from_parse : {E : Type 0} (bs : List ℕ) (r : Result ℕ E) → ParsesUnsigned 64 10 bs r → get_or bs 0 0 ≢ 43 →
    (get_or bs 0 0 ≡ 48 → length bs ≤ 1) → IfOk r (λ n. bs ≡ decimal n)
decimal_from_parse bs r parses no_plus no_zero = go r (parse_plain decimals 64 bs r parses no_plus) where
  go : {E : Type 0} (r : Result ℕ E) → OkIff r (AllDigits 10 bs × (0 < length bs) × (digits_value 10 bs < 2 ^ 64)) (digits_value 10 bs) →
      IfOk r (λ n. bs ≡ decimal n)
  go (Ok n) known = rw known.1 (sym (decimal-digits_value decimals bs known.0.0 known.0.1 (λ e. omega (arith, no_zero e, known.0.1)) known.0.2))
  go (Err e) known = tt

-- the first byte of a number
pub no_plus : (bs : List ℕ) (n : ℕ) → n < 2 ^ 64 → bs ≡ decimal n → get_or bs 0 0 ≢ 43
no_plus bs n small is plus =
    let first = ap (λ b. get_or b 0 0) (sym is) ∙ plus in
    omega (arith, (first_is_digit n small).0, first)

-- what has a `-` in front is a number below 0
pub behind_minus : {R : Type 0} (text number : List ℕ) (r : R) (given : ℤ → R) → text ≡ 45 ∷ number →
    ((n : ℕ) → n < 2 ^ 31 → number ≡ decimal (suc n) → r ≡ given (negsuc n)) → (z : ℤ) → FitsSigned w32 z → text ≡ signed_decimal z → r ≡ given z
behind_minus text number r given cut read (pos n) fits is =
    absurd (omega (arith, (first_is_digit n (omega (arith, fits))).0, ap (λ b. get_or b 0 0) (sym is ∙ cut)))
behind_minus text number r given cut read (negsuc n) fits is = read n (omega (arith, fits)) (ap (drop 1) (sym cut ∙ is))

-- what has none is a number from 0 on
pub without_minus : {R : Type 0} (text : List ℕ) (r : R) (given : ℤ → R) → ((digits : List ℕ) → text ≢ 45 ∷ digits) →
    ((n : ℕ) → n < 2 ^ 31 → text ≡ decimal n → r ≡ given (pos n)) → (z : ℤ) → FitsSigned w32 z → text ≡ signed_decimal z → r ≡ given z
without_minus text r given no_minus read (pos n) fits is = read n (omega (arith, fits)) is
without_minus text r given no_minus read (negsuc n) fits is = absurd (no_minus (decimal (suc n)) is)
