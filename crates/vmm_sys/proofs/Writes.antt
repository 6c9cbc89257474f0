-- A mark is written in a row, and where it is its word's first, or was its last, the row above is to be written too.
use Rattle.vmm_sys.proofs.Prelude.{◌≡◌, ℕ, ◌*◌, ◌/◌, ◌%◌, ◌^◌, ◌<◌, ◌≤◌, ◌∙◌, Bool, true, false, List, length, get_or, set, eqb, cond, w64, ap, sym, subst, arith, iff_false, bit_and, bit_or, get_or_read, get_or-set_same, IsEmptyWord, MarksWords}
use Rattle.std.specs.Int.{bit_not}
use Rattle.std.proofs.lemmas.Nat.{and_le_l}
use Rattle.vmm_sys.specs.Row.{marks_of}
use Rattle.vmm_sys.proofs.Rows.{length-marks_of, tests_empty, set_bit, clear_bit}
use Rattle.vmm_sys.proofs.Marks.{set_first, set_further, clear_last, clear_further}

-- a word with bit k written
abbrev written : Bool → ℕ → ℕ → ℕ
written true word k = bit_or word (1 * 2 ^ k % 2 ^ 64)
written false word k = bit_and word (bit_not w64 (1 * 2 ^ k % 2 ^ 64))

pub put_mark : (words : List ℕ) (marks : List Bool) (n word : ℕ) (mark : Bool) → marks_of words ≡ marks → n < length marks → word ≡ get_or words (n / 64) word → word < 2 ^ 64
    → let new : ℕ = written mark word (n % 64) in let after : List Bool = marks_of (set words (n / 64) new) in let test : Bool = eqb (cond mark word new) 0 in
    (after ≡ set marks n mark)
    × (test ≡ true → (upper : List Bool) → MarksWords upper marks → MarksWords (set upper (n / 64) mark) after)
    × (test ≡ false → (upper : List Bool) → MarksWords upper marks → MarksWords upper after)
put_mark words marks n word true is within value fits =
    let inside : n / 64 < length words = omega (arith, length-marks_of words, ap length is) in
    let held = get_or_read words (n / 64) word inside value 0 in
    let marked = set_bit words n word (omega arith) held ∙ ap (λ ms. set ms n true) is in
    let test = tests_empty words (n / 64) word fits held in (
      marked,
      λ empty upper kept. subst (MarksWords (set upper (n / 64) true)) (sym marked) (set_first upper marks kept n within),
      λ some upper kept. subst (MarksWords upper) (sym marked) (set_further upper marks kept n within (λ empty. iff_false test some (subst (λ ms. IsEmptyWord ms (n / 64)) (sym is) empty))),
    )
put_mark words marks n word false is within value fits =
    let inside : n / 64 < length words = omega (arith, length-marks_of words, ap length is) in
    let held = get_or_read words (n / 64) word inside value 0 in
    let marked = clear_bit words n word (omega arith) held ∙ ap (λ ms. set ms n false) is in
    let new : ℕ = written false word (n % 64) in
    let less : new ≤ word = and_le_l word (bit_not w64 (1 * 2 ^ (n % 64) % 2 ^ 64)) in
    let test = tests_empty (set words (n / 64) new) (n / 64) new (omega arith) (sym (get_or-set_same words (n / 64) new 0 inside)) in (
      marked,
      λ empty upper kept. subst (MarksWords (set upper (n / 64) false)) (sym marked) (clear_last upper marks kept n (subst (λ ms. IsEmptyWord ms (n / 64)) marked (test.0 empty))),
      λ some upper kept. subst (MarksWords upper) (sym marked) (clear_further upper marks kept n (λ empty. iff_false test some (subst (λ ms. IsEmptyWord ms (n / 64)) (sym marked) empty))),
    )
