-- Whether an interest is ready depends on the state of its descriptor alone.
use Rattle.vmm_sys.proofs.Prelude.{◌≡◌, ◌≢◌, ℕ, zero, suc, List, [], ◌∷◌, ◌++◌, length, set, inl, inr, refl, ap, ◌∙◌, sym, Some, slice_get, not, ◌==◌, cases_eq, AgreeBut}
use Rattle.std.specs.Int.RustNames.{bit_and, bit_or}
use Rattle.vmm_sys.specs.declared.table.source.Source.{Source}
use Rattle.vmm_sys.specs.declared.table.interests.Interest.{Interest}
use Rattle.vmm_sys.specs.EventSet.{bits_of}
use Rattle.vmm_sys.specs.EpollEvent.{set_of}
use Rattle.vmm_sys.specs.Table.{state_of, state_at, is_ready}

by_state : (xs ys : List Source) (i : Interest) → state_at (slice_get xs i.descriptor) ≡ state_at (slice_get ys i.descriptor) → is_ready xs i ≡ is_ready ys i
by_state xs ys i e = ap (λ state. not (bit_and (bit_or (bits_of (set_of i.event)) 0x18) state == 0)) e

pub get-set : {A : Type 0} (xs : List A) (n d : ℕ) (y : A) → d ≢ n → slice_get (set xs n y) d ≡ slice_get xs d
get-set [] n d y h = refl
get-set (x ∷ xs) zero zero y h = absurd (h refl)
get-set (x ∷ xs) zero (suc d) y h = refl
get-set (x ∷ xs) (suc n) zero y h = refl
get-set (x ∷ xs) (suc n) (suc d) y h = get-set xs n d y (λ e. h (ap suc e))

pub get-set_here : {A : Type 0} (xs : List A) (n : ℕ) (x y : A) → slice_get xs n ≡ Some x → slice_get (set xs n y) n ≡ Some y
get-set_here [] n x y e = absurd cc
get-set_here (z ∷ xs) zero x y e = refl
get-set_here (z ∷ xs) (suc n) x y e = get-set_here xs n x y e

pub get-push : {A : Type 0} (xs : List A) (d : ℕ) (y : A) → d ≢ length xs → slice_get (xs ++ y ∷ []) d ≡ slice_get xs d
get-push [] zero y h = absurd (h refl)
get-push [] (suc d) y h = refl
get-push (x ∷ xs) zero y h = refl
get-push (x ∷ xs) (suc d) y h = get-push xs d y (λ e. h (ap suc e))

-- another source of one descriptor says nothing of the interests in others
pub agree-set : (xs : List Source) (n : ℕ) (y : Source) → AgreeBut n (is_ready xs) (is_ready (set xs n y))
agree-set xs n y i h = by_state xs (set xs n y) i (ap state_at (sym (get-set xs n i.descriptor y h)))

-- nor does one more
pub agree-push : (xs : List Source) (y : Source) → AgreeBut (length xs) (is_ready xs) (is_ready (xs ++ y ∷ []))
agree-push xs y i h = by_state xs (xs ++ y ∷ []) i (ap state_at (sym (get-push xs i.descriptor y h)))

-- and one of the same state leaves all as ready as they were
pub same-state : (xs : List Source) (n : ℕ) (x y : Source) → slice_get xs n ≡ Some x → state_of y ≡ state_of x → (i : Interest) → is_ready xs i ≡ is_ready (set xs n y) i
same-state xs n x y e h i =
    by_state xs (set xs n y) i (
    elim (cases_eq i.descriptor n) [
      | inl d ↦ ap (λ k. state_at (slice_get xs k)) d ∙ ap state_at e ∙ sym h ∙ sym (ap state_at (ap (slice_get (set xs n y)) d ∙ get-set_here xs n x y e))
      | inr d ↦ ap state_at (sym (get-set xs n i.descriptor y d))
    ])
