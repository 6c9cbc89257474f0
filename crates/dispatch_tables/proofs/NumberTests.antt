-- What the tests of two numbers tell.
use Rattle.std.proofs.Common.{◌≡◌, ◌≢◌, ℕ, ◌==◌, true, false, refl, sym, ◌∙◌, ap, ◌⊎◌, inl, inr, nat_cmp, is_eq, Equal}
use Rattle.std.specs.Ordering.{eq_by_cmp}
use Rattle.std.specs.FinMap.{nat_cmp-IsAntisymmetric}
use Rattle.std.specs.Cmp.{Equal-is, nat_cmp_is}
use Rattle.std.proofs.lemmas.Bool.Decides.{Decides-eqb, eqb_tells, same_from_decides}

pub nat_tied : (a b : ℕ) → eq_by_cmp nat_cmp a b ≡ true → a ≡ b
nat_tied a b e = nat_cmp-IsAntisymmetric a b ((Equal-is (nat_cmp a b)).0 e)

-- the order's test and the plain one agree
pub same_tests : (a b : ℕ) → eq_by_cmp nat_cmp a b ≡ (a == b)
same_tests a b = same_from_decides _ _ (nat_tied a b, λ e. ap (λ x. eq_by_cmp nat_cmp x b) e ∙ ap is_eq (sym (nat_cmp_is b b Equal refl))) (Decides-eqb a b)

-- what a test of two descriptors tells
pub fd_tells : (a b : ℕ) → ((eq_by_cmp nat_cmp a b ≡ true) × (a ≡ b) × ((a == b) ≡ true)) ⊎ ((eq_by_cmp nat_cmp a b ≡ false) × (a ≢ b) × ((a == b) ≡ false))
fd_tells a b = elim (eqb_tells a b) [ inl p ↦ inl (same_tests a b ∙ p.0, p.1, p.0) | inr p ↦ inr (same_tests a b ∙ p.0, p.1, p.0) ]
