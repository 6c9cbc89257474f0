-- How often a number stands in a list.
use Rattle.std.proofs.Common.{◌≡◌, ◌≢◌, ℕ, zero, suc, ◌+◌, ◌==◌, ◌<◌, ◌≤◌, refl, sym, subst, List, [], ◌∷◌, Bool, true, false, cond, inl, inr, arith, length, get_or, Contains, AllPairs}
use Rattle.std.proofs.lemmas.Bool.Decides.{nat_tests, eqb_tells}
use Rattle.std.proofs.lemmas.List.Elements.{Contains-get_or}
use Rattle.std.proofs.lemmas.List.Sums.{sum_by-cons}
use Rattle.dispatch_tables.specs.WatchLists.{times_in}

times_in_cons : (fds : List ℕ) (fd q : ℕ) → times_in (fd ∷ fds) q ≡ cond (fd == q) 1 0 + times_in fds q
times_in_cons fds fd q = sum_by-cons (λ x. cond (x == q) 1 0) fd fds

pub times_in_cond : (b : Bool) (xs ys : List ℕ) (q : ℕ) → times_in (cond b xs ys) q ≡ cond b (times_in xs q) (times_in ys q)
times_in_cond true xs ys q = refl
times_in_cond false xs ys q = refl

pub flipped : (a b : ℕ) → (a == b) ≡ (b == a)
flipped a b = grind (arith, nat_tests)

-- what stands in a list is counted there
counted_at : (q : ℕ) (fds : List ℕ) (k : ℕ) → k < length fds → get_or fds k q ≡ q → 0 < times_in fds q
counted_at q [] k l e = absurd (omega arith)
counted_at q (x ∷ fds) zero l e = grind (arith, nat_tests, e, times_in_cons fds x q)
counted_at q (x ∷ fds) (suc k) l e = omega (arith, counted_at q fds k (omega arith) e, times_in_cons fds x q)

pub counted : (fds : List ℕ) (q : ℕ) → Contains fds q → 0 < times_in fds q
counted fds q c = counted_at q fds c.0 c.1 c.2

pub contained : (fds : List ℕ) (q : ℕ) → 0 < times_in fds q → Contains fds q
contained [] q h = absurd (omega arith)
contained (x ∷ fds) q h = elim (eqb_tells x q) [
  | inl p ↦ (0, omega arith, p.1)
  | inr p ↦
      let c : Contains fds q = contained fds q (grind (arith, nat_tests, h, p.0, times_in_cons fds x q)) in
      (suc c.0, omega (arith, c.1), c.2)
]

-- what is counted at most once stands there once
pub distinct : (fds : List ℕ) → ((q : ℕ) → times_in fds q ≤ 1) → AllPairs (λ a b. a ≢ b) fds
distinct [] h i j d a b = absurd (omega arith)
distinct (x ∷ fds) h zero zero d a b = absurd (omega arith)
distinct (x ∷ fds) h (suc i) zero d a b = absurd (omega arith)
distinct (x ∷ fds) h zero (suc j) d a b =
    λ e.
    let more = counted fds x (subst (λ y. Contains fds y) (sym e) (Contains-get_or fds j d (omega arith))) in
    grind (arith, nat_tests, more, h x, times_in_cons fds x x)
distinct (x ∷ fds) h (suc i) (suc j) d a b = distinct fds (λ q. omega (arith, h q, times_in_cons fds x q)) i j d (omega arith) (omega arith)
