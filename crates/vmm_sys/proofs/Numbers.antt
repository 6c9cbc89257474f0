-- Lists of different numbers below a room.
use Rattle.vmm_sys.proofs.Prelude.{◌≡◌, ◌≢◌, ℕ, zero, suc, ◌<◌, ◌≤◌, Bool, true, false, eqb, List, [], ◌∷◌, length, get_or, refl, arith, eqb-true, false≢true}
use Rattle.std.specs.List.{IsDistinct, list_any}
use Rattle.std.proofs.lemmas.Map.Made.{IsDistinct-from_AllPairs}
use Rattle.std.proofs.lemmas.Map.Steps.{length-le_from_distinct_below}
use Rattle.std.proofs.lemmas.Bool.Decides.{Decides-eqb}

-- x is none of the numbers
abbrev pub NotIn : ℕ → List ℕ → Type 0
NotIn x [] = Unit {0}
NotIn x (n ∷ ns) = (x ≢ n) × NotIn x ns

abbrev pub AreDifferent : List ℕ → Type 0
AreDifferent [] = Unit {0}
AreDifferent (n ∷ ns) = NotIn n ns × AreDifferent ns

abbrev pub AreBelow : ℕ → List ℕ → Type 0
AreBelow room [] = Unit {0}
AreBelow room (n ∷ ns) = (n < room) × AreBelow room ns

NotIn-at : (x j d : ℕ) (ns : List ℕ) → NotIn x ns → j < length ns → x ≢ get_or ns j d
NotIn-at x j d [] h lt = absurd (omega (arith, lt))
NotIn-at x zero d (n ∷ ns) h lt = h.0
NotIn-at x (suc j) d (n ∷ ns) h lt = NotIn-at x j d ns h.1 (omega arith)

pairs : (ns : List ℕ) → AreDifferent ns → (i j d : ℕ) → i < j → j < length ns → get_or ns i d ≢ get_or ns j d
pairs [] h i j d lt le = absurd (omega (arith, le))
pairs (n ∷ ns) h i zero d lt le = absurd (omega (arith, lt))
pairs (n ∷ ns) h zero (suc j) d lt le = NotIn-at n j d ns h.0 (omega arith)
pairs (n ∷ ns) h (suc i) (suc j) d lt le = pairs ns h.1 i j d (omega arith) (omega arith)

distinct : (ns : List ℕ) → AreDifferent ns → IsDistinct eqb ns
distinct ns h = IsDistinct-from_AllPairs Decides-eqb ns (pairs ns h)

below_by : (b : Bool) (q k m : ℕ) (ns : List ℕ) → eqb q m ≡ b → m < k → (list_any (eqb q) ns ≡ true → q < k) → list_any (eqb q) (m ∷ ns) ≡ true → q < k
below_by true q k m ns e lt ih h = let s = eqb-true q m e in omega arith
below_by false q k m ns e lt ih h = ih (simp e at h)

below : (k q : ℕ) (ns : List ℕ) → AreBelow k ns → list_any (eqb q) ns ≡ true → q < k
below k q [] r h = absurd (false≢true h)
below k q (m ∷ ns) r h = below_by (eqb q m) q k m ns refl r.0 (below k q ns r.1) h

-- different numbers below a room are no more than that
pub length-distinct : (k : ℕ) (ns : List ℕ) → AreDifferent ns → AreBelow k ns → length ns ≤ k
length-distinct k ns d r = length-le_from_distinct_below ns k (distinct ns d) (λ q h. below k q ns r h)
