-- Lists of which one changes, and how often a descriptor stands in them then.
use Rattle.std.proofs.Common.{◌≡◌, ◌≢◌, ℕ, zero, suc, ◌+◌, ◌==◌, ◌<◌, refl, sym, ap, subst, ◌∙◌, List, [], ◌∷◌, Bool, true, false, cond, inl, inr, arith, length, get_or, set, All}
use Rattle.std.proofs.lemmas.Bool.Decides.{eqb_tells}
use Rattle.std.proofs.lemmas.Grind.{get_or-set_at}
use Rattle.std.proofs.lemmas.List.{get_or_default, get_or-set_other, length-set}
use Rattle.std.proofs.lemmas.List.Sums.{sum_by-cons, sum_by-set}
use Rattle.dispatch_tables.specs.WatchLists.{times_in, times_among, AreApart, IsListOf, LacksList}
use Rattle.dispatch_tables.specs.declared.watch_lists.WatchList.{WatchList}
use Rattle.dispatch_tables.proofs.TimesListed.{flipped}

-- the list that was read at a place, whatever stands in for one beyond the end
pub read_list : (lists : List WatchList) (place : ℕ) (read d : WatchList) → place < length lists → read ≡ get_or lists place read → get_or lists place d ≡ read
read_list lists place read d within is = get_or_default lists place d read within ∙ sym is

-- how often the descriptor q stands in a list, if that is of id j
abbrev times_if : ℕ → ℕ → WatchList → ℕ
times_if j q list = cond (list.id == j) (times_in list.fds.items q) 0

times_if_other : (j q : ℕ) (list : WatchList) → list.id ≢ j → times_if j q list ≡ 0
times_if_other j q list other = elim (eqb_tells list.id j) [
  | inl p ↦ absurd (other p.1)
  | inr p ↦ ap (λ b. cond b (times_in list.fds.items q) 0) p.0
]

times_if_own : (j q : ℕ) (list : WatchList) → list.id ≡ j → times_if j q list ≡ times_in list.fds.items q
times_if_own j q list own = elim (eqb_tells list.id j) [
  | inl p ↦ ap (λ b. cond b (times_in list.fds.items q) 0) p.0
  | inr p ↦ absurd (p.1 own)
]

-- what no list is of stands nowhere
pub none_listed : (lists : List WatchList) (j q : ℕ) → LacksList lists j → times_among lists j q ≡ 0
none_listed [] j q lacks = refl
none_listed (list ∷ lists) j q lacks =
    let rest = none_listed lists j q (λ k d below. lacks (suc k) d (omega (arith, below))) in
    omega (arith, sum_by-cons (times_if j q) list lists, times_if_other j q list (lacks 0 list (omega arith)), rest)

-- what stands in the list of an id stands in the one at its place
pub only_list : (lists : List WatchList) (j q place : ℕ) (d : WatchList) → AreApart lists → IsListOf lists j place → times_among lists j q ≡ times_in (get_or lists place d).fds.items q
only_list [] j q place d apart is = absurd (omega (arith, is.0))
only_list (list ∷ lists) j q zero d apart is =
    let others = none_listed lists j q (λ k e below same. apart 0 (suc k) e (omega arith) (omega (arith, below)) (is.1 list ∙ sym same)) in
    omega (arith, sum_by-cons (times_if j q) list lists, times_if_own j q list (is.1 list), others)
only_list (list ∷ lists) j q (suc place) d apart is =
    let other = times_if_other j q list (λ same. apart 0 (suc place) d (omega arith) is.0 (same ∙ sym (is.1 d))) in
    let rest = only_list lists j q place d (λ k l e first below. apart (suc k) (suc l) e (omega (arith, first)) (omega (arith, below))) (omega (arith, is.0), is.1) in
    omega (arith, sum_by-cons (times_if j q) list lists, other, rest)

-- one list changed: of one id
module _ (lists after : List WatchList) (id place : ℕ) (is : IsListOf lists id place) where
  module _ (list : WatchList) (changed : after ≡ set lists place list) (own : list.id ≡ id) where
    abbrev pub old : WatchList
    old = get_or lists place list

    same_id : (k : ℕ) (d : WatchList) → k < length lists → (get_or after k d).id ≡ (get_or lists k d).id
    same_id k d below = elim (eqb_tells k place) [
      | inl p ↦ ap (λ l. (get_or l k d).id) changed ∙ subst (λ n. (get_or (set lists place list) n d).id ≡ (get_or lists n d).id) (sym p.1) (ap (λ (l : WatchList). l.id) (get_or-set_at lists place place list d refl is.0) ∙ own ∙ sym (is.1 d))
      | inr p ↦ ap (λ l. (get_or l k d).id) changed ∙ ap (λ (l : WatchList). l.id) (get_or-set_other lists place k list d p.1)
    ]

    as_long : length after ≡ length lists
    as_long = ap length changed ∙ length-set lists place list

    -- before and after, in the lists of id j
    times_changed : (j q : ℕ) → times_among after j q + times_if j q old ≡ times_among lists j q + times_if j q list
    times_changed j q = ap (λ l. times_among l j q + times_if j q old) changed ∙ sum_by-set (times_if j q) lists place list list is.0

    -- old and new, as tests of the id
    own_times : (j q : ℕ) → times_if j q list ≡ cond (j == id) (times_in list.fds.items q) 0
    own_times j q = ap (λ n. cond (n == j) (times_in list.fds.items q) 0) own ∙ ap (λ b. cond b (times_in list.fds.items q) 0) (flipped id j)

    old_times : (j q : ℕ) → times_if j q old ≡ cond (j == id) (times_in old.fds.items q) 0
    old_times j q = ap (λ n. cond (n == j) (times_in old.fds.items q) 0) (is.1 list) ∙ ap (λ b. cond b (times_in old.fds.items q) 0) (flipped id j)

    more_by : (b : Bool) (now was then new more : ℕ) → new ≡ then + more → now + cond b then 0 ≡ was + cond b new 0 → now ≡ was + cond b more 0
    more_by true now was then new more grown total = omega (arith, grown, total)
    more_by false now was then new more grown total = omega (arith, total)

    none_by : (b : Bool) (now was then : ℕ) → (b ≡ true → was ≡ then) → now + cond b then 0 ≡ was + cond b 0 0 → now ≡ cond b 0 was
    none_by true now was then all total = omega (arith, all refl, total)
    none_by false now was then all total = omega (arith, total)

    all_of_it : AreApart lists → (j q : ℕ) → (j == id) ≡ true → times_among lists j q ≡ times_in old.fds.items q
    all_of_it apart j q e = elim (eqb_tells j id) [
      | inl p ↦ ap (λ k. times_among lists k q) p.1 ∙ only_list lists id q place list apart is
      | inr p ↦ absurd (grind (arith, p.0, e))
    ]

    pub times_none : AreApart lists → list.fds.items ≡ [] → (j q : ℕ) → times_among after j q ≡ cond (j == id) 0 (times_among lists j q)
    times_none apart nothing j q =
        let gone = own_times j q ∙ ap (λ fds. cond (j == id) (times_in fds q) 0) nothing in
        none_by (j == id) _ _ _ (all_of_it apart j q) (ap (λ n. times_among after j q + n) (sym (old_times j q)) ∙ times_changed j q ∙ ap (λ n. times_among lists j q + n) gone)

-- an id that no list is of has nothing to lose
pub none_of_none : (lists : List WatchList) (id : ℕ) → LacksList lists id → (j q : ℕ) → times_among lists j q ≡ cond (j == id) 0 (times_among lists j q)
none_of_none lists id lacks j q = elim (eqb_tells j id) [
  | inl p ↦ ap (λ k. times_among lists k q) p.1 ∙ none_listed lists id q lacks ∙ ap (λ b. cond b 0 (times_among lists j q)) (sym p.0)
  | inr p ↦ ap (λ b. cond b 0 (times_among lists j q)) (sym p.0)
]

-- what stands nowhere in a list isn't counted
pub not_listed : (fds : List ℕ) (fd : ℕ) → All (λ one. one ≢ fd) fds → times_in fds fd ≡ 0
not_listed [] fd none = refl
not_listed (one ∷ fds) fd none = elim (eqb_tells one fd) [
  | inl p ↦ absurd (none 0 one (omega arith) p.1)
  | inr p ↦ grind (arith, p.0, sum_by-cons (λ x. cond (x == fd) 1 0) one fds, not_listed fds fd (λ k d below. none (suc k) d (omega (arith, below))))
]
