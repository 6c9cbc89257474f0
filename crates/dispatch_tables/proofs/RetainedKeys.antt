-- How many entries are left of those that are kept.
use Rattle.std.proofs.Common.{◌≡◌, ℕ, ◌≤◌, Bool, true, false, cond, List, [], ◌∷◌, None, length, arith, nat_cmp, sym, ap, ◌∙◌}
use Rattle.std.specs.Cmp.{nat_cmp_total}
use Rattle.std.specs.FinMap.{FinMap, retain_keys, len, entries, entries_sorted, from_sorted, get-retain_keys, get-from_sorted, get-entries, len-entries, entries-from_sorted, same_map, nat_cmp-IsAntisymmetric}
use Rattle.std.specs.FinMap.Entries.{where_key, is_sorted-where_key, find-where_key}

fewer : {X : Type 0} (p : ℕ → Bool) (es : List (ℕ × X)) → length (where_key nat_cmp p es) ≤ length es
fewer p [] = omega arith
fewer p (e ∷ es) = elim (p e.0) as (λ b. length (cond b (e ∷ where_key nat_cmp p es) (where_key nat_cmp p es)) ≤ length (e ∷ es)) [
  | true ↦ omega (arith, fewer p es)
  | false ↦ omega (arith, fewer p es)
]

module _ {X : Type 0} (m : FinMap nat_cmp X) (p : ℕ → Bool) where
  retained : retain_keys m p ≡ from_sorted (where_key nat_cmp p (entries m))
  retained = same_map nat_cmp_total nat_cmp-IsAntisymmetric _ _ (λ q.
      get-retain_keys m p q (λ x e. ap p (sym (nat_cmp-IsAntisymmetric q x e)))
      ∙ ap (λ o. cond (p q) o None) (get-entries m q)
      ∙ sym (get-from_sorted nat_cmp (where_key nat_cmp p (entries m)) q (is_sorted-where_key nat_cmp p (entries m) (entries_sorted m)) ∙ find-where_key nat_cmp p q (λ x e. ap p (sym (nat_cmp-IsAntisymmetric q x e))) (entries m)))

  -- at most as many entries are left
  pub len-retain_keys : len (retain_keys m p) ≤ len m
  len-retain_keys =
      let is = ap len retained ∙ len-entries (from_sorted (where_key nat_cmp p (entries m))) ∙ ap length (entries-from_sorted nat_cmp (where_key nat_cmp p (entries m)) (is_sorted-where_key nat_cmp p (entries m) (entries_sorted m))) in
      omega (arith, is, len-entries m, fewer p (entries m))
