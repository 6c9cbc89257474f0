-- How many entries a finite map has, once one is put in or taken out.
use Rattle.std.proofs.Common.{◌≡◌, ℕ, zero, suc, ◌+◌, ◌-◌, ◌≤◌, refl, sym, ap, ◌∙◌, true, false, cond, None, arith, is_some, nat_cmp}
use Rattle.std.proofs.lemmas.Bool.{false≢true}
use Rattle.std.specs.Cmp.{nat_cmp_total}
use Rattle.std.specs.FinMap.{FinMap, get, insert, remove, len, len-insert, len-remove, empty_of_len, get-empty}

module _ {X : Type 0} (owners : FinMap nat_cmp X) (fd : ℕ) where
  some_owner : (n : ℕ) → len owners ≡ n → is_some (get owners fd) ≡ true → 1 ≤ n
  some_owner zero none held = absurd (false≢true (ap is_some (sym (get-empty nat_cmp fd)) ∙ ap (λ m. is_some (get m fd)) (sym (empty_of_len owners none)) ∙ held))
  some_owner (suc n) is held = omega arith

  pub held_one : is_some (get owners fd) ≡ true → 1 ≤ len owners
  held_one held = some_owner (len owners) refl held

  pub one_fewer : is_some (get owners fd) ≡ true → len (remove owners fd) ≡ len owners - 1
  one_fewer held = len-remove nat_cmp_total owners fd ∙ ap (λ b. cond b (len owners - 1) (len owners)) held

  pub none_fewer : is_some (get owners fd) ≡ false → len (remove owners fd) ≡ len owners
  none_fewer free = len-remove nat_cmp_total owners fd ∙ ap (λ b. cond b (len owners - 1) (len owners)) free

  pub one_more_owner : (x : X) → get owners fd ≡ None → len (insert owners fd x) ≡ len owners + 1
  one_more_owner x free = len-insert nat_cmp_total owners fd x ∙ ap (λ o. cond (is_some o) (len owners) (len owners + 1)) free
