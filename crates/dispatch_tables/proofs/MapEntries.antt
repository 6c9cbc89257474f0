-- A finite map after an entry is put in or taken out.
use Rattle.std.proofs.Common.{◌≡◌, ℕ, Bool, true, false, cond, refl, sym, ap, ◌∙◌, Option, Some, None, nat_cmp, is_eq, is_some, Less, Equal, Greater, Ordering}
use Rattle.std.specs.Ordering.{eq_by_cmp}
use Rattle.std.proofs.lemmas.Bool.{false≢true}
use Rattle.std.specs.Cmp.{nat_cmp_is, nat_cmp_total}
use Rattle.std.specs.FinMap.{FinMap, get, insert, remove, get-insert, get-remove, same_map, nat_cmp-IsAntisymmetric, get_tied}

untouched : {X : Type 0} (m : FinMap nat_cmp X) (k : ℕ) (v : X) (q : ℕ) → get m k ≡ None → (r : Ordering) → nat_cmp q k ≡ r → cond (is_eq r) None (cond (is_eq r) (Some v) (get m q)) ≡ get m q
untouched m k v q free Less e = refl
untouched m k v q free Equal e = sym free ∙ get_tied nat_cmp_total m q k e
untouched m k v q free Greater e = refl

pub remove_insert : {X : Type 0} (m : FinMap nat_cmp X) (k : ℕ) (v : X) → get m k ≡ None → remove (insert m k v) k ≡ m
remove_insert m k v free = same_map nat_cmp_total nat_cmp-IsAntisymmetric _ _ (λ q. get-remove nat_cmp_total _ k q ∙ ap (cond (eq_by_cmp nat_cmp q k) None) (get-insert nat_cmp_total m k v q) ∙ untouched m k v q free _ refl)

pub none_of : {A : Type 0} (o : Option A) → is_some o ≡ false → o ≡ None
none_of None e = refl
none_of (Some x) e = absurd (false≢true (sym e))

inner : {A : Type 0} (b : Bool) (v w : A) (x : Option A) → cond b (Some w) (cond b (Some v) x) ≡ cond b (Some w) x
inner true v w x = refl
inner false v w x = refl

pub insert_twice : {X : Type 0} (m : FinMap nat_cmp X) (k : ℕ) (v w : X) → insert (insert m k v) k w ≡ insert m k w
insert_twice m k v w = same_map nat_cmp_total nat_cmp-IsAntisymmetric _ _ (λ q. get-insert nat_cmp_total _ k w q ∙ ap (λ x. cond (eq_by_cmp nat_cmp q k) (Some w) x) (get-insert nat_cmp_total m k v q) ∙ inner (eq_by_cmp nat_cmp q k) v w (get m q) ∙ sym (get-insert nat_cmp_total m k w q))

pub get_same : {X : Type 0} (m : FinMap nat_cmp X) (k : ℕ) (v : X) → get (insert m k v) k ≡ Some v
get_same m k v = get-insert nat_cmp_total m k v k ∙ ap (λ b. cond b (Some v) (get m k)) (ap is_eq (sym (nat_cmp_is k k Equal refl)))

pub some_is : {X : Type 0} (x y : X) → Some x ≡ Some y → x ≡ y
some_is x y e = cc
