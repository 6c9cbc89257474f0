-- Ids that are held, and which numbers they are below.
use Rattle.std.proofs.Common.{◌≡◌, ◌⊎◌, ℕ, ◌+◌, ◌<◌, cond, refl, sym, ap, subst, ◌∙◌, inl, inr, arith, Some, None, nat_cmp, is_eq, Equal}
use Rattle.std.specs.FinMap.{FinMap, get, insert, remove, get-remove}
use Rattle.std.specs.Cmp.{nat_cmp_total, nat_cmp_is}
use Rattle.std.proofs.lemmas.Bool.Decides.{eqb_tells}
use Rattle.event_loop.specs.Registry.{AreBelow}
use Rattle.event_manager.proofs.Isolation.{insert_other_value, remove_other_value}

module _ {V : Type 0} where
  pub from_insert : (j k : ℕ) (values : FinMap nat_cmp V) (u v : V) → get (insert values k v) j ≡ Some u → (j ≡ k) ⊎ (get values j ≡ Some u)
  from_insert j k values u v h = elim (eqb_tells j k) [
    | inl t ↦ inl t.1
    | inr t ↦ inr (sym (insert_other_value k j values v t.1) ∙ h)
  ]

  pub removed_value : (k : ℕ) (values : FinMap nat_cmp V) → get (remove values k) k ≡ None
  removed_value k values = get-remove nat_cmp_total values k k ∙ ap (λ r. cond (is_eq r) None (get values k)) (sym (nat_cmp_is k k Equal refl))

  pub from_remove : (j k : ℕ) (values : FinMap nat_cmp V) (u : V) → get (remove values k) j ≡ Some u → get values j ≡ Some u
  from_remove j k values u h = elim (eqb_tells j k) [
    | inl t ↦ let s : None ≡ Some u = sym (ap (get (remove values k)) t.1 ∙ removed_value k values) ∙ h in cc
    | inr t ↦ sym (remove_other_value k j values t.1) ∙ h
  ]

  -- a value is put at an id that is below
  pub below_insert : (k next : ℕ) (values : FinMap nat_cmp V) (v : V) → k < next → AreBelow next values → AreBelow next (insert values k v)
  below_insert k next values v less h j u is = elim (from_insert j k values u v is) [
    | inl p ↦ subst (λ m. m < next) (sym p) less
    | inr p ↦ h j u p
  ]

  -- the next id joins
  pub below_joined : (id next : ℕ) (values : FinMap nat_cmp V) (v : V) → id ≡ next → AreBelow next values → AreBelow (next + 1) (insert values id v)
  below_joined id next values v is h = below_insert id (next + 1) values v (omega (arith, is)) (λ j u at. let b = h j u at in omega arith)

  pub below_removed : (id next : ℕ) (values : FinMap nat_cmp V) → AreBelow next values → AreBelow next (remove values id)
  below_removed id next values h j u at = h j u (from_remove j id values u at)
