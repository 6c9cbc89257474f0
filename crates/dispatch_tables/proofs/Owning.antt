-- Which id owns a descriptor, once an entry is put in or taken out.
use Rattle.std.proofs.Common.{◌≡◌, ℕ, Bool, true, false, cond, refl, sym, ap, ◌∙◌, Option, Some, None, is_some, nat_cmp, ◌⊎◌, inl, inr, option_map, unwrap_or}
use Rattle.std.specs.Ordering.{eq_by_cmp}
use Rattle.std.specs.Cmp.{nat_cmp_total}
use Rattle.std.specs.FinMap.{get, insert, remove, get-insert, get-remove}
use Rattle.dispatch_tables.specs.Priority.{number_of}
use Rattle.dispatch_tables.specs.Ownership.{Ownership, OwnerMap, owner_of}
use Rattle.dispatch_tables.proofs.NumberTests.{fd_tells}
use Rattle.dispatch_tables.proofs.MapEntries.{some_is}

-- of an ownership that may be absent: its id, as in `owner_of`; its class, as in `class_in`
abbrev pub owner_id : Option Ownership → Option ℕ
owner_id o = option_map (λ ownership. ownership.id) o

abbrev pub class_by : Option Ownership → ℕ
class_by o = unwrap_or (option_map (λ ownership. number_of ownership.priority) o) 0

pub owner_id-cond : (b : Bool) (o p : Option Ownership) → owner_id (cond b o p) ≡ cond b (owner_id o) (owner_id p)
owner_id-cond true o p = refl
owner_id-cond false o p = refl

pub owner_of-insert : (owners : OwnerMap) (fd : ℕ) (one : Ownership) (q : ℕ) → owner_of (insert owners fd one) q ≡ cond (eq_by_cmp nat_cmp q fd) (Some one.id) (owner_of owners q)
owner_of-insert owners fd one q = ap owner_id (get-insert nat_cmp_total owners fd one q) ∙ owner_id-cond (eq_by_cmp nat_cmp q fd) (Some one) (get owners q)

pub owner_of-remove : (owners : OwnerMap) (fd q : ℕ) → owner_of (remove owners fd) q ≡ cond (eq_by_cmp nat_cmp q fd) None (owner_of owners q)
owner_of-remove owners fd q = ap owner_id (get-remove nat_cmp_total owners fd q) ∙ owner_id-cond (eq_by_cmp nat_cmp q fd) None (get owners q)

-- a descriptor that an id owns has an entry
pub owned_is_some : (o : Option Ownership) (i : ℕ) → owner_id o ≡ Some i → is_some o ≡ true
owned_is_some None i e = cc
owned_is_some (Some one) i e = refl

-- who owns after an entry was put in owned before, or is the new owner; who owns after one was taken out owned before
pub from_insert : (owners : OwnerMap) (fd : ℕ) (one : Ownership) (q i : ℕ) → owner_of (insert owners fd one) q ≡ Some i → ((q ≡ fd) × (one.id ≡ i)) ⊎ (owner_of owners q ≡ Some i)
from_insert owners fd one q i h = elim (fd_tells q fd) [
  | inl p ↦ inl (p.1, some_is one.id i (sym (ap (λ b. cond b (Some one.id) (owner_of owners q)) p.0) ∙ sym (owner_of-insert owners fd one q) ∙ h))
  | inr p ↦ inr (sym (ap (λ b. cond b (Some one.id) (owner_of owners q)) p.0) ∙ sym (owner_of-insert owners fd one q) ∙ h)
]

pub from_remove : (owners : OwnerMap) (fd q i : ℕ) → owner_of (remove owners fd) q ≡ Some i → owner_of owners q ≡ Some i
from_remove owners fd q i h = elim (fd_tells q fd) [
  | inl p ↦ let s : None ≡ Some i = sym (ap (λ b. cond b None (owner_of owners q)) p.0) ∙ sym (owner_of-remove owners fd q) ∙ h in cc
  | inr p ↦ sym (ap (λ b. cond b None (owner_of owners q)) p.0) ∙ sym (owner_of-remove owners fd q) ∙ h
]
