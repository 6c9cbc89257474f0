-- What a map answers that is left without the descriptors of one id.
use Rattle.std.proofs.Common.{◌≡◌, ℕ, cond, not, None, sym, ap, ◌∙◌}
use Rattle.std.specs.FinMap.{get, get-retain_keys, nat_cmp-IsAntisymmetric}
use Rattle.event_loop.specs.Prelude.{OwnerMap, owner_of, is_id, without_owner}
use Rattle.dispatch_tables.proofs.Owning.{owner_id-cond, owner_id}

pub get-without_owner : (i : ℕ) (owners : OwnerMap) (fd : ℕ) → get (without_owner i owners) fd ≡ cond (not (is_id i (owner_of owners fd))) (get owners fd) None
get-without_owner i owners fd = get-retain_keys owners _ fd (λ x e. ap (λ y. not (is_id i (owner_of owners y))) (sym (nat_cmp-IsAntisymmetric fd x e)))

pub owner_of-without_owner : (i : ℕ) (owners : OwnerMap) (fd : ℕ) → owner_of (without_owner i owners) fd ≡ cond (not (is_id i (owner_of owners fd))) (owner_of owners fd) None
owner_of-without_owner i owners fd = ap owner_id (get-without_owner i owners fd) ∙ owner_id-cond (not (is_id i (owner_of owners fd))) (get owners fd) None
