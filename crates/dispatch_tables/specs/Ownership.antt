-- Which id owns each descriptor, and at which priority.
use Rattle.std.specs.Prelude.{ℕ, Option, option_map, unwrap_or, refl}
use Rattle.std.specs.FinMap as finite
use Rattle.std.specs.Ordering.{nat_cmp}
use Rattle.std.specs.Coded.{Coded, code_by, coded×, coded_ℕ}
use Rattle.dispatch_tables.specs.Priority.{number_of, priority_code}
use Rattle.dispatch_tables.specs.declared.priority.Priority.{Priority}

-- the id of an owner, and the priority at which it owns
pub record Ownership : Type 0 where
  pub id : ℕ
  pub priority : Priority

-- the ownership of each descriptor that has an owner
abbrev pub OwnerMap : Type 0
OwnerMap = finite.FinMap nat_cmp Ownership

abbrev pub owner_map_code : Coded OwnerMap
owner_map_code = finite.code coded_ℕ (code_by (ℕ × Priority) (coded× coded_ℕ priority_code) (λ o. (o.id, o.priority)) (λ p. record { id = p.0; priority = p.1 }) (λ _. refl))

-- the id that owns a descriptor, if one does
abbrev pub owner_of : OwnerMap → ℕ → Option ℕ
owner_of owners fd = option_map (λ ownership. ownership.id) (finite.get owners fd)

-- the class of a descriptor: the number of its priority, 0 where nobody owns it
abbrev pub class_in : OwnerMap → ℕ → ℕ
class_in owners fd = unwrap_or (option_map (λ ownership. number_of ownership.priority) (finite.get owners fd)) 0
