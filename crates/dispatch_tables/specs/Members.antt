-- The subscribers by id, and the id that is given next.
use Rattle.std.specs.Prelude.{◌≡◌, ℕ, ◌+◌, ◌<◌, Some, refl}
use Rattle.std.specs.Ordering.{nat_cmp}
use Rattle.std.specs.FinMap as map
use Rattle.std.specs.Coded.{Coded, code_by, coded×, coded_ℕ}

pub record Members (S : Type 0) : Type 0 where
  pub by_id : map.FinMap nat_cmp S
  pub next : ℕ

module _ {S : Type 0} where
  -- stored as the pair of its fields
  abbrev pub members_code : Coded S → Coded (Members S)
  members_code code = code_by (map.FinMap nat_cmp S × ℕ) (coded× (map.code coded_ℕ code) coded_ℕ) (λ m. (m.by_id, m.next)) (λ p. record { by_id = p.0; next = p.1 }) (λ _. refl)

  -- nobody, before the first id
  abbrev pub nobody : Members S
  nobody = record { by_id = map.empty; next = 1 }

  -- one more, under the next id; another value at an id; without an id
  abbrev pub joined_by : Members S → S → Members S
  joined_by members subscriber = record { by_id = map.insert members.by_id members.next subscriber; next = members.next + 1 }

  abbrev pub with_member : Members S → ℕ → S → Members S
  with_member members id subscriber = record { by_id = map.insert members.by_id id subscriber; next = members.next }

  abbrev pub without_member : Members S → ℕ → Members S
  without_member members id = record { by_id = map.remove members.by_id id; next = members.next }

  -- each held id is below the next
  abbrev pub AreBelow : Members S → Type 0
  AreBelow members = (id : ℕ) (subscriber : S) → map.get members.by_id id ≡ Some subscriber → id < members.next
