-- The two parts of what the code keeps: who owns what, and the ready list.
use Rattle.std.specs.Prelude.{ℕ, Bool, List, [], refl}
use Rattle.std.specs.Coded.{Coded, code_by, coded×, coded_ℕ, coded_bool, coded_list}
use Rattle.dispatch_tables.specs.Event.{Event, event_code}
use Rattle.dispatch_tables.specs.Ownership.{OwnerMap, owner_map_code}
use Rattle.event_loop.specs.Registrations.{Registrations}
use Rattle.event_loop.specs.RegistrationState.{RegistrationState}

-- the owners, and the endpoint's descriptor
pub record OwnerState : Type 0 where
  pub owners : OwnerMap
  pub endpoint : ℕ

abbrev pub owner_state_code : Coded OwnerState
owner_state_code = code_by (OwnerMap × ℕ) (coded× owner_map_code coded_ℕ) (λ s. (s.owners, s.endpoint)) (λ p. record { owners = p.0; endpoint = p.1 }) (λ _. refl)

-- the capacity; the positions that are still to come, each with a mark where it is cancelled; how many more descriptors can be cancelled
pub record ReadyListState : Type 0 where
  pub capacity : ℕ
  pub ready : List (Event × Bool)
  pub room : ℕ

abbrev pub ready_list_state_code : Coded ReadyListState
ready_list_state_code =
    code_by (ℕ × (List (Event × Bool) × ℕ)) (coded× coded_ℕ (coded× (coded_list (coded× event_code coded_bool)) coded_ℕ))
    (λ b. (b.capacity, (b.ready, b.room))) (λ p. record { capacity = p.0; ready = p.1.0; room = p.1.1 }) (λ _. refl)

-- the registrations where no batch is under way
abbrev pub between_batches : OwnerState → Registrations
between_batches s = record { owners = s.owners; endpoint = s.endpoint; pending = [] }

-- the two parts as one
abbrev pub state_of_parts : OwnerState → ReadyListState → RegistrationState
state_of_parts s b = record { owners = s.owners; endpoint = s.endpoint; capacity = b.capacity; ready = b.ready }
