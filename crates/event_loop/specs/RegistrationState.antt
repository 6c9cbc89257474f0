-- What the code keeps: the owners, the endpoint's descriptor, the capacity, and the positions of the batch that are still to come, each with a mark where it is cancelled.
use Rattle.std.specs.Prelude.{◌≡◌, ℕ, ◌==◌, Bool, false, not, ◌||◌, List, [], ◌∷◌, map, filter, refl, Result, Ok, Err, length}
use Rattle.vmm_sys.specs.declared.errno.Errno.{Errno}
use Rattle.std.specs.Coded.{Coded, code_by, coded×, coded_ℕ, coded_bool, coded_list}
use Rattle.dispatch_tables.specs.Event.{Event, event_code}
use Rattle.dispatch_tables.specs.Ownership.{OwnerMap, owner_map_code}
use Rattle.event_loop.specs.Registrations.{Registrations}
use Rattle.event_loop.specs.DispatchOrder.{IsDispatchOrder}
use Rattle.event_loop.specs.Registry.{without_owner}
use Rattle.event_loop.specs.Exchange.{Exchanges, has_removal}

pub record RegistrationState : Type 0 where
  pub owners : OwnerMap
  pub endpoint : ℕ
  pub capacity : ℕ
  pub ready : List (Event × Bool)

abbrev pub registration_state_code : Coded RegistrationState
registration_state_code =
    code_by (OwnerMap × (ℕ × (ℕ × List (Event × Bool)))) (coded× owner_map_code (coded× coded_ℕ (coded× coded_ℕ (coded_list (coded× event_code coded_bool)))))
    (λ b. (b.owners, (b.endpoint, (b.capacity, b.ready)))) (λ p. record { owners = p.0; endpoint = p.1.0; capacity = p.1.1.0; ready = p.1.1.1 }) (λ _. refl)

-- the events that aren't cancelled
abbrev pub not_cancelled : List (Event × Bool) → List Event
not_cancelled ready = map (λ p. p.0) (filter (λ p. not p.1) ready)

abbrev pub registrations_of : RegistrationState → Registrations
registrations_of s = record { owners = s.owners; endpoint = s.endpoint; pending = not_cancelled s.ready }

-- once id i left
abbrev pub left_in : ℕ → RegistrationState → RegistrationState
left_in i s = record s { owners = without_owner i s.owners }

-- with a mark at each position on the descriptor
abbrev pub cancel_on : ℕ → List (Event × Bool) → List (Event × Bool)
cancel_on fd ready = map (λ p. (p.0, p.1 || (fd == p.0.fd))) ready

-- with a mark at each position whose descriptor the exchanges remove
abbrev pub cancel_removed : Exchanges → List (Event × Bool) → List (Event × Bool)
cancel_removed [] ready = ready
cancel_removed (exchange ∷ exchanges) ready = map (λ p. (p.0, p.1 || has_removal p.0.fd (exchange ∷ exchanges))) ready

-- a batch, before its first position
abbrev pub all_pending : List Event → List (Event × Bool)
all_pending events = map (λ (e : Event). (e, false)) events

-- what a wait answered, and the state after it: the report is ready in the order of dispatch
abbrev pub HasWaited : RegistrationState → Result (List Event) Errno → Result ℕ Errno → RegistrationState → Type 0
HasWaited before (Ok report) result after =
    (ordered : List Event) × IsDispatchOrder (registrations_of before) report ordered × (result ≡ Ok (length report)) × (after ≡ record before { ready = all_pending ordered })
HasWaited before (Err errno) result after = (result ≡ Err errno) × (after ≡ record before { ready = [] })
