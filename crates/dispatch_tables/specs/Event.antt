-- An event: a descriptor, its data and a set of kinds.
use Rattle.std.specs.Prelude.{ℕ, refl}
use Rattle.std.specs.Coded.{Coded, code_by, coded×, coded_ℕ}
use Rattle.vmm_sys.specs.declared.entries.EpollEvent.{EpollEvent}
use Rattle.vmm_sys.specs.EpollEvent.{high_half, low_half, set_of}
use Rattle.vmm_sys.specs.EventSet.{bits_of}

-- The descriptor is the low half of an entry's word: numbers from 2^31 on are the
-- negative descriptors, which nobody can own. The set is given by its bits.
pub record Event : Type 0 where
  pub fd : ℕ
  pub payload : ℕ
  pub set : ℕ

-- an event is stored as the triple of its parts
abbrev pub event_code : Coded Event
event_code = code_by (ℕ × (ℕ × ℕ)) (coded× coded_ℕ (coded× coded_ℕ coded_ℕ)) (λ e. (e.fd, (e.payload, e.set))) (λ p. record { fd = p.0; payload = p.1.0; set = p.1.1 }) (λ _. refl)

-- the event that a reported entry stands for: descriptor in the low half of the word, data in the high half
abbrev pub event_of_entry : EpollEvent → Event
event_of_entry e = record { fd = low_half e; payload = high_half e; set = bits_of (set_of e) }
