-- How the manager calls a `vmm_sys` poller, by its stated relations.
use Rattle.std.specs.Prelude.{◌≡◌, ℕ, ℤ, List, [], map, length, pos, Result, Ok, Err}
use base.Stored.{Gv}
use Rattle.vmm_sys.specs.declared.entries.EpollEvent.{EpollEvent}
use Rattle.vmm_sys.specs.declared.errno.Errno.{Errno}
use Rattle.vmm_sys.specs.declared.entries.ControlOperation.{ControlOperation}
use Rattle.vmm_sys.specs.declared.poller.Poller.{Ghosts}
use Rattle.dispatch_tables.specs.Event.{Event, event_of_entry}
use Rattle.vmm_sys.specs.EpollEvent.{event, word_of_halves}
use Rattle.vmm_sys.specs.EventSet.{with_bits}

-- an event as it is packed for a poller
abbrev pub entry_of_event : Event → EpollEvent
entry_of_event e = event (with_bits e.set) (word_of_halves e.payload e.fd)

-- What a wait may give by a poller's relation between its states: a report, or a refusal.
abbrev pub WaitsBy : (Gv → ℤ → ℕ → Result ℕ Errno → List EpollEvent → Gv → Type 0) → Gv → ℤ → ℕ → Result (List Event) Errno → Gv → Type 0
WaitsBy may_wait before ms capacity (Ok events) after = (entries : List EpollEvent) × (map event_of_entry entries ≡ events) × may_wait before ms capacity (Ok (length entries)) entries after
WaitsBy may_wait before ms capacity (Err errno) after = may_wait before ms capacity (Err errno) [] after

module _ {P : Type 0} (poller : Ghosts P) where
  abbrev pub controls : Gv → ControlOperation → ℕ → Event → Result (Unit {0}) Errno → Gv → Type 0
  controls before operation fd event answer after = poller.may_ctl before operation (pos fd) (entry_of_event event) answer after

  abbrev pub waits : Gv → ℤ → ℕ → Result (List Event) Errno → Gv → Type 0
  waits before ms capacity answer after = WaitsBy poller.may_wait before ms capacity answer after
