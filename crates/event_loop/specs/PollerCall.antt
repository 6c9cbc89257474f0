-- Calls of a poller, and where they lead it.
use Rattle.std.specs.Prelude.{◌≡◌, ℕ, ◌≤◌, ℤ, List, [], ◌∷◌, length, Result, IfOk}
use Rattle.dispatch_tables.specs.Event.{Event}
use Rattle.vmm_sys.specs.declared.errno.Errno.{Errno}
use Rattle.vmm_sys.specs.declared.entries.ControlOperation.{ControlOperation}

-- one call of the poller, with its answer
pub data PollerCall : Type 0 where
  Control : ControlOperation → ℕ → Event → Result (Unit {0}) Errno → PollerCall
  Wait : (ms : ℤ) (capacity : ℕ) → Result (List Event) Errno → PollerCall

-- controls: which answer and state a ctl may give from a state, an operation, a descriptor and an event.
-- waits: which report or refusal, and which state, a wait may give from a state, the milliseconds and the capacity.
abbrev pub Controls : Type 0 → Type 1
Controls P = P → ControlOperation → ℕ → Event → Result (Unit {0}) Errno → P → Type 0

abbrev pub Waits : Type 0 → Type 1
Waits P = P → ℤ → ℕ → Result (List Event) Errno → P → Type 0

module _ {P : Type 0} (controls : Controls P) (waits : Waits P) where
  -- the calls, in order, lead from the first state to the last; a report has at most as many events as a batch holds
  abbrev pub Leads : P → List PollerCall → P → Type 0
  Leads before [] after = after ≡ before
  Leads before (Control operation fd event answer ∷ calls) after = (mid : P) × controls before operation fd event answer mid × Leads mid calls after
  Leads before (Wait ms capacity answer ∷ calls) after = (mid : P) × waits before ms capacity answer mid × IfOk answer (λ report. length report ≤ capacity) × Leads mid calls after
