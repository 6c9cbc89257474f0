-- A history of a registry: the steps that calls and jobs made, and the waits with the deliveries of what they reported.
use Rattle.std.specs.Prelude.{◌≡◌, ℤ, List, [], ◌∷◌, map, Result, Ok, Err}
use Rattle.std.specs.List.{flat_map}
use Rattle.vmm_sys.specs.declared.errno.Errno.{Errno}
use Rattle.event_loop.specs.Prelude.{Event, Begins, Serves, Registry, LoopStep, Steps, Position, IsDispatch}
use Rattle.event_manager.specs.Trace.{Effect, Stepped, Iterated, TraceEntry}

-- a turn: a step, of a call or of a job; or a wait, by its milliseconds, with what it gave and the positions of its report
pub data Turn (V : Type 0) : Type 0 where
  Made : LoopStep V → Turn V
  Waited : (ms : ℤ) (waited : Result (List Event) Errno) (positions : List (Position V)) → Turn V

module _ {V : Type 0} (begins : Begins V) (serves : Serves V) where
  -- a refused wait changes nothing; after another its report is dispatched
  abbrev pub IsTurn : Registry V → Turn V → Registry V → Type 0
  IsTurn before (Made step) after = Steps begins before step after
  IsTurn before (Waited ms (Ok report) positions) after = IsDispatch serves before report positions after
  IsTurn before (Waited ms (Err errno) positions) after = (positions ≡ []) × (after ≡ before)

  -- each turn from the registry that the one before it left
  abbrev pub IsHistory : Registry V → List (Turn V) → Registry V → Type 0
  IsHistory before [] after = after ≡ before
  IsHistory before (turn ∷ history) after = (mid : Registry V) × IsTurn before turn mid × IsHistory mid history after

-- the turns of an effect, and of a trace: an iteration is its wait, and then the steps of its jobs
abbrev pub turns_of : {V J R : Type 0} → Effect V J R → List (Turn V)
turns_of (Stepped step) = Made step ∷ []
turns_of (Iterated iteration) = Waited iteration.ms iteration.waited iteration.positions ∷ flat_map (λ job_run. map Made job_run.steps) iteration.jobs

abbrev pub history_of : {V J R : Type 0} → List (TraceEntry V J R) → List (Turn V)
history_of trace = flat_map (λ entry. turns_of entry.effect) trace
