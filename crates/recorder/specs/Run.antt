-- What a run does and tells.
use Rattle.std.specs.Prelude.{◌≡◌, ℕ, pos, map, List, ◌∷◌, Ok}
use Rattle.std.proofs.Math.ListN.{replicate}
use Rattle.event_manager.specs.Prelude.{Controls, Waits, HasId, LoopState, no_job}
use Rattle.event_manager.specs.Trace.{TraceEntry}
use Rattle.event_manager.specs.Driven.{IsTraceOf}
use Rattle.event_manager.specs.declared.calls.Call.{Call}
use Rattle.event_manager.specs.declared.calls.Call.TheVariants.{Add, Run}
use Rattle.event_manager.specs.declared.calls.Reply.{Reply}
use Rattle.event_manager.specs.declared.calls.Reply.TheVariants.{Added, Ran}
use Rattle.recorder.specs.Devices.{device_begins, device_serves}
use Rattle.recorder.specs.declared.device.Device.{Device}
use Rattle.recorder.specs.declared.run.Told.{Told}

-- two devices join, and the loop runs this many times
abbrev pub calls_of : Device × Device → ℕ → List (Call Device)
calls_of devices runs = Add devices.0 ∷ Add devices.1 ∷ replicate runs (Run (pos 0))

-- they join under these ids, and the runs report these numbers of events
abbrev pub replies_of : ℕ → ℕ → List ℕ → List (Reply Device)
replies_of queue console events = Added (Ok queue) ∷ Added (Ok console) ∷ map (λ count. Ran (Ok count)) events

-- The calls of a run, five runs of the loop among them, were replied as it tells, and its devices are those at the end, no request of which was refused.
pub record IsRun {P : Type 0} (controls : Controls P) (waits : Waits P) (before : LoopState Device P) (devices : Device × Device) (told : Told) (after : LoopState Device P) : Type 0 where
  pub trace : List (TraceEntry Device ⊥ (Unit {0}))
  pub queue : ℕ
  pub console : ℕ
  pub is_trace_of : IsTraceOf device_begins device_serves no_job controls waits before (calls_of devices 5) (replies_of queue console told.events) after trace
  pub queue_is : HasId after.registry queue told.queue
  pub console_is : HasId after.registry console told.console
  pub queue_answered : told.queue.answer ≡ Ok tt
  pub console_answered : told.console.answer ≡ Ok tt
