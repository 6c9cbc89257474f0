-- What `drive` promises: the calls with their replies are a trace, and the guarantees hold of that trace.
use Rattle.std.specs.Prelude.{◌≡◌, ℕ, Bool, false, List, map}
use Rattle.event_loop.specs.Prelude.{Event, PollerCall, Controls, Waits, Leads, Begins, Serves, Registry, LoopStep, Steps, AreBelow, Left, is_id, id_of, May, Delivery, IsDelivery, LoopContents, LoopState, contents_of}
use Rattle.event_manager.specs.Trace.{TraceEntry, IsTrace, calls_of_trace}
use Rattle.event_manager.specs.History.{history_of}
use Rattle.event_manager.specs.Projection.{NonInterference, receiver_of}
use Rattle.event_manager.specs.Guarantees.{IsSound, AreGiven, RemovedStayGone, IsUntouched, FreesExactly}
use Rattle.event_manager.specs.declared.calls.Call.{Call}
use Rattle.event_manager.specs.declared.calls.Reply.{Reply}

module _ {S J R : Type 0} (begins : Begins S) (serves : Serves S) (may : May S J R) where
  module _ {P : Type 0} (controls : Controls P) (waits : Waits P) where
    -- the calls with their replies are this trace, and its poller calls lead the poller from the value before to the value after
    pub record IsTraceOf (before : LoopState S P) (calls : List (Call S)) (replies : List (Reply S))
        (after : LoopState S P) (trace : List (TraceEntry S J R)) : Type 0 where
      pub calls_are : map (λ entry. entry.call) trace ≡ calls
      pub replies_are : map (λ entry. entry.reply) trace ≡ replies
      pub is_trace : IsTrace begins serves may (contents_of before) trace (contents_of after)
      pub led : Leads controls waits before.poller (calls_of_trace before.capacity trace) after.poller
      pub same_capacity : after.capacity ≡ before.capacity

  -- Of a trace, by its history, which has the steps of its jobs: ids are given in order, each once; each held id is below the
  -- next, before and after; what was removed is refused from then on; each owner is held, and the endpoint is never owned; a
  -- projection to an id that is apart is itself a history, up to the id's own part of the registry after. Of any step, and of any
  -- event's delivery: the other ids keep their value, descriptors and pending events; any leave frees exactly its descriptors.
  pub record IsGuaranteed (before : LoopContents S) (trace : List (TraceEntry S J R)) (after : LoopContents S) : Type 0 where
    pub given : AreGiven before.registry.next (history_of trace) after.registry.next
    pub below : AreBelow before.registry.next before.registry.values × AreBelow after.registry.next after.registry.values
    pub removed : RemovedStayGone (history_of trace)
    pub sound : IsSound before.registry → IsSound after.registry
    pub non_interference : NonInterference begins serves before.registry (history_of trace) after.registry
    pub isolated_step : (from : Registry S) (step : LoopStep S) (onto : Registry S) → Steps begins from step onto → (j : ℕ) → is_id j (id_of step) ≡ false → IsUntouched j from onto
    pub isolated_delivery : (from : Registry S) (removed : Bool) (event : Event) (delivery : Delivery S) (onto : Registry S)
        → IsDelivery serves from removed event delivery onto → (j : ℕ) → is_id j (receiver_of delivery) ≡ false → IsUntouched j from onto
    pub leave_frees : (from onto : Registry S) (i : ℕ) (value : S) (calls : List PollerCall)
        → Steps begins from (Left i value calls) onto → FreesExactly i from.registrations onto.registrations

  -- the calls with their replies are a trace, of which the guarantees hold
  pub record IsDriven {P : Type 0} (controls : Controls P) (waits : Waits P) (before : LoopState S P)
      (calls : List (Call S)) (replies : List (Reply S)) (after : LoopState S P) : Type 0 where
    pub trace : List (TraceEntry S J R)
    pub is_trace_of : IsTraceOf controls waits before calls replies after trace
    pub guaranteed : IsGuaranteed (contents_of before) trace (contents_of after)
