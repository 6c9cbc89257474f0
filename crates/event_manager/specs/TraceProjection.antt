-- The projection of a trace in which no job ran: what its history leaves out, calls and replies, stays.
use Rattle.std.specs.Prelude.{◌≡◌, ◌≢◌, ℕ, nat_lt, Bool, true, false, List, map, filter, All, Some, IfSome, IsTrue, ◌⊎◌, if◌then◌else◌}
use Rattle.std.specs.List.{flat_map}
use Rattle.event_loop.specs.Prelude.{Owns, Exchanges, Begins, Serves, May, LoopContents, is_id, id_of}
use Rattle.event_manager.specs.Trace.{Effect, Stepped, Iterated, TraceEntry, IsTrace}
use Rattle.event_manager.specs.History.{Made, Waited}
use Rattle.event_manager.specs.Projection.{projected_registry, receiver_of, turn_exchanges, asks_to_add, has_addition}

-- whether the effect is i's: a step that names i, or the join that gave it; each iteration
abbrev pub is_seen : {V J R : Type 0} → ℕ → Effect V J R → Bool
is_seen i (Stepped step) = is_id i (id_of step)
is_seen i (Iterated iteration) = true

-- what i sees of an effect: of an iteration the positions that it got; of a trace: the effects that are its own, with their calls and replies
abbrev pub projected_effect : {V J R : Type 0} → ℕ → Effect V J R → Effect V J R
projected_effect i (Stepped step) = Stepped step
projected_effect i (Iterated iteration) = Iterated (record iteration { positions = filter (λ position. is_id i (receiver_of position.delivery)) iteration.positions })

abbrev pub entries_seen : {V J R : Type 0} → ℕ → List (TraceEntry V J R) → List (TraceEntry V J R)
entries_seen {V} {J} {R} i trace = map (λ (entry : TraceEntry V J R). record entry { effect = projected_effect i entry.effect }) (filter (λ entry. is_seen i entry.effect) trace)

-- nobody but i has part in the effect
abbrev pub IsOnlyEffect : {V J R : Type 0} → ℕ → Effect V J R → Type 0
IsOnlyEffect i (Stepped step) = id_of step ≡ Some i
IsOnlyEffect i (Iterated iteration) = All (λ position. IfSome (receiver_of position.delivery) (λ j. j ≡ i)) iteration.positions

-- A projection of a trace to i: i sees the same in it, and nobody else has part in it.
abbrev pub IsTraceProjection : {V J R : Type 0} → ℕ → List (TraceEntry V J R) → List (TraceEntry V J R) → Type 0
IsTraceProjection i trace projected = (entries_seen i projected ≡ entries_seen i trace) × All (λ entry. IsOnlyEffect i entry.effect) projected

-- the exchanges of id i in the calls and batches of a trace, in order
abbrev pub effect_exchanges : {V J R : Type 0} → ℕ → Effect V J R → Exchanges
effect_exchanges i (Stepped step) = turn_exchanges i (Made step)
effect_exchanges {V} i (Iterated iteration) = turn_exchanges {V = V} i (Waited iteration.ms iteration.waited iteration.positions)

abbrev pub trace_exchanges : {V J R : Type 0} → ℕ → List (TraceEntry V J R) → Exchanges
trace_exchanges i trace = flat_map (λ entry. effect_exchanges i entry.effect) trace

-- as `IsApart` of a history
abbrev pub IsApartInTrace : {V J R : Type 0} → ℕ → LoopContents V → List (TraceEntry V J R) → Type 0
IsApartInTrace i before trace =
    (fd : ℕ) (j : ℕ) → j ≢ i → Owns i before.registry.registrations fd ⊎ IsTrue (asks_to_add fd (trace_exchanges i trace))
    → ¬ Owns j before.registry.registrations fd × (has_addition fd (trace_exchanges j trace) ≡ false)

-- the manager without the values and descriptors of other ids, and with this next id
abbrev pub projected_state : {V : Type 0} → ℕ → ℕ → LoopContents V → LoopContents V
projected_state i next state = record { registry = record (projected_registry i state.registry) { next = next }; taken = state.taken }

-- Of a trace in which no job ran, a projection to each i that is apart is itself a trace. Its next id is that of the trace where i
-- has joined before, else i.
abbrev pub TracesProject : {V J R : Type 0} → Begins V → Serves V → May V J R → LoopContents V → List (TraceEntry V J R) → LoopContents V → Type 0
TracesProject {V} {J} {R} begins serves may before trace after =
    (i : ℕ) → after.taken ≡ before.taken → IsApartInTrace i before trace
    → (next : ℕ) × (projected : List (TraceEntry V J R)) × IsTraceProjection i trace projected
    × IsTrace begins serves may (projected_state i (if nat_lt i before.registry.next then before.registry.next else i) before) projected (projected_state i next after)
