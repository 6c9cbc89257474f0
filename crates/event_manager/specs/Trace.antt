-- A list of calls with their replies, from a manager's state to a manager's state.
use Rattle.std.specs.Prelude.{◌≡◌, ℕ, List, [], ◌∷◌, Ok, Err, Vec}
use Rattle.std.specs.List.{flat_map}
use Rattle.std.specs.declared.alloc.Global.{Global}
use Rattle.event_loop.specs.Prelude.{PollerCall, Answer, requests_of, answers_of, Begins, Serves, LoopStep, Steps, Joined, NotJoined, Left, Replaced, Requested, Refused, calls_of, new_registry, May, LoopContents, Iteration, IsIteration, run_answer, calls_of_iteration}
use Rattle.event_loop.specs.declared.events.Request.{Request}
use Rattle.event_loop.specs.declared.error.Error.TheVariants.{InvalidId}
use Rattle.event_manager.specs.declared.calls.Call.{Call}
use Rattle.event_manager.specs.declared.calls.Call.TheVariants as call
use Rattle.event_manager.specs.declared.calls.Reply.{Reply}
use Rattle.event_manager.specs.declared.calls.Reply.TheVariants as reply

-- what a call did: one step, or an iteration
pub data Effect (V J R : Type 0) : Type 0 where
  Stepped : LoopStep V → Effect V J R
  Iterated : Iteration V J R → Effect V J R

-- a call, its reply, and what it did
pub record TraceEntry (V J R : Type 0) : Type 0 where
  pub call : Call V
  pub reply : Reply V
  pub effect : Effect V J R

-- the call and the reply are those of the effect: of a refused step a call of its id, and the reply that nobody has it
abbrev pub Matches : {V J R : Type 0} → Effect V J R → Call V → Reply V → Type 0
Matches (Stepped (Joined value id exchanges calls held)) c r = (c ≡ call.Add value) × (r ≡ reply.Added (Ok id))
Matches (Stepped (NotJoined value error)) c r = (c ≡ call.Add value) × (r ≡ reply.Added (Err error))
Matches (Stepped (Left id value calls)) c r = (c ≡ call.Remove id) × (r ≡ reply.Removed (Ok value))
Matches (Stepped (Replaced id old new)) c r = (c ≡ call.Set id new) × (r ≡ reply.Set (Ok old))
Matches (Stepped (Requested id exchanges calls)) c r =
    (requests : Vec Request Global) × (answers : Vec Answer Global) × (c ≡ call.Ask id requests) × (r ≡ reply.Asked (Ok answers))
    × (requests_of exchanges ≡ requests.items) × (answers_of exchanges ≡ answers.items)
Matches (Stepped (Refused id)) (call.Remove i) r = (i ≡ id) × (r ≡ reply.Removed (Err InvalidId))
Matches (Stepped (Refused id)) (call.Set i value) r = (i ≡ id) × (r ≡ reply.Set (Err InvalidId))
Matches (Stepped (Refused id)) (call.Ask i requests) r = (i ≡ id) × (r ≡ reply.Asked (Err InvalidId))
Matches (Stepped (Refused id)) c r = ⊥
Matches (Iterated iteration) c r = (c ≡ call.Run iteration.ms) × (r ≡ reply.Ran (run_answer iteration.waited))

module _ {V J R : Type 0} (begins : Begins V) (serves : Serves V) (may : May V J R) where
  abbrev pub HasEffect : LoopContents V → Effect V J R → LoopContents V → Type 0
  HasEffect before (Stepped step) after = Steps begins before.registry step after.registry × (after.taken ≡ before.taken)
  HasEffect before (Iterated iteration) after = IsIteration begins serves may before iteration.waited iteration.positions iteration.jobs after

  -- each call from the state that the one before it left
  abbrev pub IsTrace : LoopContents V → List (TraceEntry V J R) → LoopContents V → Type 0
  IsTrace before [] after = after ≡ before
  IsTrace before (entry ∷ trace) after = (mid : LoopContents V) × Matches entry.effect entry.call entry.reply × HasEffect before entry.effect mid × IsTrace mid trace after

-- the poller calls of a trace, in order
abbrev pub calls_of_effect : {V J R : Type 0} → ℕ → Effect V J R → List PollerCall
calls_of_effect capacity (Stepped step) = calls_of step
calls_of_effect capacity (Iterated iteration) = calls_of_iteration capacity iteration

abbrev pub calls_of_trace : {V J R : Type 0} → ℕ → List (TraceEntry V J R) → List PollerCall
calls_of_trace capacity trace = flat_map (λ entry. calls_of_effect capacity entry.effect) trace

-- a new manager, by its endpoint's descriptor
abbrev pub new_state : {V : Type 0} → ℕ → LoopContents V
new_state endpoint = record { registry = new_registry endpoint; taken = 0 }
