-- What one call of a list did.
use Rattle.std.specs.Prelude.{◌≡◌, ℕ, List, vec_len, Vec, Result, Ok, Err}
use Rattle.std.specs.declared.alloc.Global.{Global}
use Rattle.event_loop.specs.Prelude.{PollerCall, Controls, Waits, Leads, Exchanges, Answer, requests_of, answers_of, Begins, Serves, LoopStep, Requested, Replaced, Refused, May, LoopState, contents_of}
use Rattle.event_loop.specs.declared.error.Error.{Error}
use Rattle.event_loop.specs.declared.events.Request.{Request}
use Rattle.event_manager.specs.Trace.{Effect, HasEffect, calls_of_effect}
use Rattle.event_loop.specs.declared.error.Error.TheVariants.{InvalidId}
use Rattle.event_manager.specs.declared.calls.Call.{Call}
use Rattle.event_manager.specs.declared.calls.Call.TheVariants.{Add, Remove, Set, Ask, Run}

-- how many answers the reply to a call has in it
abbrev pub answers_to : {V : Type 0} → Call V → ℕ
answers_to (Add value) = 0
answers_to (Remove id) = 0
answers_to (Set id value) = 0
answers_to (Ask id requests) = vec_len requests
answers_to (Run ms) = 0

-- the step of requests in order, by what was answered
abbrev pub IsAsk : {V : Type 0} → ℕ → List Request → Result (Vec Answer Global) Error → LoopStep V → Type 0
IsAsk id requests (Ok answers) step =
    (exchanges : Exchanges) × (calls : List PollerCall) × (step ≡ Requested id exchanges calls) × (requests_of exchanges ≡ requests) × (answers_of exchanges ≡ answers.items)
IsAsk id requests (Err error) step = (error ≡ InvalidId) × (step ≡ Refused id)

-- the step of another value, by what was answered
abbrev pub IsReplacement : {V : Type 0} → ℕ → V → Result V Error → LoopStep V → Type 0
IsReplacement id value (Ok old) step = step ≡ Replaced id old value
IsReplacement id value (Err error) step = (error ≡ InvalidId) × (step ≡ Refused id)

-- a call had this effect
pub record HasCalled {S J R P : Type 0} (begins : Begins S) (serves : Serves S) (may : May S J R) (controls : Controls P) (waits : Waits P)
    (before : LoopState S P) (effect : Effect S J R) (after : LoopState S P) : Type 0 where
  pub had : HasEffect begins serves may (contents_of before) effect (contents_of after)
  pub led : Leads controls waits before.poller (calls_of_effect before.capacity effect) after.poller
  pub same_capacity : after.capacity ≡ before.capacity
