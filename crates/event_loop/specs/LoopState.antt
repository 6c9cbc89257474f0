-- What a contract sees of a registry or a manager between two batches, and what its calls do to that.
use Rattle.std.specs.Prelude.{◌≡◌, ℕ, List, [], ◌∷◌, ℤ, Result, Ok, Err}
use Rattle.std.specs.FinMap as map
use Rattle.vmm_sys.specs.declared.errno.Errno.{Errno}
use Rattle.event_loop.specs.declared.error.Error.{Error}
use Rattle.event_loop.specs.declared.error.Error.TheVariants.{InvalidId}
use Rattle.event_loop.specs.declared.events.Request.{Request}
use Rattle.dispatch_tables.specs.Event.{Event}
use Rattle.event_loop.specs.PollerCall.{PollerCall, Controls, Waits, Leads}
use Rattle.event_loop.specs.Exchange.{Exchanges, Answer, Begins, Serves}
use Rattle.event_loop.specs.Registry.{Registry, LoopStep, Steps, Joined, NotJoined, Left, Requested, Refused, calls_of, new_registry, May}
use Rattle.event_loop.specs.Dispatch.{Position, IsDispatch}
use Rattle.event_loop.specs.Iteration.{LoopContents, Iteration, AllSteps, IsIteration, calls_of_iteration, run_answer}
use Rattle.std.specs.List.{flat_map}

-- the subscribers, the next id and the registrations; how many jobs were taken; the poller; the capacity of a batch
pub record LoopState (S P : Type 0) : Type 0 where
  pub registry : Registry S
  pub taken : ℕ
  pub poller : P
  pub capacity : ℕ

-- a new one
abbrev pub new_loop : {S P : Type 0} → ℕ → P → ℕ → LoopState S P
new_loop endpoint poller capacity = record {
  registry = new_registry endpoint;
  taken = 0;
  poller = poller;
  capacity = capacity;
}

-- with another id that is given next
abbrev pub with_next_id : {S P : Type 0} → LoopState S P → ℕ → LoopState S P
with_next_id state next = record state { registry = record state.registry { next = next } }

-- a number that no descriptor has: descriptors are below it
abbrev pub no_descriptor : ℕ
no_descriptor = 2147483648

-- what jobs may do in a loop that takes none
abbrev pub no_job : {S : Type 0} → ⊥ → List (LoopStep S) → Unit {0} → Type 0
no_job job steps reply = ⊥

-- without poller and capacity
abbrev pub contents_of : {S P : Type 0} → LoopState S P → LoopContents S
contents_of state = record { registry = state.registry; taken = state.taken }

-- with another value at the id
abbrev pub with_value : {S P : Type 0} → LoopState S P → ℕ → S → LoopState S P
with_value state id value = record state { registry = record state.registry { values = map.insert state.registry.values id value } }

module _ {S P : Type 0} (begins : Begins S) (controls : Controls P) (waits : Waits P) where
  -- the step was made, and its calls led the poller from the value before to the value after
  pub record HasStepped (before : LoopState S P) (step : LoopStep S) (after : LoopState S P) : Type 0 where
    pub stepped : Steps begins before.registry step after.registry
    pub led : Leads controls waits before.poller (calls_of step) after.poller
    pub same_taken : after.taken ≡ before.taken
    pub same_capacity : after.capacity ≡ before.capacity

  -- the steps were made, one after another
  pub record HaveStepped (before : LoopState S P) (steps : List (LoopStep S)) (after : LoopState S P) : Type 0 where
    pub stepped : AllSteps begins before.registry steps after.registry
    pub led : Leads controls waits before.poller (flat_map calls_of steps) after.poller
    pub same_taken : after.taken ≡ before.taken
    pub same_capacity : after.capacity ≡ before.capacity

-- the step of a join, by what it answered
abbrev pub IsJoin : {S : Type 0} → S → Result ℕ Error → LoopStep S → Type 0
IsJoin {S} value (Ok id) step = (exchanges : Exchanges) × (calls : List PollerCall) × (held : S) × (step ≡ Joined value id exchanges calls held)
IsJoin value (Err error) step = step ≡ NotJoined value error

-- the step of a leave, by what it answered
abbrev pub IsLeave : {S : Type 0} → ℕ → Result S Error → LoopStep S → Type 0
IsLeave id (Ok value) step = (calls : List PollerCall) × (step ≡ Left id value calls)
IsLeave id (Err error) step = (error ≡ InvalidId) × (step ≡ Refused id)

-- the step of one request, by what it answered
abbrev pub IsRequest : {S : Type 0} → ℕ → Request → Result Answer Error → LoopStep S → Type 0
IsRequest id request (Ok answer) step = (calls : List PollerCall) × (step ≡ Requested id ((request, answer) ∷ []) calls)
IsRequest id request (Err error) step = (error ≡ InvalidId) × (step ≡ Refused id)

module _ {S : Type 0} (serves : Serves S) where
  -- a refused wait changes nothing; after another its report is dispatched
  abbrev pub IsDispatchedAfter : Result (List Event) Errno → List (Position S) → Registry S → Registry S → Type 0
  IsDispatchedAfter (Ok report) positions before after = IsDispatch serves before report positions after
  IsDispatchedAfter (Err errno) positions before after = (positions ≡ []) × (after ≡ before)

module _ {S J R : Type 0} (begins : Begins S) (serves : Serves S) (may : May S J R) where
  -- An iteration of the loop: one wait with the capacity, the dispatch of what that wait reported, and the jobs after it.
  pub record IsLoopIteration {P : Type 0} (controls : Controls P) (waits : Waits P) (before : LoopState S P) (ms : ℤ) (result : Result ℕ Error) (after : LoopState S P) : Type 0 where
    pub iteration : Iteration S J R
    pub milliseconds : iteration.ms ≡ ms
    pub answer : result ≡ run_answer iteration.waited
    pub iterated : IsIteration begins serves may (contents_of before) iteration.waited iteration.positions iteration.jobs (contents_of after)
    pub led : Leads controls waits before.poller (calls_of_iteration before.capacity iteration) after.poller
    pub same_capacity : after.capacity ≡ before.capacity
