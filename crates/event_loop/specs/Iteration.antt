-- One wait, the batch that it reports, and the jobs after it.
use Rattle.std.specs.Prelude.{◌≡◌, ◌≢◌, ◌==◌, Bool, ℕ, ◌+◌, ℤ, pos, List, [], ◌∷◌, ◌++◌, length, All, Result, Ok, Err, if◌then◌else◌}
use Rattle.std.specs.List.{list_any, flat_map}
use Rattle.std.specs.Ordering.{int_eq}
use Rattle.dispatch_tables.specs.Event.{Event}
use Rattle.event_loop.specs.PollerCall.{PollerCall, Wait}
use Rattle.event_loop.specs.Exchange.{Begins, Serves}
use Rattle.event_loop.specs.Registry.{Registry, LoopStep, Steps, calls_of, May}
use Rattle.event_loop.specs.Dispatch.{Delivery, Nobody, To, Position, IsDispatch}
use Rattle.vmm_sys.specs.declared.errno.Errno.{Errno}
use Rattle.event_loop.specs.declared.error.Error.{Error}
use Rattle.event_loop.specs.declared.error.Error.TheVariants.{Epoll}

-- what a loop holds: its registry, and how many jobs it has taken
pub record LoopContents (V : Type 0) : Type 0 where
  pub registry : Registry V
  pub taken : ℕ

-- a job that ran: its ticket, its steps with their answers, its reply
pub record JobRun (V J R : Type 0) : Type 0 where
  pub ticket : ℕ
  pub job : J
  pub steps : List (LoopStep V)
  pub reply : R

-- an iteration: the milliseconds, what the wait gave, the positions of its report, the jobs that ran
pub record Iteration (V J R : Type 0) : Type 0 where
  pub ms : ℤ
  pub waited : Result (List Event) Errno
  pub positions : List (Position V)
  pub jobs : List (JobRun V J R)

-- the answer of a run: the number of entries, and none after an interrupted wait
abbrev pub run_answer : Result (List Event) Errno → Result ℕ Error
run_answer (Ok report) = Ok (length report)
run_answer (Err errno) = if int_eq errno.0 (pos 4) then Ok 0 else Err (Epoll errno)

-- whether an event of the report is on this descriptor
abbrev pub is_reported : ℕ → List Event → Bool
is_reported fd report = list_any (λ e. e.fd == fd) report

module _ {V : Type 0} (begins : Begins V) where
  -- the steps, one after another
  abbrev pub AllSteps : Registry V → List (LoopStep V) → Registry V → Type 0
  AllSteps before [] after = after ≡ before
  AllSteps before (step ∷ steps) after = (mid : Registry V) × Steps begins before step mid × AllSteps mid steps after

module _ {V J R : Type 0} (begins : Begins V) (serves : Serves V) (may : May V J R) where
  -- the jobs, one after another, with the tickets that follow the jobs taken so far
  abbrev pub AreRun : LoopContents V → List (JobRun V J R) → LoopContents V → Type 0
  AreRun before [] after = after ≡ before
  AreRun before (job_run ∷ jobs) after =
      (mid : Registry V) × (job_run.ticket ≡ before.taken + 1) × may job_run.job job_run.steps job_run.reply × AllSteps begins before.registry job_run.steps mid
      × AreRun (record { registry = mid; taken = before.taken + 1 }) jobs after

  -- a refused wait changes nothing; after another its report is dispatched, and then jobs may run if the endpoint was reported
  abbrev pub IsIteration : LoopContents V → Result (List Event) Errno → List (Position V) → List (JobRun V J R) → LoopContents V → Type 0
  IsIteration before (Err errno) positions jobs after = (positions ≡ []) × (jobs ≡ []) × (after ≡ before)
  IsIteration before (Ok report) positions jobs after =
      (mid : Registry V) × IsDispatch serves before.registry report positions mid × (All (λ e. e.fd ≢ before.registry.registrations.endpoint) report → jobs ≡ [])
      × AreRun (record before { registry = mid }) jobs after

abbrev pub calls_of_delivery : {V : Type 0} → Delivery V → List PollerCall
calls_of_delivery Nobody = []
calls_of_delivery (To id exchanges calls after) = calls

abbrev pub calls_of_positions : {V : Type 0} → List (Position V) → List PollerCall
calls_of_positions positions = flat_map (λ position. calls_of_delivery position.delivery) positions

abbrev pub calls_of_jobs : {V J R : Type 0} → List (JobRun V J R) → List PollerCall
calls_of_jobs jobs = flat_map (λ job_run. flat_map calls_of job_run.steps) jobs

-- the poller calls of an iteration, by the manager's capacity
abbrev pub calls_of_iteration : {V J R : Type 0} → ℕ → Iteration V J R → List PollerCall
calls_of_iteration capacity iteration = Wait iteration.ms capacity iteration.waited ∷ calls_of_positions iteration.positions ++ calls_of_jobs iteration.jobs
