-- Jobs that ran on a registry of the program.
use Rattle.std.specs.Prelude.{◌≡◌, ℕ, List, map}
use Rattle.event_loop.specs.Prelude.{Controls, Waits, Leads, Begins, Serves, LoopStep, May, JobRun, AreRun, calls_of_jobs, LoopState, HaveStepped}
use Rattle.event_manager.specs.declared.jobs.queue.Entry.{Entry}

-- how many jobs ran, and what was taken and didn't run
pub record Taken (J : Type 0) : Type 0 where
  pub ran : ℕ
  pub entries : List (Entry J (Unit {0}))

module _ {S P J R : Type 0} (begins : Begins S) (may : May S J R) (controls : Controls P) (waits : Waits P) where
  -- one job ran: it made steps that it may make, and gave a reply that it may then give
  pub record HasRun (before : LoopState S P) (job : J) (after : LoopState S P) : Type 0 where
    pub steps : List (LoopStep S)
    pub reply : R
    pub might : may job steps reply
    pub stepped : HaveStepped begins controls waits before steps after

-- these jobs, which follow those taken so far, ran one after another, each under its own ticket, and were counted
pub record JobsAreRun {S P J R : Type 0} (begins : Begins S) (serves : Serves S) (may : May S J R) (controls : Controls P) (waits : Waits P)
    (before : LoopState S P) (taken : ℕ) (handed_out : List (ℕ × J)) (after : LoopState S P) (taken_after : ℕ) : Type 0 where
  pub jobs : List (JobRun S J R)
  pub are_those : map (λ job_run. (job_run.ticket, job_run.job)) jobs ≡ handed_out
  pub ran : AreRun begins serves may (record { registry = before.registry; taken = taken }) jobs (record { registry = after.registry; taken = taken_after })
  pub led : Leads controls waits before.poller (calls_of_jobs jobs) after.poller
  pub same_capacity : after.capacity ≡ before.capacity
