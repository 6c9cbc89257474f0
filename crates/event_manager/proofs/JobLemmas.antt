-- Jobs after a batch, put together to an iteration.
use Rattle.std.proofs.Common.{◌≡◌, ◌≢◌, All, ℕ, ◌+◌, ◌==◌, ℤ, List, [], ◌∷◌, refl, sym, ap, ◌∙◌, true, false, get_or, ne_eqb, Result, Ok, Err}
use Rattle.std.proofs.lemmas.Bool.{false≢true}
use Rattle.std.proofs.lemmas.List.Folds.{list_any_none}
use Rattle.vmm_sys.specs.declared.errno.Errno.{Errno}
use Rattle.event_loop.specs.Prelude.{Event, Wait, Controls, Waits, Begins, Serves, calls_of, May, Position, IsIteration, is_reported, calls_of_positions, calls_of_jobs, LoopState, IsDispatchedAfter, IsLoopIteration}
use Rattle.event_manager.specs.JobRuns.{HasRun, JobsAreRun}
use Rattle.event_loop.specs.Subscribers.{IsBatch, Notices}
use Rattle.event_loop.specs.declared.registry.Batch.{Batch}
use Rattle.event_loop.proofs.ExchangeLemmas.{leads_join}
use Rattle.std.specs.List.{flat_map}

none_reported : (fd : ℕ) (report : List Event) → All (λ e. e.fd ≢ fd) report → is_reported fd report ≡ false
none_reported fd report all = list_any_none (λ (e : Event). e.fd == fd) report (λ k d within. ne_eqb (get_or report k d).fd fd (all k d within))

module _ {S P J R : Type 0} (begins : Begins S) (serves : Serves S) (may : May S J R) (controls : Controls P) (waits : Waits P) where
  -- none of no jobs
  pub no_job_ran : (n : ℕ) (before : LoopState S P) → JobsAreRun begins serves may controls waits before n [] before n
  no_job_ran n before = record { jobs = []; are_those = refl; ran = refl; led = refl; same_capacity = refl }

  -- the first of the jobs, and then the others
  pub first_job_ran : (n m : ℕ) (before mid after : LoopState S P) (ticket : ℕ) (job : J) (others : List (ℕ × J)) → ticket ≡ n + 1 → HasRun begins may controls waits before job mid → JobsAreRun begins serves may controls waits mid (n + 1) others after m
      → JobsAreRun begins serves may controls waits before n ((ticket, job) ∷ others) after m
  first_job_ran n m before mid after ticket job others follows did rest = record {
    jobs = record { ticket = ticket; job = job; steps = did.steps; reply = did.reply } ∷ rest.jobs;
    are_those = ap (λ those. (ticket, job) ∷ those) rest.are_those;
    ran = (mid.registry, follows, did.might, did.stepped.stepped, rest.ran);
    led = leads_join controls waits before.poller mid.poller after.poller (flat_map calls_of did.steps) (calls_of_jobs rest.jobs) did.stepped.led rest.led;
    same_capacity = rest.same_capacity ∙ did.stepped.same_capacity;
  }

  then_jobs : (n m : ℕ) (before mid after : LoopState S P) (waited : Result (List Event) Errno) (positions : List (Position S)) (batch : Batch)
      → IsDispatchedAfter serves waited positions before.registry mid.registry → Notices before.registry.registrations.endpoint waited (Ok batch) → batch.endpoint_ready ≡ true
      → (handed_out : List (ℕ × J)) (jobs : JobsAreRun begins serves may controls waits mid n handed_out after m)
      → IsIteration begins serves may (record { registry = before.registry; taken = n }) waited positions jobs.jobs (record { registry = after.registry; taken = m })
  then_jobs n m before mid after (Ok report) positions batch dispatched noticed ready handed_out jobs =
      (mid.registry, dispatched, λ all. absurd (false≢true (sym (none_reported before.registry.registrations.endpoint report all) ∙ sym noticed ∙ ready)), jobs.ran)
  then_jobs n m before mid after (Err errno) positions batch dispatched noticed ready handed_out jobs = absurd (false≢true (sym noticed ∙ ready))

  -- a batch with an event of the endpoint, and the jobs after it
  pub with_jobs : (n m : ℕ) (before mid after : LoopState S P) (ms : ℤ) (batch : Batch) → IsBatch serves controls waits before ms (Ok batch) mid → batch.endpoint_ready ≡ true → (handed_out : List (ℕ × J)) → JobsAreRun begins serves may controls waits mid n handed_out after m
      → IsLoopIteration begins serves may controls waits (record before { taken = n }) ms (Ok batch.count) (record after { taken = m })
  with_jobs n m before mid after ms batch did ready handed_out jobs = record {
    iteration = record { ms = ms; waited = did.waited; positions = did.positions; jobs = jobs.jobs };
    milliseconds = refl;
    answer = did.answer;
    iterated = then_jobs n m before mid after did.waited did.positions batch did.dispatched did.noticed ready handed_out jobs;
    led = leads_join controls waits before.poller mid.poller after.poller (Wait ms before.capacity did.waited ∷ calls_of_positions did.positions) (calls_of_jobs jobs.jobs) did.led jobs.led;
    same_capacity = jobs.same_capacity ∙ did.same_capacity;
  }
