-- A batch after which no job ran, as an iteration of the loop.
use Rattle.std.proofs.Common.{ℕ, ℤ, List, [], ◌∷◌, refl, sym, ap, subst, Result, Ok, Err}
use Rattle.std.proofs.lemmas.List.{append-nil}
use Rattle.vmm_sys.specs.declared.errno.Errno.{Errno}
use Rattle.event_loop.specs.Prelude.{Event, Wait, Controls, Waits, Leads, Begins, Serves, Registry, May, Position, IsIteration, calls_of_positions, LoopState, IsDispatchedAfter, IsLoopIteration}
use Rattle.event_loop.specs.declared.error.Error.{Error}
use Rattle.event_loop.specs.Subscribers.{IsBatch, batch_count}
use Rattle.event_loop.specs.declared.registry.Batch.{Batch}

module _ {S J R : Type 0} (begins : Begins S) (serves : Serves S) (may : May S J R) where
  no_jobs : (n : ℕ) (before after : Registry S) (waited : Result (List Event) Errno) (positions : List (Position S)) → IsDispatchedAfter serves waited positions before after
      → IsIteration begins serves may (record { registry = before; taken = n }) waited positions [] (record { registry = after; taken = n })
  no_jobs n before after (Ok report) positions dispatched = (after, dispatched, λ _. refl, refl)
  no_jobs n before after (Err errno) positions dispatched = (dispatched.0, refl, ap (λ r. record { registry = r; taken = n }) dispatched.1)

module _ {S P J R : Type 0} (begins : Begins S) (serves : Serves S) (may : May S J R) (controls : Controls P) (waits : Waits P) where
  -- a batch after which no jobs are taken
  pub without_jobs : (n : ℕ) (before after : LoopState S P) (ms : ℤ) (result : Result Batch Error) → IsBatch serves controls waits before ms result after
      → IsLoopIteration begins serves may controls waits (record before { taken = n }) ms (batch_count result) (record after { taken = n })
  without_jobs n before after ms result batch = record {
    iteration = record { ms = ms; waited = batch.waited; positions = batch.positions; jobs = [] };
    milliseconds = refl;
    answer = batch.answer;
    iterated = no_jobs begins serves may n before.registry after.registry batch.waited batch.positions batch.dispatched;
    led = subst (λ calls. Leads controls waits before.poller (Wait ms before.capacity batch.waited ∷ calls) after.poller) (sym (append-nil (calls_of_positions batch.positions))) batch.led;
    same_capacity = batch.same_capacity;
  }
