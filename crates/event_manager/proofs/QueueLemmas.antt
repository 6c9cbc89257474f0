-- A queue with one more job.
use Rattle.std.proofs.Common.{◌≡◌, ℕ, ◌+◌, ◌<◌, false, List, [], ◌∷◌, ◌++◌, length, length-append, arith, refl}
use Rattle.event_manager.specs.declared.jobs.queue.Entry.{Entry}
use Rattle.event_manager.specs.JobQueue.{IsQueueState, TicketsFollow}

pub follow_push : {J Q : Type 0} (n : ℕ) (es : List (Entry J Q)) (e : Entry J Q) → TicketsFollow n es → e.ticket ≡ n + length es + 1 → TicketsFollow n (es ++ (e ∷ []))
follow_push n [] e all is = (omega arith, tt)
follow_push n (x ∷ xs) e all is = (all.0, follow_push (n + 1) xs e all.1 (omega arith))

pub is_queue_push : {J Q : Type 0} (taken issued : ℕ) (es : List (Entry J Q)) (e : Entry J Q) → IsQueueState taken issued false es → issued < 9223372036854775807 → e.ticket ≡ issued + 1 → IsQueueState taken (issued + 1) false (es ++ (e ∷ []))
is_queue_push taken issued es e ok room is =
    let all = ok.while_open refl in
    record {
      most = omega arith;
      while_open = λ _. omega (arith, length-append es (e ∷ []));
      when_closed = λ no. cc;
      some = omega (arith, ok.some);
      follow = follow_push taken es e ok.follow (omega arith);
    }
