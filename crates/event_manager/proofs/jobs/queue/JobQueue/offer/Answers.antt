use Rattle.std.proofs.Common.{arith, ◌≡◌, false, refl}
use Rattle.event_manager.proofs.QueueLemmas.{is_queue_push}
use Rattle.event_manager.proofs.jobs.queue.JobQueue.offer.Goals as goal

pub invariant_of-self-in_default : goal.invariant_of-self-in_default
invariant_of-self-in_default g c =
    let is-open : c.self.inside.closed ≡ false = c.if-self.false in
    let ok = rw is-open at c.self.invariant in
    rw (c.push_reserved.ensures.items, c.reserve.ensures.items, is-open) (is_queue_push _ _ _ _ ok (omega arith) refl)
