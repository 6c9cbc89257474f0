use Rattle.std.proofs.Common.{rules, ◌≡◌, ◌∙◌, sym}
use Rattle.event_manager.proofs.senders.run_named.Goals as goal

pub returns : goal.returns
returns g c =
    let ended = rw c.in-Some-ended.is at c.in_ok-ended.ensures in
    let taken : c.taken.result ≡ c.in-Some-ended.ended.closed.taken = search rules in
    record { state = ended.state; reached = ended.reached; has = ended.has; took = ended.took ∙ sym taken }
