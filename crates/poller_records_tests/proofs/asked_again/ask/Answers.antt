use Rattle.std.proofs.Common.{refl, rules}
use Rattle.std.proofs.lemmas.Int.{to_z-of_z}
use mir.Syntax.{w32}
use Rattle.poller_records_tests.proofs.Asking.{is_report}
use Rattle.poller_records_tests.proofs.asked_again.ask.Goals as goal

pub returns : goal.returns
returns g c =
    let added = rw (to_z-of_z w32 c.args.asked.fd (search rules)) at c.ctl-added.ensures in
    let waited = rw (to_z-of_z w32 c.args.asked.ms (search rules)) at c.wait-waited.ensures.answer in
    (_, added, (_, is_report _ _ _ c.wait-waited.auto.buffer c.wait-waited.ensures.count_fits, waited, refl))
