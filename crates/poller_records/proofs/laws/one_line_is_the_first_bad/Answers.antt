use Rattle.poller_records.proofs.FirstBad.{one_first_bad}
use Rattle.poller_records.proofs.laws.one_line_is_the_first_bad.Goals as goal

pub returns : goal.returns
returns c = one_first_bad
