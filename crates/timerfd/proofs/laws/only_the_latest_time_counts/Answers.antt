use Rattle.timerfd.proofs.Expirations.{latest_counts}
use Rattle.timerfd.proofs.laws.only_the_latest_time_counts.Goals as goal

pub returns : goal.returns
returns c = latest_counts
