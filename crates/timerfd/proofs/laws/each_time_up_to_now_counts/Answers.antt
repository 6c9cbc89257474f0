use Rattle.timerfd.proofs.Expirations.{each_time_counts}
use Rattle.timerfd.proofs.laws.each_time_up_to_now_counts.Goals as goal

pub returns : goal.returns
returns c = each_time_counts
