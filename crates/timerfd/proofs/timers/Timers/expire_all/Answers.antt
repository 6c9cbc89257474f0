use Rattle.timerfd.proofs.Steps.{one_more, one_fewer, all_expired}
use Rattle.timerfd.proofs.timers.Timers.expire_all.Goals as goal

pub loop-index-smaller : goal.loop-index-smaller
loop-index-smaller c = one_fewer c.args.now c.in-Some._index c.loop-index.self c.expire_next.new.self c.in-Some.ensures

pub loop-index-preserved : goal.loop-index-preserved
loop-index-preserved c = one_more c.args.now c.in-Some._index c.loop-index.self c.expire_next.new.self c.in-Some.ensures c.args.self.now c.loop-index.invariant

pub returns : goal.returns
returns c = all_expired c.args.now c.loop-index.self c.expire_next.new.self c.args.self.now c.in_default.ensures c.loop-index.invariant
