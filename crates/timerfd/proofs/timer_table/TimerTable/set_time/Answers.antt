use Rattle.std.proofs.Common.{◌≡◌, ◌∙◌, ap}
use Rattle.timerfd.specs.TimerTable.{TimerTableState}
use Rattle.timerfd.proofs.Steps.{one_more}
use Rattle.timerfd.proofs.Lines.{tied_time}
use Rattle.timerfd.proofs.timer_table.TimerTable.set_time.Goals as goal

pub loop-index-preserved : goal.loop-index-preserved
loop-index-preserved c = record {
  interests = c.expire_next.ensures.interests ∙ c.loop-index.invariant.interests;
  told = one_more c.args.now c.in-Some._index c.loop-index.self.told c.expire_next.new.self.told c.in-Some.ensures.expired c.args.self.now.told c.loop-index.invariant.told;
}

pub invariant_of-self : goal.invariant_of-self
invariant_of-self c =
    let inside = c.self-then-now-time.inside in
    let (none, same) = c.in_default.ensures.expired in
    let told : inside.timers ≡ c.loop-index.self.told = ap (λ (s : TimerTableState). s.told) c.self-then-now-time.view_is ∙ same in
    rw c.set_time.ensures (tied_time inside.timers inside.table c.self-then-now-time.invariant c.args.now (rw told none))
