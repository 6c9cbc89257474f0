use Rattle.std.proofs.Common.{sym, ◌∙◌}
use Rattle.std.proofs.lemmas.Int.{to_z-of_z}
use mir.Syntax.{w32}
use Rattle.timerfd.proofs.Waits.{without_room, where_others_come_first, where_timers_come_first}
use Rattle.timerfd.proofs.timed_poller.TimedPollerPoller.wait.Goals as goal

pub returns-then-is_empty-clause-answer : goal.returns-then-is_empty-clause-answer
returns-then-is_empty-clause-answer g c = without_room g.P.Poller.meaning g.P.Poller.may_wait c.args.self.now c.args.ms _ (sym c.is_empty.ensures ∙ c.if-is_empty.true)

pub returns-then-self-clause-answer : goal.returns-then-self-clause-answer
returns-then-self-clause-answer g c =
    where_others_come_first g.P.Poller.meaning g.P.Poller.may_wait c.self.view_is (to_z-of_z w32 c.args.ms c.ranges.ms) _ _ _ _ (sym c.is_empty.ensures ∙ c.if-is_empty.false)
    c.if-self.true c.wait_others_first.ensures.waited

pub returns-else-self-clause-answer : goal.returns-else-self-clause-answer
returns-else-self-clause-answer g c =
    where_timers_come_first g.P.Poller.meaning g.P.Poller.may_wait c.self.view_is (to_z-of_z w32 c.args.ms c.ranges.ms) _ _ _ _ (sym c.is_empty.ensures ∙ c.if-is_empty.false)
    c.if-self.false c.wait_timers_first.ensures.waited
