use Rattle.std.proofs.Common.{refl, sym, ◌∙◌}
use Rattle.std.proofs.lemmas.Int.{to_z-of_z}
use mir.Syntax.{w32}
use Rattle.timerfd.proofs.BesideTimers.{ctl_refused, ctl_of_timer, ctl_below}
use Rattle.timerfd.proofs.timed_poller.TimedPollerPoller.ctl.Goals as goal

pub returns-then-is_refused : goal.returns-then-is_refused
returns-then-is_refused g c =
    ctl_refused g.P.Poller.meaning c.args.self.now g.P.Poller.may_ctl c.args.op (to_z-of_z w32 c.args.fd c.ranges.fd) c.args.event _ (sym c.is_refused.ensures ∙ c.if-is_refused.true) refl

pub returns-in-Some : goal.returns-in-Some
returns-in-Some g c =
    ctl_of_timer g.P.Poller.meaning c.args.self.now g.P.Poller.may_ctl c.args.op (to_z-of_z w32 c.args.fd c.ranges.fd) c.args.event c.in-Some.answer
    (sym c.is_refused.ensures ∙ c.if-is_refused.false) c.in-Some.ensures

pub returns-in-None : goal.returns-in-None
returns-in-None g c =
    ctl_below g.P.Poller.meaning c.args.self.now g.P.Poller.may_ctl c.args.op (to_z-of_z w32 c.args.fd c.ranges.fd) c.args.event c.ctl-in-None.result
    c.self.view_is c.ctl-in-None.new.self (sym c.is_refused.ensures ∙ c.if-is_refused.false) c.in-None.ensures c.ctl-in-None.ensures
