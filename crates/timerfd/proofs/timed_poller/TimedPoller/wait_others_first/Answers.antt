use Rattle.std.proofs.Common.{rules, ◌≡◌, ◌≤◌, ap, refl, arith, length}
use Rattle.std.specs.Prelude.{Ok, Err}
use Rattle.std.proofs.lemmas.Int.{to_z-of_z}
use mir.Syntax.{w32}
use Rattle.timerfd.proofs.Waits.{others_first, reports_behind, counts_behind}
use Rattle.timerfd.proofs.timed_poller.TimedPoller.wait_others_first.Goals as goal

pub returns-in_err-count-clause-waited : goal.returns-in_err-count-clause-waited
returns-in_err-count-clause-waited g c =
    let began = c.begin_wait-limit.ensures in
    let is : c.from_residual.result ≡ Err c.in_err-count.field-0.0 = search rules in
    others_first g.P.Poller.meaning c.self.view_is _ c.wait_below.ensures.others refl g.P.Poller.may_wait (to_z-of_z w32 c.args.ms c.ranges.ms) began.0 began.5 began.1
    began.2 (to_z-of_z w32 c.begin_wait-limit.result.limit (record { sfits = c.begin_wait-limit.type_inv.1.1.1.0.1 })) (Err c.in_err-count.field-0.0) c.wait_below.new.buffer c.in_err-count.ensures.below
    (length c.args.buffer.now) refl began.0 began.5 _ _ (rw is refl) is

pub returns-clause-waited : goal.returns-clause-waited
returns-clause-waited g c =
    let began = c.begin_wait-limit.ensures in
    let n = c.in_ok-count.count in
    let new = c.wait_below.new.buffer in
    let behind = c.report-behind.ensures in
    let room = length c.args.buffer.now in
    let m = c.report-behind.result in
    let within : n ≤ length new = omega (arith, c.in_ok-count.ensures.fits, c.in_ok-count.ensures.room) in
    let same : length new ≡ room = c.in_ok-count.ensures.room in
    others_first g.P.Poller.meaning c.self.view_is _ c.wait_below.ensures.others refl g.P.Poller.may_wait (to_z-of_z w32 c.args.ms c.ranges.ms) began.0 began.5 began.1
    began.2 (to_z-of_z w32 c.begin_wait-limit.result.limit (record { sfits = c.begin_wait-limit.type_inv.1.1.1.0.1 })) (Ok n) new c.in_ok-count.ensures.below
    room refl behind.0 behind.3 _ _
    (reports_behind behind.0 new c.report-behind.new.buffer n m room within same behind.1 behind.2 _) (ap Ok (counts_behind behind.0 new c.report-behind.new.buffer n m room within same behind.1 behind.2))
