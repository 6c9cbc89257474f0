use Rattle.std.proofs.Common.{rules, ◌≡◌, ◌+◌, ◌-◌, ◌≤◌, [], ◌++◌, ap, sym, ◌∙◌, refl, arith, inr, length, take, drop}
use Rattle.std.specs.Prelude.{Ok, Err}
use Rattle.std.proofs.lemmas.Int.{to_z-of_z}
use Rattle.std.proofs.lemmas.List.{length-append, length-take, length-drop, nil_from_length}
use borrow.Rule.Slice.PartMut.{post_of}
use mir.Syntax.{w32}
use Rattle.timerfd.specs.TimedPoller.{report_of, or_late}
use Rattle.timerfd.proofs.Waits.{same_room, in_front, behind_front, count_behind, timers_first, timers_in_time}
use Rattle.timerfd.proofs.timed_poller.TimedPoller.wait_timers_first.Goals as goal

pub returns-clause-waited : goal.returns-clause-waited
returns-clause-waited g c =
    let begun = c.begin_wait-front.result in
    let mid = c.begin_wait-front.new.buffer in
    let b = c.args.buffer.now in
    let n = c.in_ok-below.below in
    let new = c.wait_below.new.buffer in
    let began = c.begin_wait-front.ensures in
    let es = report_of began.0 (length b) in
    let room : length (take (length mid - begun.front) (drop begun.front mid)) ≡ length mid - begun.front =
    omega (arith, length-take (length mid - begun.front) (drop begun.front mid), length-drop begun.front mid) in
    let fits : n ≤ length new = omega (arith, c.in_ok-below.ensures.fits, c.in_ok-below.ensures.room) in
    let front : take begun.front mid ≡ es = in_front began.0 b mid begun.front began.3 began.4 in
    inr (timers_in_time g.P.Poller.meaning c.self.view_is _ c.wait_below.ensures.others c.if-self.false g.P.Poller.may_wait (to_z-of_z w32 c.args.ms c.ranges.ms) began.0 began.5 began.1
    began.2 (to_z-of_z w32 begun.limit (record { sfits = c.begin_wait-front.type_inv.1.1.1.0.1 })) (Ok n) new c.in_ok-below.ensures.below b mid begun.front began.3 began.4 c.if-self.false room _ _
    (rw front (behind_front es new _ begun.front n began.3 fits)) (ap Ok (count_behind es new new begun.front n began.3 fits)))

pub returns-in_err-below-clause-waited : goal.returns-in_err-below-clause-waited
returns-in_err-below-clause-waited g c =
    let begun = c.begin_wait-front.result in
    let mid = c.begin_wait-front.new.buffer in
    let began = c.begin_wait-front.ensures in
    let room : length (take (length mid - begun.front) (drop begun.front mid)) ≡ length mid - begun.front =
    omega (arith, length-take (length mid - begun.front) (drop begun.front mid), length-drop begun.front mid) in
    let is : c.from_residual.result ≡ Err c.in_err-below.field-0.0 = search rules in
    inr (timers_in_time g.P.Poller.meaning c.self.view_is _ c.wait_below.ensures.others c.if-self.false g.P.Poller.may_wait (to_z-of_z w32 c.args.ms c.ranges.ms) began.0 began.5 began.1
    began.2 (to_z-of_z w32 begun.limit (record { sfits = c.begin_wait-front.type_inv.1.1.1.0.1 })) (Err c.in_err-below.field-0.0) c.wait_below.new.buffer c.in_err-below.ensures.below c.args.buffer.now mid begun.front began.3 began.4 c.if-self.false room _ _
    (rw is refl) is)

pub returns-then-limit-ne0-clause-waited : goal.returns-then-limit-ne0-clause-waited
returns-then-limit-ne0-clause-waited g c =
    let begun = c.begin_wait-front.result in
    let mid = c.begin_wait-front.new.buffer in
    let b = c.args.buffer.now in
    let n = c.in_ok-below.below in
    let new = c.wait_below.new.buffer in
    let began = c.begin_wait-front.ensures in
    let late = c.report.ensures in
    let sum = c.if-front-below-eq0.true in
    let es = report_of began.0 (length b) in
    let room : length (take (length mid - begun.front) (drop begun.front mid)) ≡ length mid - begun.front =
    omega (arith, length-take (length mid - begun.front) (drop begun.front mid), length-drop begun.front mid) in
    let same : length mid ≡ length b = same_room began.0 b mid begun.front began.3 began.4 in
    let rest = post_of begun.front (length mid - begun.front) mid in
    let whole : length (take begun.front mid ++ (new ++ rest)) ≡ length b =
    omega (arith, length-append (take begun.front mid) (new ++ rest), length-append new rest, length-take begun.front mid, length-drop (begun.front + (length mid - begun.front)) mid, c.in_ok-below.ensures.room, room, same, sum) in
    let none : es ++ take n new ≡ [] = nil_from_length (es ++ take n new) (omega (arith, length-append es (take n new), length-take n new, began.3, sum)) in
    let entries : take c.report.result c.report.new.buffer ≡ report_of late.0 (length b) =
    in_front late.0 (take begun.front mid ++ (new ++ rest)) c.report.new.buffer c.report.result late.1 late.2 ∙ ap (λ k. report_of late.0 k) whole in
    inr (timers_first g.P.Poller.meaning c.self.view_is _ c.wait_below.ensures.others c.if-self.false g.P.Poller.may_wait (to_z-of_z w32 c.args.ms c.ranges.ms) began.0 began.5 began.1
    began.2 (to_z-of_z w32 begun.limit (record { sfits = c.begin_wait-front.type_inv.1.1.1.0.1 })) (Ok n) new c.in_ok-below.ensures.below late.0 late.3 b mid begun.front began.3 began.4 c.if-self.false room _ _
    (entries ∙ ap (λ l. or_late (report_of late.0 (length b)) l) (sym none)) (ap Ok (late.1 ∙ ap (λ k. length (report_of late.0 k)) whole ∙ ap length (sym entries))))
