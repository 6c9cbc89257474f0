use Rattle.std.proofs.Common.{◌≡◌, ◌∙◌, rules, length, ap}
use Rattle.std.specs.Prelude.{ℕ, ◌≢◌}
use Rattle.timerfd.specs.Timer.{disarmed}
use Rattle.timerfd.specs.Timers.{with_timer}
use Rattle.timerfd.proofs.Lines.{line_added, settled_again, taken_back}
use Rattle.timerfd.proofs.timer_table.TimerTable.add.Goals as goal

pub invariant_of-self-then-index-last : goal.invariant_of-self-then-index-last
invariant_of-self-then-index-last c =
    let told = c.self.inside.timers in
    let table = c.self.inside.table in
    let u = c.add_line.new.self in
    let (n, number, added) = rw c.in-Ok-add_line.is at (line_added table u c.add_line.result c.add_line.ensures.answer) in
    let other : n ≢ length told.timers = search rules in
    let back : c.remove_last.new.self ≡ told = c.remove_last.ensures ∙ taken_back told c.add.new.self c.in-Ok.ensures.timers in
    let timers : c.open.new.self ≡ with_timer told n disarmed = rw back at c.open.ensures ∙ ap (λ (m : ℕ). with_timer told m disarmed) (search rules) in
    (settled_again told table c.self.invariant u n c.open.new.self added other timers).1
