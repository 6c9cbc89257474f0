use Rattle.std.proofs.Common.{◌≡◌, rules, refl, sym, ◌∙◌, zero-add, None, arith}
use Rattle.timerfd.specs.Timer.{armed, disarmed, expired}
use Rattle.timerfd_tests.proofs.by_laws.count_ticks.Goals as goal

pub returns : goal.returns
returns c =
    let now = c.args.now in
    let due = c.args.due in
    let timer = armed due c.args.interval disarmed in
    let count : c.unwrap_or.result ≡ (expired now timer).expirations = search rules in
    let next : c.timer-next.result.due ≡ (expired now timer).due = search rules in
    record {
      counted = λ some short k. let law = c.each_time_up_to_now_counts.ensures now due k timer refl some (rw (← count) short) in rw count (rw (zero-add k) at law);
      next = λ some late time is. c.an_interval_is_counted_from_the_due_time.ensures now due time timer refl late some (sym next ∙ is);
      once = λ none late.
          let is : expired now timer ≡ record timer { due = None; expirations = 1 } = c.without_an_interval_it_expires_once.ensures now due timer refl late none (omega arith) in
          rw (count, next, is) refl;
    }
