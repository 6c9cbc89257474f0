use Rattle.std.proofs.Common.{◌≡◌, take}
use Rattle.std.specs.List.{fold}
use Rattle.timerfd.specs.Timers.{told}
use Rattle.timerfd_tests.proofs.by_laws.tell_all.Given as goal

abbrev pub invariant-loop-time : goal.invariant-loop-time
invariant-loop-time l = l.timers ≡ fold (λ s now. told now s) (told l.first l.fn.timers) (take l.time-index l.more)
