use Rattle.std.proofs.Common.{ℕ, pos, ◌≡◌, ◌<◌, List, length}
use Rattle.std.specs.Prelude.{Result}
use base.Stored.{Gv}
use Rattle.vmm_sys.specs.declared.entries.EpollEvent.{EpollEvent}
use Rattle.vmm_sys.specs.declared.errno.Errno.{Errno}
use Rattle.vmm_sys.specs.Poller.{WaitRelation, reported}
use Rattle.timerfd.specs.TimedPoller.{MayWait}
use Rattle.timerfd.specs.Turns.{AsksBelow, LetsTimersComeFirst, OneOfTwoIs}
use Rattle.timerfd_tests.specs.Waits.{OneIs}
use Rattle.timerfd_tests.proofs.by_laws.wait_twice.Goals as goal

one_is : (such : WaitRelation → WaitRelation) (may_wait : WaitRelation) → OneOfTwoIs such may_wait → (a b c : Gv) (x x' y y' : List EpollEvent) (answer next_answer : Result ℕ Errno)
    → length x' ≡ length x → length y' ≡ length y → 0 < length x → 0 < length y
    → MayWait may_wait a (pos 0) (length x) answer (reported answer x') b → MayWait may_wait b (pos 0) (length y) next_answer (reported next_answer y') c
    → OneIs (such may_wait) a x' answer y' next_answer c
one_is such may_wait law a b c x x' y y' answer next_answer same next_same some next_some first second =
    (b, rw (same, next_same) (law a b c (pos 0) (pos 0) (length x) (length y) answer next_answer (reported answer x') (reported next_answer y') some next_some first second))

pub returns-clause-others : goal.returns-clause-others
returns-clause-others g c =
    one_is AsksBelow g.P.Poller.may_wait c.timers_and_others_take_turns.ensures.others _ _ _ _ _ _ _ _ _ c.wait-answer.auto.buffer c.wait-next_answer.auto.buffer c.requires.first_room c.requires.second_room
    c.wait-answer.ensures.answer c.wait-next_answer.ensures.answer

pub returns-clause-timers : goal.returns-clause-timers
returns-clause-timers g c =
    one_is LetsTimersComeFirst g.P.Poller.may_wait c.timers_and_others_take_turns.ensures.timers _ _ _ _ _ _ _ _ _ c.wait-answer.auto.buffer c.wait-next_answer.auto.buffer c.requires.first_room c.requires.second_room
    c.wait-answer.ensures.answer c.wait-next_answer.ensures.answer
