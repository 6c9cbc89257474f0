-- Who comes first in waits that follow each other.
use Rattle.std.specs.Prelude.{ℕ, ℤ, ◌≡◌, ◌<◌, ◌⊎◌, List, Result}
use base.Stored.{Gv}
use Rattle.vmm_sys.specs.declared.entries.EpollEvent.{EpollEvent}
use Rattle.vmm_sys.specs.declared.errno.Errno.{Errno}
use Rattle.vmm_sys.specs.Poller.{WaitRelation}
use Rattle.timerfd.specs.TimedPoller.{Timed, timed_code, FromTimers, TimersFirst, OthersFirst, MayWait}

-- the poller below was asked
abbrev pub AsksBelow : WaitRelation → WaitRelation
AsksBelow may_wait before ms room answer entries after =
    (t : Timed Gv) × (before ≡ timed_code.code t) × (OthersFirst may_wait t ms room answer entries after ⊎ TimersFirst may_wait t ms room answer entries after)

-- timers came first
abbrev pub LetsTimersComeFirst : WaitRelation → WaitRelation
LetsTimersComeFirst may_wait before ms room answer entries after =
    (t : Timed Gv) × (before ≡ timed_code.code t) × (FromTimers t room answer entries after ⊎ TimersFirst may_wait t ms room answer entries after)

-- of two waits that follow each other, each with some room, one is such a wait at least
abbrev pub OneOfTwoIs : (WaitRelation → WaitRelation) → WaitRelation → Type 0
OneOfTwoIs such may_wait =
    (a b c : Gv) (ms next_ms : ℤ) (room next_room : ℕ) (answer next_answer : Result ℕ Errno) (entries next_entries : List EpollEvent)
    → 0 < room → 0 < next_room
    → MayWait may_wait a ms room answer entries b → MayWait may_wait b next_ms next_room next_answer next_entries c
    → such may_wait a ms room answer entries b ⊎ such may_wait b next_ms next_room next_answer next_entries c
