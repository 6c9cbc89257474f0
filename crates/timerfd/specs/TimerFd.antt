-- What is seen of a `TimerFd`.
use Rattle.std.specs.Prelude.{ℤ, ◌≡◌, ◌⊎◌}
use Rattle.std.specs.Arc.{arc_value}
use Rattle.vmm_sys.specs.declared.errno.Errno.{Errno}
use Rattle.vmm_sys.specs.declared.errno.TheConstants.Errno.{EMFILE, ENOMEM}
use Rattle.timerfd.specs.declared.timer_fd.TimerFd.{TimerFd}

-- its descriptor
abbrev pub descriptor_of : {C : Type 0} → TimerFd C → ℤ
descriptor_of timer = (arc_value timer.handle).fd

-- why no timer is opened
abbrev pub IsOpeningError : Errno → Type 0
IsOpeningError e = (e ≡ ENOMEM) ⊎ (e ≡ EMFILE)
