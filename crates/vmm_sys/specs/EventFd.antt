-- What is seen of an `EventFd`.
use Rattle.std.specs.Prelude.{ℕ, ℤ, ◌≡◌, ◌⊎◌}
use Rattle.std.specs.Arc.{arc_value}
use Rattle.vmm_sys.specs.declared.errno.Errno.{Errno}
use Rattle.vmm_sys.specs.declared.errno.TheConstants.Errno.{EINVAL, EMFILE, ENOMEM}
use Rattle.vmm_sys.specs.declared.eventfd.EventFd.{EventFd}

-- its descriptor
abbrev pub descriptor_of : EventFd → ℤ
descriptor_of event_fd = (arc_value event_fd.handle).fd

-- why a counter of this value is not opened
abbrev pub IsOpeningError : ℕ → Errno → Type 0
IsOpeningError value e = (e ≡ ENOMEM) ⊎ (e ≡ EMFILE) ⊎ ((e ≡ EINVAL) × (value ≡ 18446744073709551615))
