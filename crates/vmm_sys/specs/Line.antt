-- What is seen of a `Line`.
use Rattle.std.specs.Prelude.{ℤ, ◌≡◌, ◌⊎◌}
use Rattle.std.specs.Arc.{arc_value}
use Rattle.vmm_sys.specs.declared.errno.Errno.{Errno}
use Rattle.vmm_sys.specs.declared.errno.TheConstants.Errno.{EMFILE, ENOMEM}
use Rattle.vmm_sys.specs.declared.line.Line.{Line}

-- its descriptor
abbrev pub descriptor_of : Line → ℤ
descriptor_of line = (arc_value line.handle).fd

-- why a line is not opened
abbrev pub IsOpeningError : Errno → Type 0
IsOpeningError e = (e ≡ ENOMEM) ⊎ (e ≡ EMFILE)
