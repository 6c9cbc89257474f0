-- What is seen of an `Fd`.
use Rattle.std.specs.Prelude.{ℤ}
use Rattle.vmm_sys.specs.declared.fd.Fd.{Fd}

-- its number
abbrev pub fd_of : Fd → ℤ
fd_of it = it.fd
