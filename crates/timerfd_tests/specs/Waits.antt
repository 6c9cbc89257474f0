-- Two waits that follow each other.
use Rattle.std.specs.Prelude.{pos, ◌⊎◌, ℕ, List, length, Result}
use base.Stored.{Gv}
use Rattle.vmm_sys.specs.declared.entries.EpollEvent.{EpollEvent}
use Rattle.vmm_sys.specs.declared.errno.Errno.{Errno}
use Rattle.vmm_sys.specs.Poller.{WaitRelation, reported}

-- one of two waits of 0 milliseconds, each with its buffer and answer, is such a wait at least
abbrev pub OneIs : WaitRelation → Gv → List EpollEvent → Result ℕ Errno → List EpollEvent → Result ℕ Errno → Gv → Type 0
OneIs such before first answer second next_answer after =
    (between : Gv) × (such before (pos 0) (length first) answer (reported answer first) between ⊎ such between (pos 0) (length second) next_answer (reported next_answer second) after)
