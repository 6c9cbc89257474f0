-- What a poller's wait has written, and what a poller states of its calls.
use Rattle.std.specs.Prelude.{ℕ, ℤ, List, [], Result, Ok, Err, take}
use base.Stored.{Gv}
use Rattle.vmm_sys.specs.declared.entries.ControlOperation.{ControlOperation}
use Rattle.vmm_sys.specs.declared.entries.EpollEvent.{EpollEvent}
use Rattle.vmm_sys.specs.declared.errno.Errno.{Errno}

-- the entries that a wait with this answer reported in the buffer
abbrev pub reported : Result ℕ Errno → List EpollEvent → List EpollEvent
reported (Ok count) buffer = take count buffer
reported (Err errno) buffer = []

-- from a state, with what `ctl` is given: which answer it may give, and which state it may leave
abbrev pub CtlRelation : Type 1
CtlRelation = Gv → ControlOperation → ℤ → EpollEvent → Result (Unit {0}) Errno → Gv → Type 0

-- from a state, with what `wait` is given: which answer and events it may give, and which state it may leave
abbrev pub WaitRelation : Type 1
WaitRelation = Gv → ℤ → ℕ → Result ℕ Errno → List EpollEvent → Gv → Type 0
