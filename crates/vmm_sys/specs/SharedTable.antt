-- What a call of a table that others share may answer: what a table would, in a state to which calls have led.
use Rattle.std.specs.Prelude.{ℕ, ℤ, ◌≡◌, ◌<◌, ◌<ℤ◌, pos, List, Result, IfOk}
use base.Stored.{Gv}
use Rattle.vmm_sys.specs.declared.entries.EpollEvent.{EpollEvent}
use Rattle.vmm_sys.specs.declared.entries.ControlOperation.{ControlOperation}
use Rattle.vmm_sys.specs.declared.errno.Errno.{Errno}
use Rattle.vmm_sys.specs.Table.{TableState, IsReachable, Answers, AnswersWithMemory, ctl_of, wait_of, counted, reported_entries}

-- the answer that some table gives to a call
abbrev pub AnswersOfSome : {A : Type 0} → (TableState → Result (A × TableState) Errno) → Result A Errno → Type 0
AnswersOfSome call result = (t u : TableState) × IsReachable t × Answers (call t) t result u

-- or memory was refused to a call that some table would have agreed
abbrev pub AnswersOfSomeWithMemory : {A : Type 0} → (TableState → Result (A × TableState) Errno) → Result A Errno → Type 0
AnswersOfSomeWithMemory call result = (t u : TableState) × AnswersWithMemory (call t) t result u

-- the answer that some table gives to a change of its interest list
abbrev pub Changed : ControlOperation → ℤ → EpollEvent → Result (Unit {0}) Errno → Type 0
Changed op fd event answer = AnswersOfSome (λ t. ctl_of t op fd event) answer

-- the answer of some table to a wait with this room, and the entries of its report
abbrev pub Waited : ℕ → Result ℕ Errno → List EpollEvent → Type 0
Waited room answer entries = (t u : TableState) × IsReachable t × Answers (counted (wait_of t room)) t answer u × (entries ≡ reported_entries (wait_of t room))

abbrev pub MayCtl : Gv → ControlOperation → ℤ → EpollEvent → Result (Unit {0}) Errno → Gv → Type 0
MayCtl before op fd event answer after = Changed op fd event answer

-- a wait without a time limit doesn't answer 0
abbrev pub MayWait : Gv → ℤ → ℕ → Result ℕ Errno → List EpollEvent → Gv → Type 0
MayWait before ms room answer entries after = Waited room answer entries × (ms <ℤ pos 0 → IfOk answer (λ count. 0 < count))
