-- Calls of a poller, one after another, and the record of them.
use Rattle.std.specs.Prelude.{ℕ, ℤ, ◌≡◌, ◌++◌, List, [], ◌∷◌, Result, Ok}
use base.Stored.{Gv}
use Rattle.vmm_sys.specs.declared.entries.EpollEvent.{EpollEvent}
use Rattle.vmm_sys.specs.declared.entries.ControlOperation.{ControlOperation}
use Rattle.vmm_sys.specs.declared.errno.Errno.{Errno}
use Rattle.poller_records.specs.declared.record.RecordEntry.{RecordEntry}
use Rattle.vmm_sys.specs.Poller.{CtlRelation, WaitRelation}
use Rattle.poller_records.specs.Record.{entries_of_ctl, entries_of_wait, IsReport}

-- a call with its answer; a wait's with its report too
pub data Call : Type 0 where
  Ctl : ControlOperation → ℤ → EpollEvent → Result (Unit {0}) Errno → Call
  Wait : ℤ → ℕ → Result ℕ Errno → List EpollEvent → Call

-- the call with a blank for its answer: what is asked
abbrev pub question : Call → Call
question (Ctl op fd event answer) = Ctl op fd event (Ok tt)
question (Wait ms room answer events) = Wait ms room (Ok 0) []

-- the calls as a record says them
abbrev pub entries_of_calls : List Call → List RecordEntry
entries_of_calls [] = []
entries_of_calls (Ctl op fd event answer ∷ calls) = entries_of_ctl op fd event answer ++ entries_of_calls calls
entries_of_calls (Wait ms room answer events ∷ calls) = entries_of_wait ms room answer events ++ entries_of_calls calls

-- by these relations of a poller the calls lead from one state to the other
module _ (may_ctl : CtlRelation) (may_wait : WaitRelation) where
  abbrev pub Runs : Gv → List Call → Gv → Type 0
  Runs before [] after = before ≡ after
  Runs before (Ctl op fd event answer ∷ calls) after = (next : Gv) × may_ctl before op fd event answer next × Runs next calls after
  Runs before (Wait ms room answer events ∷ calls) after =
      (next : Gv) × IsReport room answer events × may_wait before ms room answer events next × Runs next calls after
