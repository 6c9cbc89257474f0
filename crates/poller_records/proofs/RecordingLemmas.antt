-- A call of a poller, with its entries behind the record, is a call of the recording poller.
use Rattle.std.proofs.Common.{ℕ, ℤ, ◌≡◌, List, refl, ap, subst}
use Rattle.std.specs.Prelude.{Result}
use base.Stored.{Gv}
use Rattle.vmm_sys.specs.declared.entries.EpollEvent.{EpollEvent}
use Rattle.vmm_sys.specs.declared.entries.ControlOperation.{ControlOperation}
use Rattle.vmm_sys.specs.declared.errno.Errno.{Errno}
use Rattle.vmm_sys.specs.Poller.{CtlRelation, WaitRelation}
use Rattle.poller_records.specs.Record.{entries_of_ctl, entries_of_wait}
use Rattle.poller_records.specs.Recording.{Recording, recorded, with_poller, recording_code, MayCtl, MayWait}

module _ {P : Type 0} (meaning : P → Gv) where
  -- what a recording poller means
  abbrev pub seen : Recording P → Gv
  seen s = recording_code.code (with_poller s (meaning s.poller))

  module _ (poller : P) {r before after : Recording P} (is : r ≡ before) where
    -- `is` and the equations say what was read of the fields and the arguments
    pub ctl-recorded : (may_ctl : CtlRelation) (op : ControlOperation) {fd z : ℤ} (event : EpollEvent) (answer : Result (Unit {0}) Errno) → z ≡ fd
        → may_ctl (meaning r.poller) op z event answer (meaning poller)
        → after ≡ recorded (with_poller r poller) (entries_of_ctl op z event answer)
        → MayCtl may_ctl (seen before) op fd event answer (seen after)
    ctl-recorded may_ctl op {fd} {z} event answer same h e =
        let call : MayCtl may_ctl (seen r) op z event answer (seen after) = (with_poller r (meaning r.poller), meaning poller, refl, h, ap seen e) in
        let at_fd : MayCtl may_ctl (seen r) op fd event answer (seen after) = subst (λ n. MayCtl may_ctl (seen r) op n event answer (seen after)) same call in
        subst (λ s. MayCtl may_ctl (seen s) op fd event answer (seen after)) is at_fd

    pub wait-recorded : (may_wait : WaitRelation) {ms z : ℤ} (room : ℕ) (answer : Result ℕ Errno) {events report : List EpollEvent} → z ≡ ms → report ≡ events
        → may_wait (meaning r.poller) z room answer events (meaning poller)
        → after ≡ recorded (with_poller r poller) (entries_of_wait z room answer report)
        → MayWait may_wait (seen before) ms room answer events (seen after)
    wait-recorded may_wait {ms} {z} room answer {events} same all h e =
        let call : MayWait may_wait (seen r) z room answer events (seen after) = (
          with_poller r (meaning r.poller),
          meaning poller,
          refl,
          h,
          ap seen
              (subst (λ l. after ≡ recorded (with_poller r poller) (entries_of_wait z room answer l)) all e),
        ) in
        let at_ms : MayWait may_wait (seen r) ms room answer events (seen after) =
        subst (λ n. MayWait may_wait (seen r) n room answer events (seen after)) same call in
        subst (λ s. MayWait may_wait (seen s) ms room answer events (seen after)) is at_ms
