-- A change of the interest list, with timers beside the poller.
use Rattle.std.proofs.Common.{ℤ, ◌≡◌, true, false, refl, inl, inr, subst, sym}
use Rattle.std.specs.Prelude.{Result, Err, Some, None}
use base.Stored.{Gv}
use Rattle.vmm_sys.specs.declared.entries.EpollEvent.{EpollEvent}
use Rattle.vmm_sys.specs.declared.entries.ControlOperation.{ControlOperation}
use Rattle.vmm_sys.specs.declared.errno.Errno.{Errno}
use Rattle.vmm_sys.specs.declared.errno.TheConstants.Errno.{EINVAL}
use Rattle.vmm_sys.specs.Poller.{CtlRelation}
use Rattle.timerfd.specs.TimedPoller.{Timed, with_poller, timed_code, is_refused, AnswersOfTimer, MayCtl}

module _ {P : Type 0} (meaning : P → Gv) where
  -- what a poller with timers means
  abbrev pub seen : Timed P → Gv
  seen t = timed_code.code (with_poller t (meaning t.poller))

  -- `same` and `is` say what was read of the argument and of the fields
  module _ (before : Timed P) (may_ctl : CtlRelation) (op : ControlOperation) {z fd : ℤ} (same : z ≡ fd) (e : EpollEvent) (answer : Result (Unit {0}) Errno) where
    abbrev Called : Gv → Type 0
    Called after = MayCtl may_ctl (seen before) op fd e answer after

    at_fd : (after : Gv) → MayCtl may_ctl (seen before) op z e answer after → Called after
    at_fd after h = subst (λ n. MayCtl may_ctl (seen before) op n e answer after) same h

    pub ctl_refused : is_refused before.counter op z e ≡ true → answer ≡ Err EINVAL → Called (seen before)
    ctl_refused refused answered = at_fd (seen before) (with_poller before (meaning before.poller), refl, rw refused (answered, refl))

    pub ctl_of_timer : is_refused before.counter op z e ≡ false → AnswersOfTimer op z e (Some answer) → Called (seen before)
    ctl_of_timer agreed answered = at_fd (seen before) (with_poller before (meaning before.poller), refl, rw agreed (inl (refl, answered)))

    pub ctl_below : {r : Timed P} → r ≡ before → (poller : P) → is_refused before.counter op z e ≡ false → AnswersOfTimer op z e None
        → may_ctl (meaning r.poller) op z e answer (meaning poller) → Called (seen (with_poller r poller))
    ctl_below {r} is poller agreed none h =
        subst (λ (s : Timed P). Called (seen (with_poller s poller))) (sym is)
        (at_fd (seen (with_poller before poller))
        (with_poller before (meaning before.poller), refl, rw agreed (inr (none, meaning poller, subst (λ (s : Timed P). may_ctl (meaning s.poller) op z e answer (meaning poller)) is h, refl))))
