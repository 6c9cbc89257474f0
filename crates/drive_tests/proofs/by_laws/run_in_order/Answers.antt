use Rattle.std.proofs.Common.{◌≡◌, List, Result, Ok, Err, IfOk}
use Rattle.vmm_sys.specs.declared.errno.Errno.{Errno}
use Rattle.event_manager.specs.Prelude.{Event, Begins, Serves, May, LoopContents, JobRun, Position, events_of, IsIteration}
use Rattle.event_manager.specs.DispatchOrder.{IsDispatchOrder}
use Rattle.event_manager.specs.EventLoop.{seen_of}
use Rattle.drive_tests.proofs.by_laws.run_in_order.Goals as goal

in_order : {V J R : Type 0} (begins : Begins V) (serves : Serves V) (may : May V J R) (before : LoopContents V) (waited : Result (List Event) Errno) (positions : List (Position V)) (jobs : List (JobRun V J R)) (after : LoopContents V)
    → ((report : List Event) → IsDispatchOrder before.registry.registrations report (events_of positions) → events_of positions ≡ report) → IsIteration begins serves may before waited positions jobs after → IfOk waited (λ report. events_of positions ≡ report)
in_order begins serves may before (Ok report) positions jobs after same did = same report did.1.0
in_order begins serves may before (Err errno) positions jobs after same did = tt

pub returns : goal.returns
returns g c =
    let did = c.run.ensures in
    let order = c.one_dispatch_order.ensures in
    let registrations = (seen_of c.args.subscribers.now).registry.registrations in (
      did,
      λ lowest. in_order _ _ _ _ did.iteration.waited did.iteration.positions did.iteration.jobs _
          (λ report ordered. order.unique registrations report _ report ordered (order.lowest registrations report lowest)) did.iterated,
    )
