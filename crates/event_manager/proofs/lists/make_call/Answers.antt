use mir.Val.{SFits}
use mir.Syntax.{w32}
use Rattle.std.proofs.Common.{rules, sym, ap}
use Rattle.std.proofs.lemmas.Int.{to_z-of_z}
use Rattle.event_manager.specs.Trace.{Stepped, Iterated}
use Rattle.event_manager.specs.declared.calls.Call.TheVariants as call
use Rattle.event_manager.specs.declared.calls.Reply.TheVariants as reply
use Rattle.event_manager.proofs.TraceSoFar.{join_matches, leave_matches, replacement_matches, ask_matches, step_called, iteration_called}
use Rattle.event_manager.proofs.lists.make_call.Goals as goal

pub returns-in-Add : goal.returns-in-Add
returns-in-Add g c =
    let did = c.add_subscriber.ensures in
    rw c.in-Add.is (Stepped did.0, join_matches g.row.J.Denot g.row.J-Reply.Denot c.in-Add.subscriber c.add_subscriber.result did.0 did.1, step_called g.S.MutEventSubscriber.begins g.S.MutEventSubscriber.serves g.J.Job.may g.P.EventPoller.controls g.P.EventPoller.waits did.2)

pub returns-in-Remove : goal.returns-in-Remove
returns-in-Remove g c =
    let did = c.remove_subscriber.ensures in
    rw c.in-Remove.is (Stepped did.0, leave_matches g.row.J.Denot g.row.J-Reply.Denot c.in-Remove.id c.remove_subscriber.result did.0 did.1, step_called g.S.MutEventSubscriber.begins g.S.MutEventSubscriber.serves g.J.Job.may g.P.EventPoller.controls g.P.EventPoller.waits did.2)

pub returns-in-Set : goal.returns-in-Set
returns-in-Set g c =
    let did = c.replace.ensures in
    rw c.in-Set.is (Stepped did.0, replacement_matches g.row.J.Denot g.row.J-Reply.Denot c.in-Set.id c.in-Set.subscriber c.replace.result did.0 did.1, step_called g.S.MutEventSubscriber.begins g.S.MutEventSubscriber.serves g.J.Job.may g.P.EventPoller.controls g.P.EventPoller.waits did.2)

pub returns-in-Ask : goal.returns-in-Ask
returns-in-Ask g c =
    let did = rw c.deref.ensures.value at c.ask.ensures in
    rw c.in-Ask.is (Stepped did.0, ask_matches g.row.J.Denot g.row.J-Reply.Denot c.in-Ask.id c.in-Ask.requests c.ask.result did.0 did.1, step_called g.S.MutEventSubscriber.begins g.S.MutEventSubscriber.serves g.J.Job.may g.P.EventPoller.controls g.P.EventPoller.waits did.2)

pub returns-in-Run : goal.returns-in-Run
returns-in-Run g c =
    let low : SFits w32 c.in-Run.ms = search rules in
    let did = rw (to_z-of_z _ _ low) at c.run_with_timeout.ensures in
    rw c.in-Run.is (Iterated did.iteration, (ap call.Run (sym did.milliseconds), ap reply.Ran did.answer), iteration_called g.S.MutEventSubscriber.begins g.S.MutEventSubscriber.serves g.J.Job.may g.P.EventPoller.controls g.P.EventPoller.waits did)
