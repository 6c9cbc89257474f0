use Rattle.std.proofs.Common.{◌+◌, ◌<◌, List, [], ◌∷◌, ◌++◌, Ok, refl, sym, ap, subst, ◌∙◌, take, length, pos, arith, rules}
use Rattle.std.proofs.lemmas.List.{take_more_set, replicate_more, map-append}
use Rattle.event_manager.specs.EventLoop.{seen_of}
use Rattle.event_manager.specs.declared.calls.Call.{Call}
use Rattle.event_manager.specs.declared.calls.Call.TheVariants.{Add, Run}
use Rattle.event_manager.specs.declared.calls.Reply.{Reply}
use Rattle.event_manager.specs.declared.calls.Reply.TheVariants.{Added, Ran}
use Rattle.recorded_runs.proofs.LoopCalls.{AreMade, none_made, join_made, run_made}
use Rattle.recorder.specs.declared.device.Device.{Device}
use Rattle.recorder.specs.Devices.{device_begins, device_serves}
use Rattle.recorder.specs.Run.{calls_of, replies_of}
use Rattle.recorder.proofs.run.drive.Goals as goal

pub loop-at-init : goal.loop-at-init
loop-at-init g c =
    let before = seen_of c.args.event_loop.now in
    let between = seen_of c.add_subscriber.new.self in
    let one = join_made device_begins device_serves g.P.EventPoller.controls g.P.EventPoller.waits before before between [] [] c.args.devices.now.0 c.add_subscriber.result
    (none_made device_begins device_serves g.P.EventPoller.controls g.P.EventPoller.waits before) c.add_subscriber.ensures in
    let two = join_made device_begins device_serves g.P.EventPoller.controls g.P.EventPoller.waits before between (seen_of c.add_subscriber-2.new.self) (Add c.args.devices.now.0 ∷ [])
    (Added c.add_subscriber.result ∷ []) c.args.devices.now.1 c.add_subscriber-2.result one c.add_subscriber-2.ensures in
    record { made = rw (c.in_ok-queue.was, c.in_ok-console.was) at two; room = refl }

pub loop-at-preserved : goal.loop-at-preserved
loop-at-preserved g c =
    let before = seen_of c.args.event_loop.now in
    let at = c.loop-at.at in
    let ran = run_made device_begins device_serves g.P.EventPoller.controls g.P.EventPoller.waits before (seen_of c.loop-at.event_loop) (seen_of c.run_with_timeout.new.self)
    (calls_of c.args.devices.now at) (replies_of c.in_ok-queue.queue c.in_ok-console.console (take at c.loop-at.events)) (pos 0) c.run_with_timeout.result c.loop-at.invariant.made c.run_with_timeout.ensures in
    let calls = ap (λ (runs : List (Call Device)). Add c.args.devices.now.0 ∷ Add c.args.devices.now.1 ∷ runs) (replicate_more at (Run (pos 0))) in
    let within : at < length c.loop-at.events = omega (arith, c.loop-at.invariant.room) in
    let events = take_more_set c.loop-at.events at c.in_ok-count.count within in
    let replies = ap (λ result. replies_of c.in_ok-queue.queue c.in_ok-console.console (take at c.loop-at.events) ++ Ran result ∷ []) c.in_ok-count.was
    ∙ ap (λ (rs : List (Reply Device)). Added (Ok c.in_ok-queue.queue) ∷ Added (Ok c.in_ok-console.console) ∷ rs) (sym (map-append (λ count. Ran (Ok count)) (take at c.loop-at.events) (c.in_ok-count.count ∷ [])))
    ∙ ap (λ events. replies_of c.in_ok-queue.queue c.in_ok-console.console events) (sym events) in
    record {
      made = subst (λ rs. AreMade device_begins device_serves g.P.EventPoller.controls g.P.EventPoller.waits before (calls_of c.args.devices.now (at + 1)) rs (seen_of c.run_with_timeout.new.self)) replies
          (subst (λ cs. AreMade device_begins device_serves g.P.EventPoller.controls g.P.EventPoller.waits before cs (replies_of c.in_ok-queue.queue c.in_ok-console.console (take at c.loop-at.events) ++ Ran c.run_with_timeout.result ∷ []) (seen_of c.run_with_timeout.new.self)) calls ran);
      room = search rules;
    }
