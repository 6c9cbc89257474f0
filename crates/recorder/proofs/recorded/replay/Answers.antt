use Rattle.std.proofs.Common.{sym, ap, ◌∙◌}
use Rattle.poller_records.specs.Replay.{divergence_index}
use Rattle.event_manager.specs.EventLoop.{seen_of}
use Rattle.recorder.proofs.SameRun.{replay_tells, run_over, not_diverged}
use Rattle.recorder.proofs.recorded.replay.Goals as goal

pub returns-clause-tells : goal.returns-clause-tells
returns-clause-tells g c told recorded =
    let end = seen_of c.drive-driven.new.event_loop in
    let agreed = not_diverged end.poller (ap divergence_index (sym c.poller-poller.ensures) ∙ sym c.diverged.ensures ∙ c.in-None.is) in
    replay_tells _ _ _ _ c.args.devices.now told c.in_ok-driven-in-None.field-0 c.args.text.now recorded c.in_ok-read_record.field-0.items c.new-poller.result
    (seen_of c.in_ok-event_loop.event_loop) end c.a_recorded_loop_is_made_again.ensures c.devices_are_functions.ensures
    (c.in_ok-read_record.ensures.written recorded.after.poller.entries recorded.held recorded.text_is)
    c.new-poller.ensures c.in_ok-event_loop.ensures.made c.in_ok-driven-in-None.ensures agreed

pub returns-clause-runs : goal.returns-clause-runs
returns-clause-runs g c =
    run_over _ _ c.args.devices.now c.in_ok-driven-in-None.field-0 c.is_over.result c.args.text.now c.in_ok-read_record.field-0.items c.new-poller.result c.poller-poller.result.now
    (seen_of c.in_ok-event_loop.event_loop) (seen_of c.drive-driven.new.event_loop) c.in_ok-read_record.ensures.read c.new-poller.ensures c.in_ok-event_loop.ensures.made
    c.in_ok-driven-in-None.ensures c.poller-poller.ensures (sym c.diverged.ensures ∙ c.in-None.is) c.is_over.ensures
