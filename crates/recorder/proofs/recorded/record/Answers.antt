use Rattle.std.proofs.Common.{sym, ap, subst, ◌∙◌}
use Rattle.std.specs.List.{All}
use Rattle.poller_records.specs.Held.{IsEntry}
use Rattle.poller_records.specs.Lines.{text_of}
use Rattle.event_manager.specs.EventLoop.{seen_of}
use Rattle.recorder.proofs.SameRun.{recorded_so}
use Rattle.recorder.proofs.recorded.record.Goals as goal

pub returns : goal.returns
returns g c =
    let entries = ap (λ recording. recording.entries) c.poller-recording.ensures in
    recorded_so _ _ c.args.epoll 64 c.in_ok-poller.poller (seen_of c.in_ok-event_loop.event_loop) (seen_of c.drive.new.event_loop) c.args.devices.now c.in_ok-told.told _ c.is_complete-is_complete.result
    c.in_ok-poller.ensures.made c.in_ok-event_loop.ensures.made c.in_ok-told.ensures
    (sym (ap (λ recording. recording.complete) c.poller-recording.ensures) ∙ sym c.is_complete-is_complete.ensures)
    (subst (All IsEntry) (c.record.ensures ∙ entries) c.entries_are_held.ensures)
    (c.in_ok-text.ensures ∙ ap text_of (c.record-2.ensures ∙ entries))
