use Rattle.std.proofs.lemmas.Int.{to_z-of_z}
use mir.Syntax.{w32}
use Rattle.poller_records.proofs.RecordingLemmas.{ctl-recorded}
use Rattle.poller_records.proofs.recording_poller.RecordingPollerPoller.ctl.Goals as goal

pub returns : goal.returns
returns g c =
    let fd = to_z-of_z w32 c.args.fd c.ranges.fd in
    ctl-recorded g.P.Poller.meaning c.ctl-answer.new.self c.self.view_is g.P.Poller.may_ctl c.args.op c.args.event c.ctl-answer.result fd
    c.ctl-answer.ensures c.keep.ensures
