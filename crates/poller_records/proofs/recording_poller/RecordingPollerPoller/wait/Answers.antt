use Rattle.std.proofs.lemmas.Int.{to_z-of_z}
use mir.Syntax.{w32}
use Rattle.poller_records.proofs.RecordingLemmas.{wait-recorded}
use Rattle.poller_records.proofs.recording_poller.RecordingPollerPoller.wait.Goals as goal

pub returns-clause-answer : goal.returns-clause-answer
returns-clause-answer g c =
    let ms = to_z-of_z w32 c.args.ms c.ranges.ms in
    wait-recorded g.P.Poller.meaning c.wait-answer.new.self c.self.view_is g.P.Poller.may_wait _ c.wait-answer.result ms c.report_in.ensures
    c.wait-answer.ensures.answer c.keep.ensures
