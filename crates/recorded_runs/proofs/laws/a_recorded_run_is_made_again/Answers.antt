use Rattle.recorded_runs.proofs.RecordedTrace.{made_again}
use Rattle.recorded_runs.proofs.laws.a_recorded_run_is_made_again.Goals as goal

pub returns : goal.returns
returns g c = λ before after calls replies trace start end calls_again replies_again again functions ran reran.
    made_again g.S.MutEventSubscriber.begins g.S.MutEventSubscriber.serves g.J.Job.may functions
    g.P.Poller.meaning g.P.Poller.may_ctl g.P.Poller.may_wait
    before after trace start end again ran.is_trace ran.led reran.is_trace reran.led
