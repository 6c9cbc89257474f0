use Rattle.std.proofs.lemmas.Result.{on_ok_weaker}
use Rattle.drive_tests.proofs.driven_again.drive_over_record.Goals as goal

pub returns : goal.returns
returns g c = on_ok_weaker c.drive.result (λ d. (
  record { replies = d.0; appended = d.1; trace = d.2.trace; is_trace_of = d.2.is_trace_of },
  λ before after calls replies trace recorded.
      c.a_recorded_run_is_made_again.ensures before after calls replies trace _ _ _ _ _ c.counters_are_functions.ensures recorded d.2.is_trace_of,
)) c.drive.ensures.driven
