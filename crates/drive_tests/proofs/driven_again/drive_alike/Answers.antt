use Rattle.std.proofs.Common.{◌≡◌, [], subst}
use Rattle.std.proofs.lemmas.Result.{on_ok_weaker}
use Rattle.event_manager.specs.CounterSubscribers.{counter_begins, counter_serves}
use Rattle.event_manager.specs.LoopState.{contents_of}
use Rattle.event_manager.specs.Manager.{state_of}
use Rattle.event_manager.specs.Trace.{IsTrace}
use Rattle.drive_tests.proofs.driven_again.drive_alike.Goals as goal

pub returns : goal.returns
returns g c =
    let d = c.in_ok-drive.ensures.driven in
    on_ok_weaker c.drive-2.result (λ e. (
      record { replies = d.0; appended = d.1; trace = d.2.trace; is_trace_of = d.2.is_trace_of },
      record { replies = e.0; appended = e.1; trace = e.2.trace; is_trace_of = e.2.is_trace_of },
      λ capacity alike. c.a_replay_is_the_run.ensures capacity _ d.2.trace e.2.trace _ _ c.counters_are_functions.ensures d.2.is_trace_of.is_trace
          (subst (λ state. IsTrace counter_begins counter_serves (λ job steps reply. steps ≡ []) state e.2.trace (contents_of (state_of c.drive-2.new.manager)))
          alike e.2.is_trace_of.is_trace),
    )) c.drive-2.ensures.driven
