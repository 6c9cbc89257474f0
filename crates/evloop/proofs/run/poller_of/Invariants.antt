use Rattle.std.proofs.Common.{◌≡◌}
use Rattle.evloop.specs.ScriptedPoller.{empty, with_waits, with_refusals}
use Rattle.evloop.proofs.run.poller_of.Given as goal

abbrev pub invariant-loop-wait : goal.invariant-loop-wait
invariant-loop-wait l = with_waits empty l.fn.waits.items ≡ with_waits l.poller l.wait-iterator.rest.items

abbrev pub invariant-loop-refusal : goal.invariant-loop-refusal
invariant-loop-refusal l = with_refusals (with_waits empty l.fn.waits.items) l.fn.refusals.items ≡ with_refusals l.poller l.refusal-iterator.rest.items
