use Rattle.std.proofs.Common.{◌≡◌, List}
use Rattle.event_manager.specs.Prelude.{Exchanges, PollerCall, AreMadeThrough}
use Rattle.bench.proofs.subscribers.CounterMutEventSubscriber.init.Given as goal

abbrev pub invariant-loop-k : goal.invariant-loop-k
invariant-loop-k g l = (exchanges : Exchanges) × (calls : List PollerCall) × (l.self.count ≡ l.initial.self.count) × AreMadeThrough g.P.EventPoller.controls g.P.EventPoller.waits l.initial.ops l.ops exchanges calls
