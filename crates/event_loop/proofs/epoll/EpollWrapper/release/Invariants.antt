use Rattle.std.proofs.Common.{◌≡◌}
use Rattle.event_loop.proofs.Releasing.{DeletedSoFar}
use Rattle.event_loop.proofs.epoll.EpollWrapper.release.Given as goal

abbrev pub invariant-loop-fd : goal.invariant-loop-fd
invariant-loop-fd g l = record {
  so_far : DeletedSoFar g.P.EventPoller.controls g.P.EventPoller.waits l.fd-items l.fd-index l.initial.self.poller l.self.poller;
  same : l.self.registrations ≡ l.initial.self.registrations;
}
