use Rattle.std.proofs.Common.{◌≡◌, take, length}
use Rattle.event_manager.specs.EventLoop.{seen_of}
use Rattle.recorded_runs.proofs.LoopCalls.{AreMade}
use Rattle.recorder.specs.Devices.{device_begins, device_serves}
use Rattle.recorder.specs.Run.{calls_of, replies_of}
use Rattle.recorder.proofs.run.drive.Given as goal

abbrev pub invariant-loop-at : goal.invariant-loop-at
invariant-loop-at g l = record {
  made : AreMade device_begins device_serves g.P.EventPoller.controls g.P.EventPoller.waits (seen_of l.fn.event_loop) (calls_of l.fn.devices l.at) (replies_of l.queue l.console (take l.at l.events)) (seen_of l.event_loop);
  room : length l.events ≡ 5;
}
