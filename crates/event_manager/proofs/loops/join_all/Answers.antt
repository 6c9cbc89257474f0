use Rattle.std.proofs.Common.{rules}
use Rattle.event_manager.proofs.LoopOutputs.{one_more}
use Rattle.event_manager.proofs.loops.join_all.Goals as goal

pub loop-thread-preserved : goal.loop-thread-preserved
loop-thread-preserved g c =
    let more = one_more g.L.ThreadLoop.gives c.loop-thread.yielded (λ thread. thread.promise.of.value) c.loop-thread.outputs.items c.in-Some.thread in
    search (rules, more)
