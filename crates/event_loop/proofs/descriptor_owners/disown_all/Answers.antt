use Rattle.std.proofs.Common.{subst, arith, take, ◌+◌, sym}
use Rattle.event_loop.specs.Releasing.{AreWithout}
use Rattle.event_loop.proofs.Watching.{without_more}
use Rattle.event_loop.proofs.descriptor_owners.disown_all.Goals as goal

pub loop-fd-preserved : goal.loop-fd-preserved
loop-fd-preserved c =
    let inv = c.loop-fd.invariant in
    let fds = c.args.fds.now in
    let more = without_more c.args.owners.now c.loop-fd.owners fds c.loop-fd.fd-index c.loop-fd-test.true inv.disowned in
    record {
      disowned = subst (λ m. AreWithout (take (c.loop-fd.fd-index + 1) fds) c.args.owners.now m) (sym c.disown.ensures.disowned) more;
      counted = c.disown.ensures.counted;
      fewer = omega (arith, inv.fewer, c.disown.ensures.fewer);
    }
