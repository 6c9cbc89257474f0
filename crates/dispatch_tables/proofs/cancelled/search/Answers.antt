use Rattle.std.proofs.Common.{◌+◌, ◌-◌, ◌/◌, arith, length}
use Rattle.dispatch_tables.proofs.Ascending.{below_more, above_more, halved_more, few_more}
use Rattle.dispatch_tables.proofs.cancelled.search.Goals as goal

pub overflow_add-probes : goal.overflow_add-probes
overflow_add-probes c = omega (arith, c.loop-low.invariant.few 64 c.loop-low.invariant.sized)

pub loop-low-preserved-then-entry-fd-2 : goal.loop-low-preserved-then-entry-fd-2
loop-low-preserved-then-entry-fd-2 c =
    let inv = c.loop-low.invariant in
    let list = c.args.list.now in
    let low = c.loop-low.low in
    let high = c.loop-low.high in
    let middle = low + (high - low) / 2 in
    let some = c.loop-low-test.true in
    record {
      sized = inv.sized;
      in_order = omega (arith, some);
      within = inv.within;
      below = below_more list c.args.fd middle c.requires (omega (arith, some, inv.within)) c.if-entry-fd-2.true;
      above = inv.above;
      halved = halved_more (high - (middle + 1)) (high - low) c.loop-low.probes (length list) (omega (arith, some)) inv.halved;
      few = λ digits below. few_more (high - low) c.loop-low.probes (length list) digits (omega (arith, some)) inv.halved below;
    }

pub loop-low-preserved : goal.loop-low-preserved
loop-low-preserved c =
    let inv = c.loop-low.invariant in
    let list = c.args.list.now in
    let low = c.loop-low.low in
    let high = c.loop-low.high in
    let middle = low + (high - low) / 2 in
    let some = c.loop-low-test.true in
    record {
      sized = inv.sized;
      in_order = omega (arith, some);
      within = omega (arith, some, inv.within);
      below = inv.below;
      above = above_more list c.args.fd middle c.requires (omega (arith, some, inv.within)) (omega (arith, c.if-entry-fd-2.false, c.if-entry-fd.false));
      halved = halved_more (middle - low) (high - low) c.loop-low.probes (length list) (omega (arith, some)) inv.halved;
      few = λ digits below. few_more (high - low) c.loop-low.probes (length list) digits (omega (arith, some)) inv.halved below;
    }
