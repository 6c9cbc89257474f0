use Rattle.std.proofs.Common.{◌+◌, take, subst, sym}
use Rattle.std.specs.List.{AllZip}
use Rattle.evloop_script.specs.Item.{IsOfItem}
use Rattle.evloop_script.proofs.Pairs.{all_zip_next}
use Rattle.evloop_script.proofs.script.line.events.Goals as goal

pub loop-item-preserved : goal.loop-item-preserved
loop-item-preserved c =
    let more = all_zip_next (λ item event. IsOfItem item.now event) c.args.items.now c.loop-item.events.items c.loop-item.item-index _ c.in-Some.event c.loop-item-test.true c.loop-item.invariant c.in-Some.ensures in
    subst (λ events. AllZip (λ item event. IsOfItem item.now event) (take (c.loop-item.item-index + 1) c.args.items.now) events) (sym c.in_ok-push.ensures.items) more
