use Rattle.std.proofs.Common.{take}
use Rattle.std.specs.List.{AllZip}
use Rattle.evloop_script.specs.Item.{IsOfItem}
use Rattle.evloop_script.proofs.script.line.events.Given as goal

abbrev pub invariant-loop-item : goal.invariant-loop-item
invariant-loop-item l = AllZip (λ item event. IsOfItem item.now event) (take l.item-index l.items) l.events.items
