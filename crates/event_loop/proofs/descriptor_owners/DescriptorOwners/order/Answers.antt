use Rattle.std.proofs.Common.{arith, map, take}
use Rattle.dispatch_tables.specs.Event.{event_of_entry}
use Rattle.dispatch_tables.specs.Ownership.{class_in}
use Rattle.dispatch_tables.proofs.DispatchOrders.{ordered_in_class_0}
use Rattle.dispatch_tables.proofs.RaisedOwners.{all_lowest}
use Rattle.event_loop.proofs.descriptor_owners.DescriptorOwners.order.Goals as goal

pub returns-then-self-gt0-clause-ordered : goal.returns-then-self-gt0-clause-ordered
returns-then-self-gt0-clause-ordered c = rw (← c.self.view_is) c.order_by_class.ensures.ordered

pub returns-else-self-gt0-clause-ordered : goal.returns-else-self-gt0-clause-ordered
returns-else-self-gt0-clause-ordered c =
    let b = c.self.inside in
    rw (← c.self.view_is) (ordered_in_class_0 (λ fd. class_in b.owners fd) (map event_of_entry (take c.args.count c.args.report.now)) (all_lowest b.owners b.owned b.raised c.self.invariant.counted (omega (arith, c.if-self-gt0.false))))
