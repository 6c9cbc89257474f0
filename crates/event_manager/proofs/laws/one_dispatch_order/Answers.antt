use Rattle.dispatch_tables.proofs.DispatchOrders.{by_class, ordered_by_class, one_order, ordered_permutation, ordered_in_class_0}
use Rattle.event_manager.proofs.laws.one_dispatch_order.Goals as goal
use Rattle.dispatch_tables.specs.Ownership.{class_in}

pub returns-clause-exists : goal.returns-clause-exists
returns-clause-exists c = λ registrations report. (by_class (λ fd. class_in registrations.owners fd) report, ordered_by_class (λ fd. class_in registrations.owners fd) report)

pub returns-clause-unique : goal.returns-clause-unique
returns-clause-unique c = λ registrations report one other. one_order (λ fd. class_in registrations.owners fd) report one other

pub returns-clause-all : goal.returns-clause-all
returns-clause-all c = λ registrations report ordered. ordered_permutation (λ fd. class_in registrations.owners fd) report ordered

pub returns-clause-lowest : goal.returns-clause-lowest
returns-clause-lowest c = λ registrations report. ordered_in_class_0 (λ fd. class_in registrations.owners fd) report
