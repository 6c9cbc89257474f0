-- In which order the events of a report are dispatched.
use Rattle.std.specs.Prelude.{List}
use Rattle.dispatch_tables.specs.Event.{Event}
use Rattle.dispatch_tables.specs.Ownership.{class_in}
use Rattle.dispatch_tables.specs.ClassOrder.{IsOrdered}
use Rattle.event_loop.specs.Registrations.{Registrations}

-- The order in which a report is dispatched: by the classes that the registrations give.
abbrev pub IsDispatchOrder : Registrations → List Event → List Event → Type 0
IsDispatchOrder registrations = IsOrdered (λ fd. class_in registrations.owners fd)
