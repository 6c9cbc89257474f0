-- The entries of a report with their classes, as the code lists them.
use Rattle.std.specs.Prelude.{◌≡◌, ℕ, ◌==◌, List, map, filter, All}
use Rattle.vmm_sys.specs.declared.entries.EpollEvent.{EpollEvent}
use Rattle.dispatch_tables.specs.Priority.{number_of}
use Rattle.dispatch_tables.specs.Event.{event_of_entry}
use Rattle.dispatch_tables.specs.Ownership.{OwnerMap, class_in}
use Rattle.dispatch_tables.specs.declared.dispatch_order.ClassedEntry.{ClassedEntry}

-- an entry with the number of its class, as the list has it; as the owners give it
abbrev pub numbered : ClassedEntry → ℕ × EpollEvent
numbered one = (number_of one.class, one.entry)

abbrev pub classed_by : OwnerMap → EpollEvent → ℕ × EpollEvent
classed_by owners e = (class_in owners (event_of_entry e).fd, e)

-- the entries of class n
abbrev pub entries_of_class : ℕ → List ClassedEntry → List EpollEvent
entries_of_class n classed = map (λ one. one.entry) (filter (λ one. number_of one.class == n) classed)

abbrev pub AreAllLowest : List ClassedEntry → Type 0
AreAllLowest classed = All (λ one. number_of one.class ≡ 0) classed
