-- The numbers that were closed, in a row of marks.
use Rattle.std.specs.Prelude.{ℕ, ◌≡◌, Bool, false, List, Option, Some, None, slice_get, slice_index_or}
use Rattle.vmm_sys.specs.declared.table.source.Source.{Source}
use Rattle.vmm_sys.specs.Table.{is_closed}

-- whether what is found at a number was closed
abbrev pub was_closed : Option Source → Bool
was_closed None = false
was_closed (Some s) = is_closed s

-- the closed numbers are marked, and no others
abbrev pub AreMarkedClosed : List Source → List Bool → Type 0
AreMarkedClosed sources marks = (n : ℕ) → slice_index_or marks n false ≡ was_closed (slice_get sources n)
