-- The numbers of the priorities.
use Rattle.std.specs.Prelude.{◌≡◌, ℕ, zero, suc, refl}
use Rattle.std.specs.Coded.{Coded, code_by, coded_ℕ}
use Rattle.dispatch_tables.specs.declared.priority.Priority.{Priority}
use Rattle.dispatch_tables.specs.declared.priority.Priority.TheVariants.{Lowest, Low, High, Highest}

abbrev pub number_of : Priority → ℕ
number_of Lowest = 0
number_of Low = 1
number_of High = 2
number_of Highest = 3

-- the priority of a number
abbrev pub of_number : ℕ → Priority
of_number zero = Lowest
of_number (suc zero) = Low
of_number (suc (suc zero)) = High
of_number (suc (suc (suc n))) = Highest

pub of_number-number_of : (priority : Priority) → of_number (number_of priority) ≡ priority
of_number-number_of Lowest = refl
of_number-number_of Low = refl
of_number-number_of High = refl
of_number-number_of Highest = refl

-- a priority is stored as its number
abbrev pub priority_code : Coded Priority
priority_code = code_by ℕ coded_ℕ number_of of_number of_number-number_of
