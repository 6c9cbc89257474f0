-- The values that pollers hold, as trees of numbers: different values have different codes.
use Rattle.std.specs.Prelude.{ℕ, ℤ, ◌≡◌, Bool, true, false, refl}
use Rattle.std.specs.Coded.{Coded, code_by, coded_ℕ, coded_ℤ, coded_bool, coded×}
use Rattle.vmm_sys.specs.declared.event_set.EventSet.{EventSet}
use Rattle.vmm_sys.specs.declared.entries.EpollEvent.{EpollEvent}
use Rattle.vmm_sys.specs.declared.entries.ControlOperation.{ControlOperation}
use Rattle.vmm_sys.specs.declared.entries.ControlOperation.TheVariants.{Add, Modify, Delete}
use Rattle.vmm_sys.specs.declared.errno.Errno.{Errno}
use Rattle.vmm_sys.specs.EventSet.{bits_of, with_bits}
use Rattle.vmm_sys.specs.EpollEvent.{event, set_of, word_of}

-- a set, by its bits
abbrev pub set_code : Coded EventSet
set_code = code_by ℕ coded_ℕ bits_of with_bits (λ _. refl)

-- an event, by its set and word
abbrev pub event_code : Coded EpollEvent
event_code = code_by (EventSet × ℕ) (coded× set_code coded_ℕ) (λ e. (set_of e, word_of e)) (λ p. event p.0 p.1) (λ _. refl)

-- an error, by its number
abbrev pub errno_code : Coded Errno
errno_code = code_by ℤ coded_ℤ (λ e. e.0) (λ n. record { 0 = n }) (λ _. refl)

-- an operation, by two bits
abbrev bits_of_operation : ControlOperation → Bool × Bool
bits_of_operation Add = (false, false)
bits_of_operation Modify = (false, true)
bits_of_operation Delete = (true, false)

-- the operation of two bits
abbrev operation_of_bits : Bool × Bool → ControlOperation
operation_of_bits (false, false) = Add
operation_of_bits (false, true) = Modify
operation_of_bits (true, _) = Delete

-- the bits say the operation
pub operation_of_bits-bits : (op : ControlOperation) → operation_of_bits (bits_of_operation op) ≡ op
operation_of_bits-bits Add = refl
operation_of_bits-bits Modify = refl
operation_of_bits-bits Delete = refl

abbrev pub operation_code : Coded ControlOperation
operation_code = code_by (Bool × Bool) (coded× coded_bool coded_bool) bits_of_operation operation_of_bits operation_of_bits-bits
