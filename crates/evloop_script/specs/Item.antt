-- Items of a report, as `FD:SET:DATA`.
use Rattle.std.specs.Prelude.{ℕ, ◌≡◌, ◌==◌, List}
use Rattle.std.specs.List.{before_first, after_first}
use Rattle.std.specs.Str.Parse.{digits_value, signed_digits_value}
use Rattle.vmm_sys.specs.declared.entries.EpollEvent.{EpollEvent}
use Rattle.vmm_sys.specs.EpollEvent.{fd_of, high_half}

-- what stands before the first colon (58) of a text
abbrev pub before_colon : List ℕ → List ℕ
before_colon text = before_first (λ byte. byte == 58) text

-- what stands behind it
abbrev pub after_colon : List ℕ → List ℕ
after_colon text = after_first (λ byte. byte == 58) text

-- the event's descriptor and data are those of the item's first and last part
pub record IsOfItem (item : List ℕ) (event : EpollEvent) : Type 0 where
  pub descriptor : fd_of event ≡ signed_digits_value 10 (before_colon item)
  pub payload : high_half event ≡ digits_value 10 (after_colon (after_colon item))
