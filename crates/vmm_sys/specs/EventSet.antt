-- An event set, as the number of its bits.
use Rattle.std.specs.Prelude.{ℕ}
use Rattle.vmm_sys.specs.declared.event_set.EventSet.{EventSet}

-- the bits of a set
abbrev pub bits_of : EventSet → ℕ
bits_of set = set.0

-- the set of these bits
abbrev pub with_bits : ℕ → EventSet
with_bits bits = record { 0 = bits }
