-- An event: its set, its word, and the descriptor in the word.
use Rattle.std.specs.Prelude.{◌≡◌, ℕ, ◌+◌, ◌*◌, ◌/◌, ◌%◌, ◌^◌, ℤ}
use Rattle.std.proofs.Common.{arith}
use Rattle.std.specs.Int.{cast_signed}
use mir.Syntax.{w32}
use Rattle.vmm_sys.specs.declared.event_set.EventSet.{EventSet}
use Rattle.vmm_sys.specs.declared.entries.EpollEvent.{EpollEvent}

-- the event of a set and a word
abbrev pub event : EventSet → ℕ → EpollEvent
event set word = record { set = set; word = word }

-- the set of an event
abbrev pub set_of : EpollEvent → EventSet
set_of e = e.set

-- the word of an event
abbrev pub word_of : EpollEvent → ℕ
word_of e = e.word

-- the halves of an event's word, each of 32 bits
abbrev pub high_half : EpollEvent → ℕ
high_half e = word_of e / 2 ^ 32

abbrev pub low_half : EpollEvent → ℕ
low_half e = word_of e % 2 ^ 32

-- the word with these halves
abbrev pub word_of_halves : ℕ → ℕ → ℕ
word_of_halves high low = high * 2 ^ 32 + low

pub word_of_halves-whole : (word : ℕ) → word_of_halves (word / 2 ^ 32) (word % 2 ^ 32) ≡ word
word_of_halves-whole word = omega arith

-- the descriptor that the word of an event says: the low half, read as a signed number
abbrev pub fd_of : EpollEvent → ℤ
fd_of e = cast_signed w32 (low_half e)
