-- What a refusal prints.
use Rattle.std.specs.Prelude.{ℕ, List, ◌++◌, codes}
use Rattle.std.specs.Fmt.{signed_decimal}
use Rattle.channels.specs.declared.errors.Refusal.{Refusal}
use Rattle.channels.specs.declared.errors.Refusal.TheVariants.{Closed, Full, OutOfMemory, EventFd}

abbrev pub text_of : Refusal → List ℕ
text_of Closed = codes "channels: the receiver has closed"
text_of Full = codes "channels: as many messages wait as there is room for"
text_of OutOfMemory = codes "channels: memory was refused"
text_of (EventFd errno) = codes "channels: the counter refuses its ring: os error " ++ signed_decimal errno.0
