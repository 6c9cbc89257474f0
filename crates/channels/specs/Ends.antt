-- What is seen of the ends of a channel, and what their calls may be refused with.
use Rattle.std.specs.Prelude.{Result, Err, Option}
use Rattle.std.specs.Arc.{arc_value}
use Rattle.vmm_sys.specs.declared.errno.Errno.{Errno}
use Rattle.channels.specs.declared.errors.Refusal.{Refusal}
use Rattle.channels.specs.declared.errors.Refusal.TheVariants.{Closed, Full, OutOfMemory, EventFd}
use Rattle.channels.specs.declared.sender.Sender.{Sender}
use Rattle.channels.specs.declared.receiver.Receiver.{Receiver}

module _ {M C : Type 0} where
  -- the counter that a sender rings
  abbrev pub counter_of_sender : Sender M C → C
  counter_of_sender sender = (arc_value sender.shared).counter

  -- the counter that is ready while there is room, if it has one
  abbrev pub room_of_sender : Sender M C → Option C
  room_of_sender sender = (arc_value sender.shared).room

  -- the counter that a receiver clears, and whose descriptor it has
  abbrev pub counter_of_receiver : Receiver M C → C
  counter_of_receiver receiver = (arc_value receiver.shared).counter

-- a send is refused with the number of a ring alone where the counter may answer that
abbrev pub IsSendRefusal : (Result (Unit {0}) Errno → Type 0) → Refusal → Type 0
IsSendRefusal rings Closed = Unit {0}
IsSendRefusal rings Full = Unit {0}
IsSendRefusal rings OutOfMemory = Unit {0}
IsSendRefusal rings (EventFd errno) = rings (Err errno)
