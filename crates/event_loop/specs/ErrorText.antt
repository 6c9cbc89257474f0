-- What an error prints.
use Rattle.std.specs.Prelude.{ℕ, ℤ, List, codes, ◌++◌}
use Rattle.std.specs.Fmt.{signed_decimal}
use Rattle.event_loop.specs.declared.error.Error.{Error}
use Rattle.event_loop.specs.declared.error.Error.TheVariants.{ChannelSend, ChannelRecv, EventFd, Epoll, FdAlreadyRegistered, InvalidId, InvalidCapacity, OutOfMemory, IdsUsedUp, TicketsUsedUp}

-- what an error number prints
abbrev pub errno_text : ℤ → List ℕ
errno_text n = codes "os error " ++ signed_decimal n

abbrev pub error_text : Error → List ℕ
error_text ChannelSend = codes "event_manager: failed to send message to remote endpoint"
error_text ChannelRecv = codes "event_manager: failed to receive message from remote endpoint"
error_text (EventFd e) = codes "event_manager: failed to manage EventFd file descriptor: " ++ errno_text e.0
error_text (Epoll e) = codes "event_manager: failed to manage epoll file descriptor: " ++ errno_text e.0
error_text FdAlreadyRegistered = codes "event_manager: file descriptor has already been registered"
error_text InvalidId = codes "event_manager: invalid subscriber Id"
error_text InvalidCapacity = codes "event_manager: invalid ready_list capacity"
error_text OutOfMemory = codes "event_manager: out of memory"
error_text IdsUsedUp = codes "event_manager: subscriber ids used up"
error_text TicketsUsedUp = codes "event_manager: job tickets used up"
