-- What a peer says when it is asked for statistics.
use Rattle.std.specs.Prelude.{Result, Ok, Err}
use Rattle.event_loop.specs.declared.wrappers.Either.{Either}
use Rattle.event_loop.specs.declared.wrappers.Either.TheVariants.{First, Second}
use Rattle.event_manager.specs.Error.{Error}
use Rattle.event_manager.specs.Error.TheVariants.{InvalidId}
use Rattle.event_manager.specs.Exchange.{Answer}
use Rattle.server.specs.declared.acceptor.Acceptor.{Acceptor}
use Rattle.server.specs.declared.acceptor.Statistics.{Statistics}
use Rattle.server.specs.declared.connection.Connection.{Connection}

-- these statistics; or the refusal, where the request was refused
abbrev pub unless_refused : Answer → Statistics → Result Statistics Error
unless_refused (Ok entry) counted = Ok counted
unless_refused (Err error) counted = Err error

-- an acceptor says its own; a connection isn't one
abbrev pub statistics_of : {R : Type 0} → Either (Acceptor R) (Connection R) → Result Statistics Error
statistics_of (First acceptor) = unless_refused acceptor.asked acceptor.statistics
statistics_of (Second connection) = Err InvalidId
