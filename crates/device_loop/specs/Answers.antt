-- What a device answers when the API asks it.
use Rattle.std.specs.Prelude.{◌≡◌, Result, Ok, Err}
use Rattle.event_manager.specs.Error.{Error}
use Rattle.event_manager.specs.Exchange.{Answer}
use Rattle.event_loop.specs.declared.wrappers.Either.{Either}
use Rattle.event_loop.specs.declared.wrappers.Either.TheVariants.{First, Second}
use Rattle.device_loop.specs.declared.api.ApiAction.{ApiAction}
use Rattle.device_loop.specs.declared.api.ApiAction.TheVariants.{GetStatistics}
use Rattle.device_loop.specs.declared.api.ApiReply.{ApiReply}
use Rattle.device_loop.specs.declared.api.ApiReply.TheVariants as reply
use Rattle.device_loop.specs.BlockEvents.{metrics_of}
use Rattle.device_loop.specs.declared.block.Block.{Block}
use Rattle.device_loop.specs.declared.console.Console.{Console}
use Rattle.device_loop.specs.declared.statistics.Statistics.{Statistics}
use Rattle.device_loop.specs.declared.statistics.Statistics.TheVariants as statistics

-- this; or the refusal, where the last request was refused
abbrev pub unless_refused : {T : Type 0} → Answer → T → Result T Error
unless_refused (Ok entry) told = Ok told
unless_refused (Err error) told = Err error

-- what a console has counted
abbrev pub counted_by : {R : Type 0} → Console R → Statistics
counted_by console = statistics.Console console.inputs console.hung_up

-- a console or a block device that is asked for its statistics replies these, or its refusal; of what lies under the lock of a
-- network device nothing can be said
abbrev pub IsAnswer : {N Q R V : Type 0} → ApiAction → Either N (Either (Console R) (Either (Block Q R) V)) → Result ApiReply Error → Type 0
IsAnswer GetStatistics (Second (First console)) told = told ≡ unless_refused console.answer (reply.Statistics (counted_by console))
IsAnswer GetStatistics (Second (Second (First block))) told = told ≡ unless_refused block.asked (reply.Statistics (metrics_of block))
IsAnswer action device told = Unit {0}
