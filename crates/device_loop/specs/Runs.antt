-- What came of the block device in a run.
use Rattle.std.specs.Prelude.{◌≡◌, ◌+◌, ◌*◌, ◌≤◌, ℕ, List, length, take, Option, Some, None}
use Rattle.std.specs.Option.{ForSome}
use Rattle.event_manager.specs.Prelude.{Begins, Serves}
use Rattle.event_manager.specs.Life.{LifeStep, Lives}
use Rattle.event_loop.specs.declared.wrappers.Either.{Either}
use Rattle.event_loop.specs.declared.wrappers.Either.TheVariants.{First, Second}
use Rattle.device_loop.specs.declared.block.Block.{Block}
use Rattle.device_loop.specs.declared.ring.BlockRequest.{BlockRequest}

-- what the driver has queued, and what was served of that; how often the bucket was filled; and how many requests had been served
-- when the device was paused, if it was in the end
pub record Report : Type 0 where
  pub queued : List BlockRequest
  pub served : List BlockRequest
  pub refills : ℕ
  pub paused_at : Option ℕ

-- The requests were served in the order in which they were queued, each once; no more than a full bucket has tokens, and one bucket
-- more for each time that it was filled; and none since the device was paused.
pub record IsServedInOrder (report : Report) : Type 0 where
  pub in_order : report.served ≡ take (length report.served) report.queued
  pub limited : length report.served ≤ 4 + 4 * report.refills
  pub rested : ForSome report.paused_at (λ count. length report.served ≡ count)

module _ {N C Q R V : Type 0} (begins : Begins (Either N (Either C (Either (Block Q R) V)))) (serves : Serves (Either N (Either C (Either (Block Q R) V)))) where
  -- It is of a block device that nobody held at first, and that came by its joins, its events, and what the API's jobs put in its
  -- place, to what it was in the end.
  pub record IsOfALife (report : Report) : Type 0 where
    pub block : Block Q R
    pub life : List (LifeStep (Either N (Either C (Either (Block Q R) V))))
    pub lives : Lives begins serves None life (Some (Second (Second (First block))))
    pub served : length report.served ≡ block.limiter.taken
    pub refills : report.refills ≡ block.limiter.refills
    pub paused_at : report.paused_at ≡ block.limiter.paused_at
