-- What a block device asks for and tells, and what an event does to its bucket of tokens.
use Rattle.std.specs.Prelude.{◌≡◌, ◌==◌, if◌then◌else◌}
use Rattle.std.specs.Result.{result_and}
use Rattle.event_manager.specs.Event.{Event}
use Rattle.event_manager.specs.Exchange.{Answer}
use Rattle.device_loop.specs.Buckets.{refilled, Pays}
use Rattle.device_loop.specs.NetEvents.{event_of}
use Rattle.device_loop.specs.declared.block.Block.{Block}
use Rattle.device_loop.specs.declared.statistics.Statistics.{Statistics}
use Rattle.device_loop.specs.declared.statistics.Statistics.TheVariants as statistics

module _ {Q R : Type 0} where
  -- the kicks of its queue, and what fills its bucket
  abbrev pub queue_event : Block Q R → Event
  queue_event block = event_of block.queue 0

  abbrev pub refill_event : Block Q R → Event
  refill_event block = event_of block.refill 1

  -- what it has counted
  abbrev pub metrics_of : Block Q R → Statistics
  metrics_of block = statistics.Block (record { tokens = block.limiter.tokens; served = block.limiter.taken; refills = block.limiter.refills })

  -- its bucket is full after the event that fills it
  abbrev pub filled : Event → Block Q R → Block Q R
  filled event block = record block { limiter = if event.payload == 1 then refilled block.limiter else block.limiter }

  -- it has served requests, each for a token that was there; or was refused memory, and keeps that if it is its first refusal
  abbrev pub IsServed : Block Q R → Block Q R → Type 0
  IsServed v w = (answer : Answer) × (w ≡ record v { limiter = w.limiter; asked = result_and v.asked answer }) × Pays v.limiter w.limiter
