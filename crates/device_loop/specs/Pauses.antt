-- What a pause changes.
use Rattle.std.specs.Prelude.{◌≡◌, Bool, false}
use Rattle.event_loop.specs.declared.wrappers.Either.{Either}
use Rattle.event_loop.specs.declared.wrappers.Either.TheVariants.{First, Second}
use Rattle.device_loop.specs.Buckets.{paused}
use Rattle.device_loop.specs.declared.block.Block.{Block}

-- a device, where it is a block device, is paused or goes on, and all else of it is as it was
abbrev pub with_flag : {N C Q R V : Type 0} → Bool → Either N (Either C (Either (Block Q R) V)) → Either N (Either C (Either (Block Q R) V))
with_flag flag (Second (Second (First block))) = Second (Second (First (record block { limiter = paused flag block.limiter })))
with_flag flag device = device

-- they are the same, but that one may be paused and the other not
abbrev pub IsSameButPaused : {N C Q R V : Type 0} → Either N (Either C (Either (Block Q R) V)) → Either N (Either C (Either (Block Q R) V)) → Type 0
IsSameButPaused v w = with_flag false w ≡ with_flag false v
