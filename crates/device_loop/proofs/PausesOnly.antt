-- What jobs put in a device's place is the same, but for a pause.
use Rattle.std.proofs.Common.{◌≡◌, ap, Bool, false}
use Rattle.event_loop.specs.declared.wrappers.Either.{Either}
use Rattle.event_loop.specs.declared.wrappers.Either.TheVariants.{First, Second}
use Rattle.device_loop.specs.declared.block.Block.{Block}
use Rattle.device_loop.specs.Pauses.{with_flag, IsSameButPaused}

pub only_paused : {N C Q R V : Type 0} (flag : Bool) (before after : Either N (Either C (Either (Block Q R) V))) → after ≡ with_flag flag before → IsSameButPaused before after
only_paused flag (First net) after is = ap (with_flag false) is
only_paused flag (Second (First console)) after is = ap (with_flag false) is
only_paused flag (Second (Second (First block))) after is = ap (with_flag false) is
only_paused flag (Second (Second (Second vmm))) after is = ap (with_flag false) is
