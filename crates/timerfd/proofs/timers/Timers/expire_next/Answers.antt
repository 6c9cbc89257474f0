use Rattle.std.proofs.Common.{refl}
use Rattle.timerfd.proofs.Due.{none_of_them}
use Rattle.timerfd.proofs.timers.Timers.expire_next.Goals as goal

pub returns-in_err-index : goal.returns-in_err-index
returns-in_err-index c = rw (c.from_residual.ensures, ← c.self.view_is) (none_of_them c.args.now c.self.inside.dues c.self.inside.timers.items c.self.invariant.1 c.in_err-index.ensures, refl)
