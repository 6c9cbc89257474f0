use Rattle.std.proofs.Common.{arith, nat_cmp}
use Rattle.std.specs.FinMap.{len-empty}
use Rattle.dispatch_tables.specs.Ownership.{Ownership}
use Rattle.event_loop.proofs.registration_state.RegistrationState.new.Goals as goal

pub invariant_of-result : goal.invariant_of-result
invariant_of-result c = rw c.new-2.ensures (omega (arith, len-empty nat_cmp Ownership))
