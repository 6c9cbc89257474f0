use Rattle.std.proofs.Common.{arith}
use Rattle.event_loop.proofs.registration_state.RegistrationState.register.Goals as goal

pub invariant_of-self-2 : goal.invariant_of-self-2
invariant_of-self-2 c = omega (arith, c.in_ok-make_room.ensures.made, c.owned.ensures, c.register.ensures.more)
