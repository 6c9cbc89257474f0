use Rattle.std.proofs.Common.{sym}
use Rattle.event_loop.specs.Prelude.{contents_of}
use Rattle.event_manager.specs.Manager.{state_of}
use Rattle.event_manager.proofs.tracked.TrackedManager.into_parts.Goals as goal

pub returns-clause-ended : goal.returns-clause-ended
returns-clause-ended g c = record { state = contents_of (state_of c.self.inside.manager); reached = c.self.invariant; has = sym c.into_parts.ensures.subscribers; took = sym c.into_parts.ensures.taken }
