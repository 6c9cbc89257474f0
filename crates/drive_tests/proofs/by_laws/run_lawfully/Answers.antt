use Rattle.std.proofs.Common.{refl, nat_cmp}
use Rattle.std.specs.FinMap.{get-empty}
use Rattle.event_manager.specs.History.{history_of}
use Rattle.event_manager.specs.Life.{life_of}
use Rattle.event_manager.proofs.Lives.{whole_life}
use Rattle.drive_tests.proofs.by_laws.run_lawfully.Goals as goal

pub returns-clause-sound : goal.returns-clause-sound
returns-clause-sound g c = let it = c.reveal_history.ensures in c.owners_are_subscribers.ensures.kept _ it.trace _ it.is_trace (c.owners_are_subscribers.ensures.new it.endpoint)

pub returns-clause-given : goal.returns-clause-given
returns-clause-given g c = let it = c.reveal_history.ensures in c.ids_are_given_once.ensures.below _ it.trace _ it.is_trace (c.ids_are_given_once.ensures.new it.endpoint)

pub returns-clause-lives : goal.returns-clause-lives
returns-clause-lives g c =
    let it = c.reveal_history.ensures in
    λ id. (life_of id (history_of it.trace), whole_life _ _ _ _ _ _ (get-empty nat_cmp id) refl (c.lives_are_its_own.ensures id _ _ _ (c.non_interference.ensures.traces _ it.trace _ it.is_trace)))
