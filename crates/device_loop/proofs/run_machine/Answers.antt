use Rattle.std.proofs.Common.{◌∙◌, nat_cmp, ap}
use Rattle.std.specs.FinMap.{get, get-empty}
use Rattle.event_manager.specs.History.{history_of}
use Rattle.event_manager.specs.Life.{life_of}
use Rattle.event_manager.proofs.Lives.{whole_life}
use Rattle.device_loop.proofs.run_machine.Goals as goal

pub returns-clause-lived : goal.returns-clause-lived
returns-clause-lived g c =
    let it = c.in_ok-ended.ensures in
    let id = c.in_ok-block.ensures.0 in
    let history = c.non_interference.ensures.traces _ it.reached.trace _ it.reached.is_trace in
    let block = c.in_ok-new.ensures.block in
    record {
      block = c.in_ok-block.block;
      life = life_of id (history_of it.reached.trace);
      lives = whole_life _ _ _ _ _ _ (get-empty nat_cmp id) (ap (λ values. get values id) it.has ∙ c.in_ok-block.ensures.1) (c.lives_are_its_own.ensures id _ _ _ history);
      served = block.0;
      refills = block.1;
      paused_at = block.2;
    }
