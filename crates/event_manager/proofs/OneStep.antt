-- Steps of a registry: one as a list, and those of a list with those after them.
use Rattle.std.proofs.Common.{◌≡◌, ℕ, List, [], ◌∷◌, ◌++◌, sym, subst, refl, ◌∙◌}
use Rattle.std.proofs.lemmas.List.{append-nil}
use Rattle.std.proofs.lemmas.List.Concat.{flat_map-append}
use Rattle.event_loop.specs.Prelude.{Begins, Controls, Waits, Leads, Registry, LoopStep, AllSteps, Replaced, Refused, HasId, LacksId, calls_of, LoopState, HasStepped, HaveStepped, with_value}
use Rattle.event_loop.proofs.ExchangeLemmas.{leads_join}

-- the steps of a list, and those after them
all_steps_join : {S : Type 0} (begins : Begins S) (before mid after : Registry S) (first rest : List (LoopStep S)) → AllSteps begins before first mid → AllSteps begins mid rest after → AllSteps begins before (first ++ rest) after
all_steps_join begins before mid after [] rest is made = subst (λ r. AllSteps begins r rest after) is made
all_steps_join begins before mid after (step ∷ first) rest did made = (did.0, did.1, all_steps_join begins did.0 mid after first rest did.2 made)

module _ {S P : Type 0} {begins : Begins S} {controls : Controls P} {waits : Waits P} where
  pub one_step : (before after : LoopState S P) (step : LoopStep S) → HasStepped begins controls waits before step after → HaveStepped begins controls waits before (step ∷ []) after
  one_step before after step did = record {
    stepped = (after.registry, did.stepped, refl);
    led = subst (λ calls. Leads controls waits before.poller calls after.poller) (sym (append-nil (calls_of step))) did.led;
    same_taken = did.same_taken;
    same_capacity = did.same_capacity;
  }

  pub replaced_step : (before after : LoopState S P) (id : ℕ) (old new : S) → HasId before.registry id old → after ≡ with_value before id new → HaveStepped begins controls waits before (Replaced id old new ∷ []) after
  replaced_step before after id old new has is = subst (λ s. HaveStepped begins controls waits before (Replaced id old new ∷ []) s) (sym is)
      (one_step before (with_value before id new) (Replaced id old new) (record { stepped = (has, refl); led = refl; same_taken = refl; same_capacity = refl }))

  pub refused_step : (before after : LoopState S P) (id : ℕ) → LacksId before.registry id → after ≡ before → HaveStepped begins controls waits before (Refused id ∷ []) after
  refused_step before after id lacks is = subst (λ s. HaveStepped begins controls waits before (Refused id ∷ []) s) (sym is)
      (one_step before before (Refused id) (record { stepped = (lacks, refl); led = refl; same_taken = refl; same_capacity = refl }))

  pub steps_join : (before mid after : LoopState S P) (first rest : List (LoopStep S)) → HaveStepped begins controls waits before first mid → HaveStepped begins controls waits mid rest after → HaveStepped begins controls waits before (first ++ rest) after
  steps_join before mid after first rest did made = record {
    stepped = all_steps_join begins before.registry mid.registry after.registry first rest did.stepped made.stepped;
    led = subst (λ calls. Leads controls waits before.poller calls after.poller) (sym (flat_map-append calls_of first rest)) (leads_join controls waits before.poller mid.poller after.poller _ _ did.led made.led);
    same_taken = made.same_taken ∙ did.same_taken;
    same_capacity = made.same_capacity ∙ did.same_capacity;
  }
