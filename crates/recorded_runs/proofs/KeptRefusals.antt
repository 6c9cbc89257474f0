-- Of a loop without jobs whose subscribers keep their refusals: where none is kept at the end, memory was never lacking.
use Rattle.std.proofs.Common.{Bool, ◌≡◌, ℕ, List, [], ◌∷◌, ◌++◌, refl, sym, ap, subst, ◌∙◌, cond, map, inl, inr, arith, Option, Some, Ok, Err, Result, nat_cmp, is_eq, Equal}
use Rattle.std.specs.List.{AllZip}
use Rattle.std.specs.FinMap.{FinMap, get, insert, get-insert}
use Rattle.std.specs.Cmp.{nat_cmp_total, nat_cmp_is}
use Rattle.std.proofs.lemmas.Bool.Decides.{eqb_tells}
use Rattle.std.proofs.lemmas.List.Elements.{Contains-append_cases}
use Rattle.vmm_sys.specs.declared.errno.Errno.{Errno}
use Rattle.event_loop.specs.Prelude.{Event, Exchanges, Answer, answers_of, Begins, Serves, Registry, Joined, NotJoined, Left, Replaced, Requested, Refused, HasId, AreBelow, Position, Delivery, Nobody, To, with_pending, is_removed, still_pending, IsDelivery, AreDispatched, events_of, exchanges_of, LoopContents, JobRun, IsIteration, no_job}
use Rattle.event_manager.specs.Trace.{Effect, Stepped, Iterated, TraceEntry, Matches, HasEffect, IsTrace}
use Rattle.recorded_runs.specs.Determinism.{HaveMemory, answers_of_positions, answers_of_jobs, answers_of_effect, answers_in}
use Rattle.event_loop.specs.declared.error.Error.TheVariants.{OutOfMemory}
use Rattle.event_manager.specs.declared.calls.Call.{Call}
use Rattle.event_manager.specs.declared.calls.Call.TheVariants as call
use Rattle.event_manager.specs.declared.calls.Reply.{Reply}
use Rattle.event_manager.specs.declared.calls.Reply.TheVariants as reply
use Rattle.event_manager.proofs.HeldIds.{from_insert}
use Rattle.event_manager.proofs.Isolation.{insert_other_value}
use Rattle.event_manager.proofs.Soundness.{trace_follows}

none_lacking : HaveMemory []
none_lacking h = omega (arith, h.1)

both_have : (some more : List Answer) → HaveMemory some → HaveMemory more → HaveMemory (some ++ more)
both_have some more h k within = elim (Contains-append_cases some more (Err OutOfMemory) within) [ inl a ↦ h a | inr b ↦ k b ]

insert_same_value : {V : Type 0} (i : ℕ) (values : FinMap nat_cmp V) (v : V) → get (insert values i v) i ≡ Some v
insert_same_value i values v = get-insert nat_cmp_total values i v i ∙ ap (λ r. cond (is_eq r) (Some v) (get values i)) (sym (nat_cmp_is i i Equal refl))

-- a call that is a join under one of these ids, or a run
abbrev pub IsCalm : {V : Type 0} → (ℕ → Type 0) → Call V → Reply V → Type 0
IsCalm ids (call.Add value) (reply.Added (Ok id)) = ids id
IsCalm ids (call.Run ms) r = Unit {0}
IsCalm ids c r = ⊥

abbrev IsCalmEffect : {V : Type 0} → (ℕ → Type 0) → Effect V ⊥ (Unit {0}) → Type 0
IsCalmEffect ids (Stepped (Joined value id exchanges calls held)) = ids id
IsCalmEffect ids (Stepped step) = ⊥
IsCalmEffect ids (Iterated iteration) = Unit {0}

module _ {V : Type 0} where
  calm_effect : (ids : ℕ → Type 0) (effect : Effect V ⊥ (Unit {0})) (c : Call V) (r : Reply V) → Matches effect c r → IsCalm ids c r → IsCalmEffect ids effect
  calm_effect ids (Stepped (Joined value id exchanges calls held)) c r m calm = rw (m.0, m.1) at calm
  calm_effect ids (Stepped (NotJoined value error)) c r m calm = rw (m.0, m.1) at calm
  calm_effect ids (Stepped (Left id value calls)) c r m calm = rw m.0 at calm
  calm_effect ids (Stepped (Replaced id old new)) c r m calm = rw m.0 at calm
  calm_effect ids (Stepped (Requested id exchanges calls)) c r m calm = rw m.2 at calm
  calm_effect ids (Stepped (Refused id)) (call.Remove other) r m calm = calm
  calm_effect ids (Stepped (Refused id)) (call.Set other value) r m calm = calm
  calm_effect ids (Stepped (Refused id)) (call.Ask other requests) r m calm = calm
  calm_effect ids (Stepped (Refused id)) (call.Add value) r m calm = absurd m
  calm_effect ids (Stepped (Refused id)) (call.Run ms) r m calm = absurd m
  calm_effect ids (Iterated iteration) c r m calm = tt

  pub same_held : (registry : Registry V) (i j : ℕ) (v w : V) → i ≡ j → HasId registry i v → HasId registry j w → v ≡ w
  same_held registry i j v w same has other =
      let s : ◌≡◌ {A = Option V} (Some v) (Some w) = sym has ∙ ap (get registry.values) same ∙ other in cc

  -- of each subscriber that is held
  abbrev pub AllHeld : (ℕ → V → Type 0) → Registry V → Type 0
  AllHeld P registry = (i : ℕ) (v : V) → HasId registry i v → P i v

  same_values : (P : ℕ → V → Type 0) (before after : Registry V) → after.values ≡ before.values → AllHeld P after → AllHeld P before
  same_values P before after same all i v has = all i v (ap (λ values. get values i) same ∙ has)

module _ {V : Type 0} (begins : Begins V) (serves : Serves V) (ids : ℕ → Type 0) where
  -- each id that is held is one of these
  abbrev pub AreWithin : Registry V → Type 0
  AreWithin registry = AllHeld (λ i v. ids i) registry

  delivery_within : (before : Registry V) (removed : Bool) (event : Event) (delivery : Delivery V) (mid : Registry V) → IsDelivery serves before removed event delivery mid → AreWithin before → AreWithin mid
  delivery_within before removed event Nobody mid (nobody, is) within i v has = within i v (ap (λ g. get g.values i) (sym is) ∙ has)
  delivery_within before removed event (To id exchanges calls held) mid (value, registrations, for, serves_so, fits, is) within i v has =
      elim (from_insert i id before.values v held (ap (λ g. get g.values i) (sym is) ∙ has)) [
        | inl same ↦ subst ids (sym same) (within id value for.2)
        | inr other ↦ within i v other
      ]

  dispatch_within : (before : Registry V) (earlier positions : List (Position V)) (after : Registry V) → AreDispatched serves before earlier positions after → AreWithin before → AreWithin after
  dispatch_within before earlier [] after is within = λ i v has. within i v (ap (λ g. get g.values i) (sym is) ∙ has)
  dispatch_within before earlier (position ∷ later) after (mid, delivery, rest) within =
      dispatch_within mid (earlier ++ position ∷ []) later after rest (delivery_within (with_pending (still_pending earlier (events_of later)) before) (is_removed position.event.fd earlier) position.event position.delivery mid delivery within)

  wait_within : (before : LoopContents V) (waited : Result (List Event) Errno) (positions : List (Position V)) (jobs : List (JobRun V ⊥ (Unit {0}))) (after : LoopContents V) → IsIteration begins serves no_job before waited positions jobs after → AreWithin before.registry → AreWithin after.registry
  wait_within before (Err errno) positions jobs after (no_positions, no_jobs, is) within = subst (λ (s : LoopContents V). AreWithin s.registry) (sym is) within
  wait_within before (Ok report) positions (job_run ∷ jobs) after is within = absurd job_run.job
  wait_within before (Ok report) positions [] after (mid, dispatch, idle, is) within =
      subst (λ (s : LoopContents V). AreWithin s.registry) (sym is) (dispatch_within before.registry [] positions mid dispatch.1 within)

  effect_within : (before : LoopContents V) (effect : Effect V ⊥ (Unit {0})) (mid : LoopContents V) → HasEffect begins serves no_job before effect mid → IsCalmEffect ids effect → AreWithin before.registry → AreWithin mid.registry
  effect_within before (Stepped (Joined value id exchanges calls held)) mid (did, same) calm within = λ i v has.
      elim (from_insert i id before.registry.values v held (ap (λ g. get g.values i) (sym did.5) ∙ has)) [
        | inl joined ↦ subst ids (sym joined) calm
        | inr other ↦ within i v other
      ]
  effect_within before (Stepped step) mid did calm within = absurd calm
  effect_within before (Iterated iteration) mid did calm within = wait_within before iteration.waited iteration.positions iteration.jobs mid did within

  -- the calls of this trace are calm
  abbrev pub AreCalm : List (TraceEntry V ⊥ (Unit {0})) → Type 0
  AreCalm trace = AllZip (IsCalm ids) (map (λ e. e.call) trace) (map (λ e. e.reply) trace)

  pub trace_within : (before : LoopContents V) (trace : List (TraceEntry V ⊥ (Unit {0}))) (after : LoopContents V) → IsTrace begins serves no_job before trace after → AreCalm trace → AreWithin before.registry → AreWithin after.registry
  trace_within before [] after is calm within = subst (λ (s : LoopContents V). AreWithin s.registry) (sym is) within
  trace_within before (entry ∷ trace) after (mid, matches, had, more) (calm, calms) within =
      trace_within mid trace after more calms (effect_within before entry.effect mid had (calm_effect ids entry.effect entry.call entry.reply matches calm) within)

  -- who agrees at the end agreed before, and was answered for no want of memory
  module _ (Agrees : V → Type 0)
      (begun : (v : V) (exchanges : Exchanges) (w : V) → begins v exchanges w → Agrees w → HaveMemory (answers_of exchanges))
      (served : (v : V) (event : Event) (exchanges : Exchanges) (w : V) → serves v event exchanges w → Agrees w → Agrees v × HaveMemory (answers_of exchanges)) where
    abbrev pub AllAgree : Registry V → Type 0
    AllAgree registry = AllHeld (λ i v. Agrees v) registry

    delivery_agrees : (before : Registry V) (removed : Bool) (event : Event) (delivery : Delivery V) (mid : Registry V) → IsDelivery serves before removed event delivery mid → AllAgree mid
        → AllAgree before × HaveMemory (answers_of (exchanges_of delivery))
    delivery_agrees before removed event Nobody mid (nobody, is) all = (same_values (λ i v. Agrees v) before mid (ap (λ g. g.values) is) all, none_lacking)
    delivery_agrees before removed event (To id exchanges calls held) mid (value, registrations, for, serves_so, fits, is) all =
        let here = served value event exchanges held serves_so (all id held (ap (λ g. get g.values id) is ∙ insert_same_value id before.values held)) in (
          λ i v has. elim (eqb_tells i id) [
            | inl same ↦ subst Agrees (sym (same_held before i id v value same.1 has for.2)) here.0
            | inr other ↦ all i v (ap (λ g. get g.values i) is ∙ insert_other_value id i before.values held other.1 ∙ has)
          ],
          here.1,
        )

    dispatch_agrees : (before : Registry V) (earlier positions : List (Position V)) (after : Registry V) → AreDispatched serves before earlier positions after → AllAgree after → AllAgree before × HaveMemory (answers_of_positions positions)
    dispatch_agrees before earlier [] after is all = (same_values (λ i v. Agrees v) before after (ap (λ g. g.values) is) all, none_lacking)
    dispatch_agrees before earlier (position ∷ later) after (mid, delivery, rest) all =
        let behind = dispatch_agrees mid (earlier ++ position ∷ []) later after rest all in
        let here = delivery_agrees (with_pending (still_pending earlier (events_of later)) before) (is_removed position.event.fd earlier) position.event position.delivery mid delivery behind.0 in
        (here.0, both_have (answers_of (exchanges_of position.delivery)) (answers_of_positions later) here.1 behind.1)

    wait_agrees : (before : LoopContents V) (waited : Result (List Event) Errno) (positions : List (Position V)) (jobs : List (JobRun V ⊥ (Unit {0}))) (after : LoopContents V) → IsIteration begins serves no_job before waited positions jobs after → AllAgree after.registry
        → AllAgree before.registry × HaveMemory (answers_of_positions positions ++ answers_of_jobs jobs)
    wait_agrees before (Err errno) positions jobs after (no_positions, no_jobs, is) all = (subst (λ (s : LoopContents V). AllAgree s.registry) is all, rw (no_positions, no_jobs) none_lacking)
    wait_agrees before (Ok report) positions (job_run ∷ jobs) after is all = absurd job_run.job
    wait_agrees before (Ok report) positions [] after (mid, dispatch, idle, is) all =
        let behind = dispatch_agrees before.registry [] positions mid dispatch.1 (subst (λ (s : LoopContents V). AllAgree s.registry) is all) in
        (behind.0, both_have (answers_of_positions positions) [] behind.1 none_lacking)

    effect_agrees : (before : LoopContents V) (effect : Effect V ⊥ (Unit {0})) (mid : LoopContents V) → HasEffect begins serves no_job before effect mid → IsCalmEffect ids effect → AreBelow before.registry.next before.registry.values → AllAgree mid.registry
        → AllAgree before.registry × HaveMemory (answers_of_effect effect)
    effect_agrees before (Stepped (Joined value id exchanges calls held)) mid (did, same) calm below all =
        let here = all id held (ap (λ g. get g.values id) did.5 ∙ insert_same_value id before.registry.values held) in (
          λ i v has. let less = below i v has in
              all i v (ap (λ g. get g.values i) did.5 ∙ insert_other_value id i before.registry.values held (λ is. omega (arith, less, is, did.2)) ∙ has),
          begun value exchanges held did.4 here,
        )
    effect_agrees before (Stepped step) mid did calm below all = absurd calm
    effect_agrees before (Iterated iteration) mid did calm below all = wait_agrees before iteration.waited iteration.positions iteration.jobs mid did all

    pub trace_agrees : (before : LoopContents V) (trace : List (TraceEntry V ⊥ (Unit {0}))) (after : LoopContents V) → IsTrace begins serves no_job before trace after → AreCalm trace → AreBelow before.registry.next before.registry.values → AllAgree after.registry
        → AllAgree before.registry × HaveMemory (answers_in trace)
    trace_agrees before [] after is calm below all = (subst (λ (s : LoopContents V). AllAgree s.registry) is all, none_lacking)
    trace_agrees before (entry ∷ trace) after (mid, matches, had, more) (calm, calms) below all =
        let below_mid = (trace_follows begins serves no_job before (entry ∷ []) mid (mid, matches, had, refl)).below below in
        let behind = trace_agrees mid trace after more calms below_mid all in
        let here = effect_agrees before entry.effect mid had (calm_effect ids entry.effect entry.call entry.reply matches calm) below behind.0 in
        (here.0, both_have (answers_of_effect entry.effect) (answers_in trace) here.1 behind.1)
