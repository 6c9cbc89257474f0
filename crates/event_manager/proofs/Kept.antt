-- What each service of a subscriber keeps, a run of a loop keeps: for contracts of one's own, whose relation between values is a
-- parameter here. It is reflexive and transitive, and each service has it.
use Rattle.std.proofs.Common.{◌≡◌, ◌<◌, ℕ, ◌+◌, ℤ, Bool, sym, ◌∙◌, ap, subst, arith, inl, inr, Some, None, Option, map, List, [], ◌∷◌, ◌++◌, append_assoc, Ok, Err, Result, lt_irrefl, All, IfOk, true, false}
use Rattle.std.specs.Prelude.{MatchBool, MatchOption}
use Rattle.std.specs.FinMap.{FinMap, get, insert, get-empty}
use Rattle.std.specs.Ordering.{nat_cmp}
use Rattle.std.specs.List.{flat_map}
use Rattle.std.proofs.lemmas.Bool.Decides.{eqb_tells}
use Rattle.std.proofs.lemmas.List.Elements.{All-nil, All-cons, All-head, All-tail}
use Rattle.std.proofs.lemmas.Result.{IfOk-weaker}
use Rattle.vmm_sys.specs.declared.errno.Errno.{Errno}
use Rattle.event_loop.specs.declared.error.Error.{Error}
use Rattle.event_loop.specs.Prelude.{Event, Exchanges, Begins, Serves, Controls, Waits, Registry, LoopStep, Joined, NotJoined, Left, Replaced, Requested, Refused, HasId, AreBelow, new_registry, Steps, May, Delivery, Nobody, To, Position, with_pending, still_pending, events_of, is_removed, IsDelivery, AreDispatched, LoopContents, contents_of, JobRun, IsIteration, AreRun, AllSteps, LoopState, no_job, IsLoopIteration}
use Rattle.event_manager.specs.History.{Turn, Made, Waited, IsHistory}
use Rattle.event_manager.specs.Guarantees.{AreGiven}
use Rattle.event_manager.specs.Life.{LifeStep, Begun, Served, Changed, Ended, Lives, life_of_delivery, life_of}
use Rattle.event_manager.specs.Actions.{IsDoneTo}
use Rattle.event_manager.specs.Kept.{AllGoOn, HeldGoOn, StepGoesOn, JobsGoOn, AllHeld, keeps}
use Rattle.event_manager.specs.Reached.{IsLikeJobs, HasEnded}
use Rattle.event_manager.specs.Trace.{Effect, Stepped, Iterated, TraceEntry, HasEffect, IsTrace, new_state}
use Rattle.event_manager.proofs.Isolation.{insert_other_value}
use Rattle.event_manager.proofs.HeldIds.{from_remove}
use Rattle.event_manager.proofs.Histories.{wait_history}
use Rattle.event_manager.proofs.Soundness.{history_follows}
use Rattle.event_manager.proofs.Lives.{inserted_at, history_lives}

module _ {V : Type 0} (goes : V → V → Type 0) where
  -- of jobs that do an action to one subscriber
  pub actions_go_on : {A T J : Type 0} (does : A → V → T → V → Type 0) (id_of : J → ℕ) (action_of : J → A) → ((action : A) (old : V) (reply : T) (new : V) → does action old reply new → goes old new)
      → JobsGoOn goes (λ (job : J) steps reply. IsDoneTo does (id_of job) (action_of job) steps reply)
  actions_go_on does id_of action_of keeps job steps (Ok reply) (old, new, is, did) = rw is (All-cons (StepGoesOn goes) (Replaced (id_of job) old new) [] (keeps (action_of job) old reply new did) (All-nil (StepGoesOn goes)))
  actions_go_on does id_of action_of keeps job steps (Err error) (is, unknown) = rw is (All-cons (StepGoesOn goes) (Refused (id_of job)) [] tt (All-nil (StepGoesOn goes)))

  -- nobody joins in the life, and each value that takes another's place goes on from it
  abbrev IsStead : List (LifeStep V) → Type 0
  IsStead [] = Unit {0}
  IsStead (Begun value exchanges held ∷ life) = ⊥
  IsStead (Served event exchanges held ∷ life) = IsStead life
  IsStead (Changed old new ∷ life) = goes old new × IsStead life
  IsStead (Ended value ∷ life) = IsStead life

  module _ (i : ℕ) where
    delivery_stead : (event : Event) (delivery : Delivery V) (more : List (LifeStep V)) → IsStead more → IsStead (life_of_delivery i event delivery ++ more)
    delivery_stead event Nobody more h = h
    delivery_stead event (To id exchanges calls held) more h = elim (eqb_tells id i) [ inl t ↦ rw t.0 h | inr t ↦ rw t.0 h ]

    positions_stead : (positions : List (Position V)) (more : List (LifeStep V)) → IsStead more → IsStead (flat_map (λ position. life_of_delivery i position.event position.delivery) positions ++ more)
    positions_stead [] more h = h
    positions_stead (position ∷ positions) more h =
        let rest = flat_map (λ (position : Position V). life_of_delivery i position.event position.delivery) positions in
        subst IsStead (sym (append_assoc (life_of_delivery i position.event position.delivery) rest more))
        (delivery_stead position.event position.delivery (rest ++ more) (positions_stead positions more h))

    -- of steps that give ids from the first on, which is above i
    steps_stead : (first : ℕ) (steps : List (LoopStep V)) (more : List (Turn V)) (last : ℕ) → i < first → All (StepGoesOn goes) steps → AreGiven first (map Made steps ++ more) last
        → ((next : ℕ) → i < next → AreGiven next more last → IsStead (life_of i more)) → IsStead (life_of i (map Made steps ++ more))
    steps_stead first [] more last below go given rest = rest first below given
    steps_stead first (Joined value id exchanges calls held ∷ steps) more last below go (is, given) rest = elim (eqb_tells id i) [
      | inl t ↦ absurd (lt_irrefl i (subst (λ k. i < k) (sym is ∙ t.1) below))
      | inr t ↦ rw t.0 (steps_stead (first + 1) steps more last (omega (arith, below)) (All-tail (StepGoesOn goes) (Joined value id exchanges calls held) steps go) given rest)
    ]
    steps_stead first (NotJoined value error ∷ steps) more last below go given rest = steps_stead first steps more last below (All-tail (StepGoesOn goes) (NotJoined value error) steps go) given rest
    steps_stead first (Left id value calls ∷ steps) more last below go given rest =
        let k = steps_stead first steps more last below (All-tail (StepGoesOn goes) (Left id value calls) steps go) given rest in
        elim (eqb_tells id i) [ inl t ↦ rw t.0 k | inr t ↦ rw t.0 k ]
    steps_stead first (Replaced id old new ∷ steps) more last below go given rest =
        let k = steps_stead first steps more last below (All-tail (StepGoesOn goes) (Replaced id old new) steps go) given rest in
        elim (eqb_tells id i) [ inl t ↦ rw t.0 (All-head (StepGoesOn goes) (Replaced id old new) steps go, k) | inr t ↦ rw t.0 k ]
    steps_stead first (Requested id exchanges calls ∷ steps) more last below go given rest = steps_stead first steps more last below (All-tail (StepGoesOn goes) (Requested id exchanges calls) steps go) given rest
    steps_stead first (Refused id ∷ steps) more last below go given rest = steps_stead first steps more last below (All-tail (StepGoesOn goes) (Refused id) steps go) given rest

    jobs_stead : {J R : Type 0} (begins : Begins V) (serves : Serves V) (may : May V J R) → JobsGoOn goes may → (before : LoopContents V) (jobs : List (JobRun V J R)) (after : LoopContents V) → AreRun begins serves may before jobs after
        → (first last : ℕ) → i < first → AreGiven first (flat_map (λ job_run. map Made job_run.steps) jobs) last → IsStead (life_of i (flat_map (λ job_run. map Made job_run.steps) jobs))
    jobs_stead begins serves may go before [] after is first last below given = tt
    jobs_stead begins serves may go before (job_run ∷ jobs) after (mid, ticket, chosen, steps, more) first last below given =
        steps_stead first job_run.steps (flat_map (λ job_run. map Made job_run.steps) jobs) last below (go job_run.job job_run.steps job_run.reply chosen) given
        (λ next under given. jobs_stead begins serves may go (record { registry = mid; taken = before.taken + 1 }) jobs after more next last under given)

module _ {V : Type 0} (begins : Begins V) (serves : Serves V) (goes : V → V → Type 0) (same : (v : V) → goes v v) (both : (u v w : V) → goes u v → goes v w → goes u w)
    (served : (v : V) (event : Event) (exchanges : Exchanges) (w : V) → serves v event exchanges w → goes v w) where
  none_comes : (life : List (LifeStep V)) (last : Option V) → IsStead goes life → Lives begins serves None life last → last ≡ None
  none_comes [] last stead is = is
  none_comes (Begun value exchanges held ∷ life) last stead lives = absurd stead
  none_comes (Served event exchanges held ∷ life) last stead (value, is, serving, more) = let no : ⊥ = cc in absurd no
  none_comes (Changed old new ∷ life) last stead (is, more) = let no : ⊥ = cc in absurd no
  none_comes (Ended value ∷ life) last stead (is, more) = let no : ⊥ = cc in absurd no

  life_goes_on : (v : V) (life : List (LifeStep V)) (w : V) → IsStead goes life → Lives begins serves (Some v) life (Some w) → goes v w
  life_goes_on v [] w stead is = let e : w ≡ v = cc in subst (λ x. goes v x) (sym e) (same v)
  life_goes_on v (Begun value exchanges held ∷ life) w stead lives = absurd stead
  life_goes_on v (Served event exchanges held ∷ life) w stead (value, is, serving, more) =
      let e : value ≡ v = cc in
      both v held w (subst (λ x. goes x held) e (served value event exchanges held serving)) (life_goes_on held life w stead more)
  life_goes_on v (Changed old new ∷ life) w (change, stead) (is, more) =
      let e : old ≡ v = cc in
      both v new w (subst (λ x. goes x new) e change) (life_goes_on new life w stead more)
  life_goes_on v (Ended value ∷ life) w stead (is, more) = let gone : Some w ≡ None = none_comes life (Some w) stead more in let no : ⊥ = cc in absurd no

  -- of a run of a manager, whose jobs go on too: who is held before and after has gone on
  pub manager_goes_on : {J R P : Type 0} (may : May V J R) → JobsGoOn goes may → (controls : Controls P) (waits : Waits P) (before : LoopState V P) (ms : ℤ) (result : Result ℕ Error) (after : LoopState V P)
      → AreBelow before.registry.next before.registry.values → IsLoopIteration begins serves may controls waits before ms result after → HeldGoOn goes before.registry after.registry
  manager_goes_on {J} {R} may go controls waits before ms result after below did id v w has had =
      let it = did.iteration in
      let history : List (Turn V) = Waited it.ms it.waited it.positions ∷ flat_map (λ job_run. map Made job_run.steps) it.jobs in
      let is : IsHistory begins serves before.registry history after.registry = wait_history begins serves may (contents_of before) it.ms it.waited it.positions it.jobs (contents_of after) did.iterated in
      let given : AreGiven before.registry.next history after.registry.next = (history_follows begins serves before.registry history after.registry is).given in
      let stead = jobs_by it.waited did.iterated given in
      let lives = history_lives begins serves id before.registry history after.registry is in
      life_goes_on v (life_of id history) w (positions_stead goes id it.positions (life_of id (flat_map (λ job_run. map Made job_run.steps) it.jobs)) stead)
      (subst (λ held. Lives begins serves (Some v) (life_of id history) held) had (subst (λ held. Lives begins serves held (life_of id history) (get after.registry.values id)) has lives))
    where
      jobs_by : (waited : Result (List Event) Errno) → IsIteration begins serves may (contents_of before) waited did.iteration.positions did.iteration.jobs (contents_of after)
          → AreGiven before.registry.next (flat_map (λ job_run. map Made job_run.steps) did.iteration.jobs) after.registry.next → IsStead goes (life_of id (flat_map (λ job_run. map Made job_run.steps) did.iteration.jobs))
      jobs_by (Ok report) (mid, dispatch, none, ran) given = jobs_stead goes id begins serves may go (record (contents_of before) { registry = mid }) did.iteration.jobs (contents_of after) ran before.registry.next after.registry.next (below id v has) given
      jobs_by (Err errno) (no_positions, no_jobs, is) given = rw no_jobs tt

  one_goes_on : (before : Registry V) (removed : Bool) (event : Event) (delivery : Delivery V) (after : Registry V) → IsDelivery serves before removed event delivery after → AllGoOn goes before after
  one_goes_on before removed event Nobody after is id v has = (v, subst (λ r. HasId r id v) (sym is.1) has, same v)
  one_goes_on before removed event (To i exchanges calls held) after (value, registrations, owner, serving, fits, is) id v has = elim (eqb_tells id i) [
    | inl t ↦
        let at : get before.values i ≡ Some v = ap (get before.values) (sym t.1) ∙ has in
        let s : Some value ≡ Some v = sym owner.2 ∙ at in
        let is_it : value ≡ v = cc in
        (held, subst (λ r. HasId r id held) (sym is) (inserted_at i id before.values held (sym t.1)), subst (λ u. goes u held) is_it (served value event exchanges held serving))
    | inr t ↦ (v, subst (λ r. HasId r id v) (sym is) (insert_other_value i id before.values held t.1 ∙ has), same v)
  ]

  all_go_on : (before : Registry V) (earlier positions : List (Position V)) (after : Registry V) → AreDispatched serves before earlier positions after → AllGoOn goes before after
  all_go_on before earlier [] after is id v has = (v, subst (λ r. HasId r id v) (sym is) has, same v)
  all_go_on before earlier (position ∷ positions) after (mid, delivered, more) id v has =
      let first = one_goes_on (with_pending (still_pending earlier (events_of positions)) before) (is_removed position.event.fd earlier) position.event position.delivery mid delivered id v has in
      let others = all_go_on mid (earlier ++ position ∷ []) positions after more id first.0 first.1 in
      (others.0, others.1, both v first.0 others.0 first.2 others.2)

  iteration_goes_on : (before : LoopContents V) (waited : Result (List Event) Errno) (positions : List (Position V)) (jobs : List (JobRun V ⊥ (Unit {0}))) (after : LoopContents V) → IsIteration begins serves no_job before waited positions jobs after → AllGoOn goes before.registry after.registry
  iteration_goes_on before (Err errno) positions jobs after is id v has = (v, subst (λ m. HasId m.registry id v) (sym is.2) has, same v)
  iteration_goes_on before (Ok report) positions (job_run ∷ jobs) after is id v has = absurd job_run.job
  iteration_goes_on before (Ok report) positions [] after is id v has =
      let d = all_go_on before.registry [] positions is.0 is.1.1 id v has in
      (d.0, subst (λ m. HasId m.registry id d.0) (sym is.3) d.1, d.2)

  -- of a run of a loop without jobs: who is held stays, and has gone on
  pub loop_goes_on : {P : Type 0} (controls : Controls P) (waits : Waits P) (before : LoopState V P) (ms : ℤ) (result : Result ℕ Error) (after : LoopState V P) → IsLoopIteration begins serves no_job controls waits before ms result after → AllGoOn goes before.registry after.registry
  loop_goes_on controls waits before ms result after did = iteration_goes_on _ did.iteration.waited did.iteration.positions did.iteration.jobs _ did.iterated

-- a property of values that each init gives, and each service keeps
module _ {V : Type 0} (begins : Begins V) (serves : Serves V) (good : V → Type 0) (begun : (v : V) (exchanges : Exchanges) (w : V) → begins v exchanges w → good w)
    (served : (v : V) (event : Event) (exchanges : Exchanges) (w : V) → serves v event exchanges w → good v → good w) where
  abbrev all_good : Registry V → Type 0
  all_good registry = AllHeld good registry.values

  insert_good : (values : FinMap nat_cmp V) (id : ℕ) (v : V) → AllHeld good values → good v → AllHeld good (insert values id v)
  insert_good values id v all is i u at = elim (eqb_tells id i) [
    | inl t ↦ let s : Some v ≡ Some u = sym (inserted_at id i values v t.1) ∙ at in let e : v ≡ u = cc in subst good e is
    | inr t ↦ all i u (sym (insert_other_value id i values v (λ s. t.1 (sym s))) ∙ at)
  ]

  step_good : (before : Registry V) (step : LoopStep V) (after : Registry V) → StepGoesOn (keeps good) step → Steps begins before step after → all_good before → all_good after
  step_good before (Joined value id exchanges calls held) after go (registrations, room, next, fits, begin, e) all = subst all_good (sym e) (insert_good before.values id held all (begun value exchanges held begin))
  step_good before (NotJoined value error) after go (why, e) all = subst all_good (sym e) all
  step_good before (Left id value calls) after go (fds, has, owned, deletes, e) all = subst all_good (sym e) (λ i u at. all i u (from_remove i id before.values u at))
  step_good before (Replaced id old new) after go (has, e) all = subst all_good (sym e) (insert_good before.values id new all (go (all id old has)))
  step_good before (Requested id exchanges calls) after go (value, registrations, has, fits, e) all = subst all_good (sym e) all
  step_good before (Refused id) after go (lacks, e) all = subst all_good (sym e) all

  steps_good : (before : Registry V) (steps : List (LoopStep V)) (after : Registry V) → All (StepGoesOn (keeps good)) steps → AllSteps begins before steps after → all_good before → all_good after
  steps_good before [] after go e all = subst all_good (sym e) all
  steps_good before (step ∷ steps) after go (mid, did, rest) all =
      steps_good mid steps after (All-tail (StepGoesOn (keeps good)) step steps go) rest (step_good before step mid (All-head (StepGoesOn (keeps good)) step steps go) did all)

  delivery_good : (before : Registry V) (removed : Bool) (event : Event) (delivery : Delivery V) (after : Registry V) → IsDelivery serves before removed event delivery after → all_good before → all_good after
  delivery_good before removed event Nobody after (none, e) all = subst all_good (sym e) all
  delivery_good before removed event (To id exchanges calls held) after (value, registrations, (owns, stays, has), serving, fits, e) all =
      subst all_good (sym e) (insert_good before.values id held all (served value event exchanges held serving (all id value has)))

  positions_good : (before : Registry V) (earlier positions : List (Position V)) (after : Registry V) → AreDispatched serves before earlier positions after → all_good before → all_good after
  positions_good before earlier [] after e all = subst all_good (sym e) all
  positions_good before earlier (position ∷ positions) after (mid, delivered, more) all = positions_good mid (earlier ++ position ∷ []) positions after more
      (delivery_good (with_pending (still_pending earlier (events_of positions)) before) (is_removed position.event.fd earlier) position.event position.delivery mid delivered all)

  module _ {J R : Type 0} (may : May V J R) (go : JobsGoOn (keeps good) may) where
    jobs_good : (before : LoopContents V) (jobs : List (JobRun V J R)) (after : LoopContents V) → AreRun begins serves may before jobs after → all_good before.registry → all_good after.registry
    jobs_good before [] after e all = subst (λ (s : LoopContents V). all_good s.registry) (sym e) all
    jobs_good before (job_run ∷ jobs) after (mid, ticket, chosen, steps, more) all = jobs_good (record { registry = mid; taken = before.taken + 1 }) jobs after more
        (steps_good before.registry job_run.steps mid (go job_run.job job_run.steps job_run.reply chosen) steps all)

    iteration_good : (before : LoopContents V) (waited : Result (List Event) Errno) (positions : List (Position V)) (jobs : List (JobRun V J R)) (after : LoopContents V) → IsIteration begins serves may before waited positions jobs after → all_good before.registry → all_good after.registry
    iteration_good before (Ok report) positions jobs after (mid, dispatch, none, ran) all = jobs_good (record before { registry = mid }) jobs after ran (positions_good before.registry [] positions mid dispatch.1 all)
    iteration_good before (Err errno) positions jobs after (no_positions, no_jobs, e) all = subst (λ (s : LoopContents V). all_good s.registry) (sym e) all

    like_jobs_go_on : (step : LoopStep V) → IsLikeJobs may (Stepped step) → StepGoesOn (keeps good) step
    like_jobs_go_on (Joined value id exchanges calls held) like = tt
    like_jobs_go_on (NotJoined value error) like = tt
    like_jobs_go_on (Left id value calls) like = tt
    like_jobs_go_on (Replaced id old new) (job, reply, chosen) = All-head (StepGoesOn (keeps good)) (Replaced id old new) [] (go job (Replaced id old new ∷ []) reply chosen)
    like_jobs_go_on (Requested id exchanges calls) like = tt
    like_jobs_go_on (Refused id) like = tt

    effect_good : (before : LoopContents V) (effect : Effect V J R) (after : LoopContents V) → HasEffect begins serves may before effect after → IsLikeJobs may effect → all_good before.registry → all_good after.registry
    effect_good before (Stepped step) after (did, same) like all = step_good before.registry step after.registry (like_jobs_go_on step like) did all
    effect_good before (Iterated iteration) after did like all = iteration_good before iteration.waited iteration.positions iteration.jobs after did all

    trace_good : (before : LoopContents V) (trace : List (TraceEntry V J R)) (after : LoopContents V) → IsTrace begins serves may before trace after → All (λ entry. IsLikeJobs may entry.effect) trace → all_good before.registry → all_good after.registry
    trace_good before [] after e like all = subst (λ (s : LoopContents V). all_good s.registry) (sym e) all
    trace_good before (entry ∷ trace) after (mid, matches, did, more) like all = trace_good mid trace after more (All-tail (λ (e : TraceEntry V J R). IsLikeJobs may e.effect) entry trace like)
        (effect_good before entry.effect mid did (All-head (λ (e : TraceEntry V J R). IsLikeJobs may e.effect) entry trace like) all)

    -- of the subscribers that are handed out in the end
    pub ended_good : (subscribers : FinMap nat_cmp V) (taken : ℕ) → HasEnded begins serves may subscribers taken → AllHeld good subscribers
    ended_good subscribers taken ended =
        let at_first : all_good (new_registry ended.reached.endpoint) = λ i u at. let none : None ≡ Some u = sym (get-empty nat_cmp i) ∙ at in let no : ⊥ = cc in absurd no in
        subst (AllHeld good) ended.has (trace_good (new_state ended.reached.endpoint) ended.reached.trace ended.state ended.reached.is_trace ended.reached.like_jobs at_first)

    -- of what a run on threads answers
    pub run_good : {X E : Type 0} (result : Result X E) (subscribers : X → FinMap nat_cmp V) (taken : X → ℕ) → IfOk result (λ ended. HasEnded begins serves may (subscribers ended) (taken ended)) → IfOk result (λ ended. AllHeld good (subscribers ended))
    run_good result subscribers taken = IfOk-weaker result _ _ (λ ended has. ended_good (subscribers ended) (taken ended) has)

-- of a service whose relation goes by cases: what holds in each of them holds
pub by_either : (test : Bool) (First Second Goal : Type 0) → MatchBool test First Second → (First → Goal) → (Second → Goal) → Goal
by_either true First Second Goal fact first second = first fact
by_either false First Second Goal fact first second = second fact

pub by_option : {A : Type 0} (option : Option A) (Nothing Goal : Type 0) (Something : A → Type 0)
    → MatchOption option Nothing Something → (Nothing → Goal) → ((value : A) → Something value → Goal) → Goal
by_option None Nothing Goal Something fact nothing something = nothing fact
by_option (Some value) Nothing Goal Something fact nothing something = something value fact
