-- Who wants only what its id claims goes on so, and each id is as if the others were not there.
use Rattle.std.proofs.Common.{◌≡◌, ◌≢◌, ℕ, ℤ, ◌+◌, ◌==◌, Bool, true, false, refl, sym, ◌∙◌, ap, subst, map, Some, None, inl, inr, List, [], ◌∷◌, ◌++◌, true≢false, eqb-true, if◌then◌else◌, Ok, Err, Result, All, IfSome, IfOk, nat_cmp}
use Rattle.std.specs.List.{flat_map}
use Rattle.std.specs.FinMap.{FinMap, get, insert, get-empty}
use Rattle.std.proofs.lemmas.Bool.{or_cases, false_from_ne_true}
use Rattle.std.proofs.lemmas.Bool.Decides.{eqb_tells}
use Rattle.std.proofs.lemmas.Option.{IfSome_then}
use Rattle.std.proofs.lemmas.List.Elements.{All-nil, All-cons, All-head, All-tail, All-append, All-map}
use Rattle.vmm_sys.specs.declared.errno.Errno.{Errno}
use Rattle.dispatch_tables.specs.declared.priority.Priority.TheVariants.{Lowest}
use Rattle.dispatch_tables.proofs.Owning.{from_insert}
use Rattle.event_loop.specs.Prelude.{Event, Answer, Registrations, Owns, priority_asked, event_of, PollerCall, Exchanges, Fits, by_manager, without_memory, by_poller, by_agreement, ExchangesFit, registrations_after, requests_of, Begins, Serves, Controls, Waits, Registry, LoopStep, Joined, NotJoined, Left, Replaced, Requested, Refused, Steps, is_id, new_registry, May, Delivery, Nobody, To, exchanges_of, Position, IsDelivery, AreDispatched, is_removed, still_pending, events_of, with_pending, LoopContents, contents_of, JobRun, IsIteration, AreRun, LoopState, IsJoin, HasStepped, IsLoopIteration}
use Rattle.event_loop.specs.declared.error.Error.{Error}
use Rattle.event_loop.specs.declared.events.Request.{Request}
use Rattle.event_loop.specs.declared.events.Request.TheVariants.{Add, AddWithPriority, Modify, Remove}
use Rattle.event_manager.specs.History.{Turn, Made, Waited, IsTurn, IsHistory}
use Rattle.event_manager.specs.Projection.{receiver_of, is_add, asks_to_add, has_addition, turn_exchanges, exchanges_in, IsApart, IsAsIfAlone}
use Rattle.event_manager.specs.Actions.{IsDoneTo}
use Rattle.event_manager.specs.Wants.{AskWithin, AreDisjoint, NoneWants, WantApart, claimed_by, BeginsWithin, ServesWithin, IsWithin, StepIsWithin, TurnIsWithin, JobsAreWithin, GetsWithin, StaysWithin, AllAsIfAlone}
use Rattle.event_manager.proofs.HeldIds.{from_remove}
use Rattle.event_manager.proofs.Histories.{histories_join, wait_history}
use Rattle.event_manager.proofs.Isolation.{insert_other_value}
use Rattle.event_manager.proofs.Lives.{inserted_at}
use Rattle.event_manager.proofs.ProjectedHistory.{non_interference}
use Rattle.event_manager.proofs.ProjectedSteps.{from_disowned}
use Rattle.dispatch_tables.proofs.Owning as owning

-- what is asked
module _ (may : ℕ → Type 0) where
  one_within : (request : Request) (fd : ℕ) → IfSome (priority_asked request) (λ priority. may (event_of request).fd) → is_add fd request ≡ true → may fd
  one_within (Add e) fd within h = subst may (eqb-true e.fd fd h) within
  one_within (AddWithPriority e priority) fd within h = subst may (eqb-true e.fd fd h) within
  one_within (Modify e) fd within h = absurd (true≢false (sym h))
  one_within (Remove e) fd within h = absurd (true≢false (sym h))

  asked_within : (exchanges : Exchanges) (fd : ℕ) → AskWithin may (requests_of exchanges) → asks_to_add fd exchanges ≡ true → may fd
  asked_within [] fd within h = absurd (true≢false (sym h))
  asked_within (exchange ∷ exchanges) fd within h = elim (or_cases (is_add fd exchange.0) (asks_to_add fd exchanges) h) [
    | inl p ↦ one_within exchange.0 fd within.0 p
    | inr p ↦ asked_within exchanges fd within.1 p
  ]

  added_within : (exchanges : Exchanges) (fd : ℕ) → AskWithin may (requests_of exchanges) → has_addition fd exchanges ≡ true → may fd
  added_within [] fd within h = absurd (true≢false (sym h))
  added_within ((request, Ok entry) ∷ exchanges) fd within h = elim (or_cases (is_add fd request) (has_addition fd exchanges) h) [
    | inl p ↦ one_within request fd within.0 p
    | inr p ↦ added_within exchanges fd within.1 p
  ]
  added_within ((request, Err error) ∷ exchanges) fd within h = added_within exchanges fd within.1 h

  both_within : (a b : Exchanges) → AskWithin may (requests_of a) → AskWithin may (requests_of b) → AskWithin may (requests_of (a ++ b))
  both_within [] b first more = more
  both_within (exchange ∷ a) b first more = (first.0, both_within a b first.1 more)

ask_weaker : (may might : ℕ → Type 0) → ((fd : ℕ) → may fd → might fd) → (requests : List Request) → AskWithin may requests → AskWithin might requests
ask_weaker may might weaker [] within = tt
ask_weaker may might weaker (request ∷ requests) within = (IfSome_then (priority_asked request) within.0 (λ priority. weaker (event_of request).fd), ask_weaker may might weaker requests within.1)

-- what is owned
module _ (claims : ℕ → ℕ → Type 0) where
  abbrev AreClaimed : Registrations → Type 0
  AreClaimed registrations = (i fd : ℕ) → Owns i registrations fd → claims i fd

  agreed_claimed : (i : ℕ) (registrations : Registrations) (request : Request) → IfSome (priority_asked request) (λ priority. claims i (event_of request).fd) → AreClaimed registrations → AreClaimed (registrations_after i request registrations)
  agreed_claimed i registrations (Add e) new were j fd owns = elim (from_insert registrations.owners e.fd (record { id = i; priority = Lowest }) fd j owns) [
    | inl t ↦ subst (claims j) (sym t.0) (subst (λ k. claims k e.fd) t.1 new)
    | inr t ↦ were j fd t
  ]
  agreed_claimed i registrations (AddWithPriority e priority) new were j fd owns = elim (from_insert registrations.owners e.fd (record { id = i; priority = priority }) fd j owns) [
    | inl t ↦ subst (claims j) (sym t.0) (subst (λ k. claims k e.fd) t.1 new)
    | inr t ↦ were j fd t
  ]
  agreed_claimed i registrations (Modify e) new were j fd owns = were j fd owns
  agreed_claimed i registrations (Remove e) new were j fd owns = were j fd (owning.from_remove registrations.owners e.fd fd j owns)

  one_claimed : (i : ℕ) (before : Registrations) (request : Request) (answer : Answer) (calls : List PollerCall) (after : Registrations) → Fits i before request answer calls after → IfSome (priority_asked request) (λ priority. claims i (event_of request).fd) → AreClaimed before → AreClaimed after
  one_claimed i before request answer calls after (by_manager error h a r is) new were = subst AreClaimed (sym is) were
  one_claimed i before request answer calls after (without_memory adds h a r is) new were = subst AreClaimed (sym is) were
  one_claimed i before request answer calls after (by_poller n h a r is) new were = subst AreClaimed (sym is) were
  one_claimed i before request answer calls after (by_agreement h a r is) new were = subst AreClaimed (sym is) (agreed_claimed i before request new were)

  all_claimed : (i : ℕ) (before : Registrations) (exchanges : Exchanges) (calls : List PollerCall) (after : Registrations) → ExchangesFit i before exchanges calls after → AskWithin (claims i) (requests_of exchanges) → AreClaimed before → AreClaimed after
  all_claimed i before [] calls after h within were = subst AreClaimed (sym h.1) were
  all_claimed i before (exchange ∷ exchanges) calls after (first, rest, mid, joined, fits, more) within were = all_claimed i mid exchanges rest after more within.1 (one_claimed i before exchange.0 exchange.1 first mid fits within.0 were)

module _ {V : Type 0} (wants : V → ℕ → Type 0) (claims : ℕ → ℕ → Type 0) where
  -- what is held
  abbrev AreHeld : FinMap nat_cmp V → Type 0
  AreHeld values = (i : ℕ) (v : V) → get values i ≡ Some v → (fd : ℕ) → wants v fd → claims i fd

  put : (values : FinMap nat_cmp V) (i : ℕ) (w : V) → AreHeld values → ((fd : ℕ) → wants w fd → claims i fd) → AreHeld (insert values i w)
  put values i w were new j v has fd want = elim (eqb_tells i j) [
    | inl t ↦ let at : Some w ≡ Some v = sym (inserted_at i j values w t.1) ∙ has in let e : v ≡ w = cc in subst (λ k. claims k fd) t.1 (new fd (subst (λ x. wants x fd) e want))
    | inr t ↦ were j v (sym (insert_other_value i j values w (λ s. t.1 (sym s))) ∙ has) fd want
  ]

  -- the registry after is within, and each id asked only for what it claims
  abbrev Goes : Registry V → (ℕ → Exchanges) → Type 0
  Goes after asked = IsWithin wants claims after × ((j : ℕ) → AskWithin (claims j) (requests_of (asked j)))

  goes_at : (after made : Registry V) (asked : ℕ → Exchanges) → after ≡ made → Goes made asked → Goes after asked
  goes_at after made asked is h = subst (λ r. Goes r asked) (sym is) h

  asked_by : (i : ℕ) (exchanges : Exchanges) → AskWithin (claims i) (requests_of exchanges) → (j : ℕ) → AskWithin (claims j) (requests_of (if i == j then exchanges else []))
  asked_by i exchanges within j = elim (eqb_tells i j) [
    | inl t ↦ rw t.0 (subst (λ k. AskWithin (claims k) (requests_of exchanges)) t.1 within)
    | inr t ↦ rw t.0 tt
  ]

  -- id i goes on from a value, or is given one, with these exchanges
  exchanged : (before : Registry V) (i next : ℕ) (v : V) (exchanges : Exchanges) (w : V) (calls : List PollerCall) (registrations : Registrations) → IsWithin wants claims before → ((fd : ℕ) → wants v fd → claims i fd)
      → ((fd : ℕ) → wants w fd → wants v fd) × AskWithin (wants v) (requests_of exchanges) → ExchangesFit i before.registrations exchanges calls registrations
      → Goes (record { values = insert before.values i w; next = next; registrations = registrations }) (λ j. if i == j then exchanges else [])
  exchanged before i next v exchanges w calls registrations within own goes fits =
      let asks = ask_weaker (wants v) (claims i) own (requests_of exchanges) goes.1 in (
        record {
          owned = all_claimed claims i before.registrations exchanges calls registrations fits asks within.owned;
          held = put before.values i w within.held (λ fd want. own fd (goes.0 fd want));
        },
        asked_by i exchanges asks,
      )

  delivered : (serves : Serves V) → ServesWithin wants serves → (before : Registry V) (removed : Bool) (event : Event) (delivery : Delivery V) (after : Registry V) → IsWithin wants claims before → IsDelivery serves before removed event delivery after
      → Goes after (λ j. if is_id j (receiver_of delivery) then exchanges_of delivery else [])
  delivered serves keeps before removed event Nobody after within h = goes_at after before (λ j. []) h.1 (within, λ j. tt)
  delivered serves keeps before removed event (To i exchanges calls held) after within (value, registrations, is_for, served, fits, is) =
      goes_at after _ _ is (exchanged before i before.next value exchanges held calls registrations within (within.held i value is_for.2) (keeps value event exchanges held served) fits)

  abbrev asked_in : List (Position V) → ℕ → Exchanges
  asked_in positions j = flat_map (λ position. if is_id j (receiver_of position.delivery) then exchanges_of position.delivery else []) positions

  dispatched : (serves : Serves V) → ServesWithin wants serves → (before : Registry V) (earlier positions : List (Position V)) (after : Registry V) → IsWithin wants claims before → AreDispatched serves before earlier positions after → Goes after (asked_in positions)
  dispatched serves keeps before earlier [] after within is = goes_at after _ (λ j. []) is (record { owned = within.owned; held = within.held }, λ j. tt)
  dispatched serves keeps before earlier (position ∷ positions) after within (mid, did, more) =
      let one = delivered serves keeps (with_pending (still_pending earlier (events_of positions)) before) (is_removed position.event.fd earlier) position.event position.delivery mid (record { owned = within.owned; held = within.held }) did in
      let others = dispatched serves keeps mid (earlier ++ position ∷ []) positions after one.0 more in
      (others.0, λ j. both_within (claims j) _ (asked_in positions j) (one.1 j) (others.1 j))

  stepped : (begins : Begins V) → BeginsWithin wants begins → (before : Registry V) (step : LoopStep V) (after : Registry V) → IsWithin wants claims before → StepIsWithin wants claims step → Steps begins before step after → Goes after (λ j. turn_exchanges j (Made step))
  stepped begins keeps before (Joined value id exchanges calls held) after within new (registrations, room, next, fits, begun, is) =
      goes_at after _ _ is (exchanged before id (before.next + 1) value exchanges held calls registrations within new (keeps value exchanges held begun) fits)
  stepped begins keeps before (NotJoined value error) after within new h = goes_at after before (λ j. []) h.1 (within, λ j. tt)
  stepped begins keeps before (Left id value calls) after within new (fds, has, owned, deletes, is) = goes_at after _ (λ j. []) is (
    record {
      owned = λ j fd owns. within.owned j fd (from_disowned id before.registrations.owners fd j owns);
      held = λ j v at. within.held j v (from_remove j id before.values v at);
    },
    λ j. tt,
  )
  stepped begins keeps before (Replaced id old new) after within wanted (has, is) = goes_at after _ (λ j. []) is (
    record {
      owned = within.owned;
      held = put before.values id new within.held (λ fd want. elim (wanted fd want) [ inl t ↦ within.held id old has fd t | inr t ↦ t ]);
    },
    λ j. tt,
  )
  stepped begins keeps before (Requested id exchanges calls) after within new (value, registrations, has, fits, is) = goes_at after _ _ is (
    record {
      owned = all_claimed claims id before.registrations exchanges calls registrations fits new within.owned;
      held = within.held;
    },
    asked_by id exchanges new,
  )
  stepped begins keeps before (Refused id) after within new h = goes_at after before (λ j. []) h.1 (within, λ j. tt)

  module _ (begins : Begins V) (serves : Serves V) where
    turned : BeginsWithin wants begins → ServesWithin wants serves → (before : Registry V) (turn : Turn V) (after : Registry V) → IsWithin wants claims before → TurnIsWithin wants claims turn → IsTurn begins serves before turn after → Goes after (λ j. turn_exchanges j turn)
    turned begun served before (Made step) after within new h = stepped begins begun before step after within new h
    turned begun served before (Waited ms (Ok report) positions) after within new h = dispatched serves served before [] positions after within h.1
    turned begun served before (Waited ms (Err errno) positions) after within new (none, is) = rw none (goes_at after before (λ j. []) is (within, λ j. tt))

    went : BeginsWithin wants begins → ServesWithin wants serves → (before : Registry V) (history : List (Turn V)) (after : Registry V) → IsWithin wants claims before → All (TurnIsWithin wants claims) history → IsHistory begins serves before history after → Goes after (λ j. exchanges_in j history)
    went begun served before [] after within turns is = goes_at after before (λ j. []) is (within, λ j. tt)
    went begun served before (turn ∷ history) after within turns (mid, did, more) =
        let one = turned begun served before turn mid within (All-head (TurnIsWithin wants claims) turn history turns) did in
        let others = went begun served mid history after one.0 (All-tail (TurnIsWithin wants claims) turn history turns) more in
        (others.0, λ j. both_within (claims j) (turn_exchanges j turn) (exchanges_in j history) (one.1 j) (others.1 j))

    module _ {before : Registry V} {history : List (Turn V)} {after : Registry V} (stays : StaysWithin wants claims begins serves before history after) where
      pub kept_within : IsWithin wants claims after
      kept_within = (went stays.begins_within stays.serves_within before history after stays.starts stays.turns stays.is_history).0

      module _ (disjoint : AreDisjoint claims) (i : ℕ) where
        pub kept_apart : IsApart i before history
        kept_apart fd j differ mine =
            let asked = (went stays.begins_within stays.serves_within before history after stays.starts stays.turns stays.is_history).1 in
            let own : claims i fd = elim mine [ inl owns ↦ stays.starts.owned i fd owns | inr t ↦ asked_within (claims i) (exchanges_in i history) fd (asked i) t ] in
            (λ owns. differ (disjoint j i fd (stays.starts.owned j fd owns) own), false_from_ne_true _ (λ t. differ (disjoint j i fd (added_within (claims j) (exchanges_in j history) fd (asked j) t) own)))

        pub as_if_alone : IsAsIfAlone begins serves i before history after
        as_if_alone = non_interference begins serves before history after stays.is_history i kept_apart

-- those who want apart claim apart
module _ {V : Type 0} (wants : V → ℕ → Type 0) where
  nobodys : (joined : List (ℕ × V)) (i fd : ℕ) → NoneWants wants fd (map (λ one. one.1) joined) → claimed_by wants joined i fd → ⊥
  nobodys [] i fd none claim = claim
  nobodys (one ∷ joined) i fd none (inl claim) = none.0 claim.1
  nobodys (one ∷ joined) i fd none (inr claim) = nobodys joined i fd none.1 claim

  pub joined_disjoint : (joined : List (ℕ × V)) → WantApart wants (map (λ one. one.1) joined) → AreDisjoint (claimed_by wants joined)
  joined_disjoint [] apart i j fd one other = absurd one
  joined_disjoint (first ∷ joined) apart i j fd (inl one) (inl other) = one.0 ∙ sym other.0
  joined_disjoint (first ∷ joined) apart i j fd (inl one) (inr other) = absurd (nobodys joined j fd (apart.0 fd one.1) other)
  joined_disjoint (first ∷ joined) apart i j fd (inr one) (inl other) = absurd (nobodys joined i fd (apart.0 fd other.1) one)
  joined_disjoint (first ∷ joined) apart i j fd (inr one) (inr other) = joined_disjoint joined apart.1 i j fd one other

-- for a program: what its calls do, one after another
module _ {V : Type 0} (wants : V → ℕ → Type 0) (claims : ℕ → ℕ → Type 0) where
  abbrev TurnsAreWithin : List (Turn V) → Type 0
  TurnsAreWithin history = All (TurnIsWithin wants claims) history

  pub new_within : {registry : Registry V} (endpoint : ℕ) → registry ≡ new_registry endpoint → IsWithin wants claims registry
  new_within endpoint is = subst (λ r. IsWithin wants claims r) (sym is) (record {
    owned = λ i fd owns. let no : None ≡ Some i = sym (ap owning.owner_id (get-empty nat_cmp fd)) ∙ owns in cc;
    held = λ i v has. let no : None ≡ Some v = sym (get-empty nat_cmp i) ∙ has in cc;
  })

  -- of jobs that do an action to one subscriber
  pub actions_within : {A T J : Type 0} (does : A → V → T → V → Type 0) (id_of : J → ℕ) (action_of : J → A) → ((action : A) (old : V) (reply : T) (new : V) → does action old reply new → (fd : ℕ) → wants new fd → wants old fd)
      → JobsAreWithin wants claims (λ (job : J) steps reply. IsDoneTo does (id_of job) (action_of job) steps reply)
  actions_within does id_of action_of keeps job steps (Ok reply) (old, new, is, did) = rw is (All-cons (StepIsWithin wants claims) (Replaced (id_of job) old new) [] (λ fd want. inl (keeps (action_of job) old reply new did fd want)) (All-nil (StepIsWithin wants claims)))
  actions_within does id_of action_of keeps job steps (Err error) (is, unknown) = rw is (All-cons (StepIsWithin wants claims) (Refused (id_of job)) [] tt (All-nil (StepIsWithin wants claims)))

  module _ (begins : Begins V) (serves : Serves V) where
    pub then_within : {before between after : Registry V} → GetsWithin wants claims begins serves before between → GetsWithin wants claims begins serves between after → GetsWithin wants claims begins serves before after
    then_within {before} {between} {after} first more = record {
      history = first.history ++ more.history;
      is_history = histories_join begins serves before first.history between more.history after first.is_history more.is_history;
      turns = All-append (TurnIsWithin wants claims) first.history more.history first.turns more.turns;
    }

    step_within : (before : Registry V) (step : LoopStep V) (after : Registry V) → Steps begins before step after → StepIsWithin wants claims step → GetsWithin wants claims begins serves before after
    step_within before step after did new = record { history = Made step ∷ []; is_history = (after, did, refl); turns = All-cons (TurnIsWithin wants claims) (Made step) [] new (All-nil (TurnIsWithin wants claims)) }

    jobs_within : {J R : Type 0} (may : May V J R) → JobsAreWithin wants claims may → (before : LoopContents V) (jobs : List (JobRun V J R)) (after : LoopContents V) → AreRun begins serves may before jobs after → TurnsAreWithin (flat_map (λ job_run. map Made job_run.steps) jobs)
    jobs_within may within before [] after is = All-nil (TurnIsWithin wants claims)
    jobs_within may within before (job_run ∷ jobs) after (mid, ticket, chosen, steps, more) =
        All-append (TurnIsWithin wants claims) (map Made job_run.steps) (flat_map (λ job_run. map Made job_run.steps) jobs)
        (All-map (TurnIsWithin wants claims) Made job_run.steps (within job_run.job job_run.steps job_run.reply chosen))
        (jobs_within may within (record { registry = mid; taken = before.taken + 1 }) jobs after more)

    waited_within : {J R : Type 0} (may : May V J R) → JobsAreWithin wants claims may → (before : LoopContents V) (waited : Result (List Event) Errno) (positions : List (Position V)) (jobs : List (JobRun V J R)) (after : LoopContents V) → IsIteration begins serves may before waited positions jobs after
        → TurnsAreWithin (flat_map (λ job_run. map Made job_run.steps) jobs)
    waited_within may within before (Ok report) positions jobs after (mid, dispatch, none, ran) = jobs_within may within (record before { registry = mid }) jobs after ran
    waited_within may within before (Err errno) positions jobs after (no_positions, none, is) = rw none (All-nil (TurnIsWithin wants claims))

    -- of a join, by its contract: who joined wants only what its id claims
    pub joined_within : {P : Type 0} {controls : Controls P} {waits : Waits P} {before after : LoopState V P} (value : V) (result : Result ℕ Error) → IfOk result (λ id. (fd : ℕ) → wants value fd → claims id fd)
        → (step : LoopStep V) × IsJoin value result step × HasStepped begins controls waits before step after → GetsWithin wants claims begins serves before.registry after.registry
    joined_within {before = before} {after} value (Ok id) new (step, (exchanges, calls, held, is), did) = step_within before.registry step after.registry did.stepped (subst (StepIsWithin wants claims) (sym is) new)
    joined_within {before = before} {after} value (Err error) new (step, is, did) = step_within before.registry step after.registry did.stepped (subst (StepIsWithin wants claims) (sym is) tt)

    -- of a run, by its contract
    pub ran_within : {P J R : Type 0} {controls : Controls P} {waits : Waits P} {may : May V J R} {before after : LoopState V P} {ms : ℤ} {result : Result ℕ Error} → JobsAreWithin wants claims may
        → IsLoopIteration begins serves may controls waits before ms result after → GetsWithin wants claims begins serves before.registry after.registry
    ran_within {may = may} {before} {after} within did =
        let it = did.iteration in
        record {
          history = Waited it.ms it.waited it.positions ∷ flat_map (λ job_run. map Made job_run.steps) it.jobs;
          is_history = wait_history begins serves may (contents_of before) it.ms it.waited it.positions it.jobs (contents_of after) did.iterated;
          turns = All-cons (TurnIsWithin wants claims) (Waited it.ms it.waited it.positions) (flat_map (λ job_run. map Made job_run.steps) it.jobs) tt
              (waited_within may within (contents_of before) it.waited it.positions it.jobs (contents_of after) did.iterated);
        }

    -- from a registry that is within what is claimed, each id is as if the others were not there
    pub all_as_if_alone : {before after : Registry V} → BeginsWithin wants begins → ServesWithin wants serves → AreDisjoint claims → IsWithin wants claims before → GetsWithin wants claims begins serves before after → AllAsIfAlone begins serves before after
    all_as_if_alone begun served disjoint starts gets =
        (gets.history, gets.is_history, λ i. as_if_alone wants claims begins serves (record { is_history = gets.is_history; begins_within = begun; serves_within = served; starts = starts; turns = gets.turns }) disjoint i)
