-- Two steps that were asked for the same thing, from the same registry and with poller calls of the same answers, are the same.
use Rattle.std.proofs.Common.{◌≡◌, ◌≢◌, ℕ, ◌+◌, ◌≤◌, ◌<◌, lt_irrefl, ◌⊎◌, inl, inr, refl, sym, ap, subst, ◌∙◌, Some, None, Option, Err}
use Rattle.std.proofs.Common.{List, [], ◌∷◌, ◌++◌, length, map, arith, AllPairs, Contains, Result}
use Rattle.std.specs.List.{flat_map}
use Rattle.std.specs.Cmp.{nat_eq_equiv}
use Rattle.std.specs.FinMap.{insert}
use Rattle.std.proofs.lemmas.Bool.Decides.{Decides-eqb}
use Rattle.std.proofs.lemmas.Map.Made.{length-le_from_is_member, is_member-Decides, IsDistinct-from_AllPairs}
use Rattle.event_loop.specs.Prelude.{PollerCall, Control, Registrations, Exchanges, ExchangesFit, answers_of, Begins, Registry, LoopStep, Joined, NotJoined, Left, Replaced, Requested, Refused, Steps, AreDeletes, AreOwnedBy, ids_end, calls_of, AllSteps}
use Rattle.event_loop.specs.declared.error.Error.{Error}
use Rattle.event_loop.specs.declared.error.Error.TheVariants.{OutOfMemory, IdsUsedUp}
use Rattle.vmm_sys.specs.declared.errno.Errno.{Errno}
use Rattle.vmm_sys.specs.declared.entries.ControlOperation.TheVariants as operation
use Rattle.event_manager.specs.Trace.{Stepped, Matches}
use Rattle.recorded_runs.specs.Determinism.{IsFunction, Asked, ToJoin, ToLeave, ToHold, ToRequest, Answers, GoAlike, AreAlike, StepsAlike}
use Rattle.recorded_runs.specs.Determinism.{HaveMemory, IsSameCall, answers_of_step}
use Rattle.event_manager.specs.declared.calls.Call.{Call}
use Rattle.event_manager.specs.declared.calls.Call.TheVariants as call
use Rattle.event_manager.specs.declared.calls.Reply.{Reply}
use Rattle.recorded_runs.proofs.SameExchanges.{memory_first, memory_then, memory_at, AreSameCalls, eventless, in_parts, behind_same, asks_of_requests, exchanges_alike}
use Rattle.event_loop.proofs.Releasing.{empty_event}

abbrev delete_of : ℕ → Result (Unit {0}) Errno → PollerCall
delete_of fd answer = Control operation.Delete fd empty_event answer

-- ascending lists of the same elements are as long; so are the deletes of an id's descriptors
apart : (xs : List ℕ) → AllPairs (λ a b. a < b) xs → AllPairs (λ a b. a ≢ b) xs
apart xs ascend i j d before within e = omega (arith, ascend i j d before within, e)

no_longer : (xs ys : List ℕ) → AllPairs (λ a b. a < b) xs → ((x : ℕ) → Contains xs x → Contains ys x) → length xs ≤ length ys
no_longer xs ys ascend h =
    length-le_from_is_member nat_eq_equiv xs ys (IsDistinct-from_AllPairs Decides-eqb xs (apart xs ascend))
    (λ x e. (is_member-Decides Decides-eqb ys x).1 (h x ((is_member-Decides Decides-eqb xs x).0 e)))

as_long : (i : ℕ) (registrations : Registrations) (xs ys : List ℕ) → AreOwnedBy i registrations xs → AreOwnedBy i registrations ys → length xs ≡ length ys
as_long i registrations xs ys h k =
    let a = no_longer xs ys h.0 (λ x c. (k.1 x).1 ((h.1 x).0 c)) in
    let b = no_longer ys xs k.0 (λ x c. (h.1 x).1 ((k.1 x).0 c)) in
    omega arith

-- as many deletes at the front of the same calls are the same
same_deletes : (fds gds : List ℕ) (calls made rest more : List PollerCall) → length fds ≡ length gds → AreDeletes fds calls → AreDeletes gds made
    → AreSameCalls (calls ++ rest) (made ++ more) → calls ≡ made
same_deletes [] [] [] [] rest more long h k same = refl
same_deletes [] [] (call ∷ calls) made rest more long h k same = absurd h
same_deletes [] [] [] (call ∷ made) rest more long h k same = absurd k
same_deletes [] (gd ∷ gds) calls made rest more long h k same = absurd (omega arith)
same_deletes (fd ∷ fds) [] calls made rest more long h k same = absurd (omega arith)
same_deletes (fd ∷ fds) (gd ∷ gds) [] made rest more long h k same = absurd h
same_deletes (fd ∷ fds) (gd ∷ gds) (call ∷ calls) [] rest more long h k same = absurd k
same_deletes (fd ∷ fds) (gd ∷ gds) (call ∷ tail) (one ∷ end) rest more long ((answer, e), h) ((other, f), k) same =
    let parts : eventless (delete_of fd answer) ∷ map eventless (tail ++ rest) ≡ eventless (delete_of gd other) ∷ map eventless (end ++ more) =
    ap (λ c. eventless c ∷ map eventless (tail ++ rest)) (sym e) ∙ same ∙ ap (λ c. eventless c ∷ map eventless (end ++ more)) f in
    let first : delete_of fd answer ≡ delete_of gd other = cc in
    let behind : AreSameCalls (tail ++ rest) (end ++ more) = cc in
    let all = same_deletes fds gds tail end rest more (omega arith) h k behind in
    (λ j. (e ∙ first ∙ sym f) j ∷ all j)

module _ {V : Type 0} where
  -- what a call asks for, where it is one step
  abbrev pub asked_by : Call V → Option (Asked V)
  asked_by (call.Add value) = Some (ToJoin value)
  asked_by (call.Remove id) = Some (ToLeave id)
  asked_by (call.Set id value) = Some (ToHold id)
  asked_by (call.Ask id requests) = Some (ToRequest id)
  asked_by (call.Run ms) = None

  some_is : (a b : Asked V) → Some a ≡ Some b → a ≡ b
  some_is a b e = cc

  -- the id that is asked for
  abbrev id_asked : Asked V → Option ℕ
  id_asked (ToJoin value) = None
  id_asked (ToLeave id) = Some id
  id_asked (ToHold id) = Some id
  id_asked (ToRequest id) = Some id

  id_refused : (asked : Asked V) (id : ℕ) → Answers asked (Refused id) → id_asked asked ≡ Some id
  id_refused asked id (inl is) = ap id_asked is
  id_refused asked id (inr (inl is)) = ap id_asked is
  id_refused asked id (inr (inr is)) = ap id_asked is

  -- a refusal is of the id that was asked for
  of_one : (asked : Asked V) (id i : ℕ) → id_asked asked ≡ Some id → Answers asked (Refused i) → id ≡ i
  of_one asked id i is refused = let t = sym is ∙ id_refused asked i refused in cc

  pub same_asked : (c d : Call V) → IsSameCall c d → asked_by c ≡ asked_by d
  same_asked (call.Ask id requests) (call.Ask other others) h = ap (λ i. Some (ToRequest i)) h.0
  same_asked c d h = ap asked_by h

  module _ (J R : Type 0) where
    abbrev pub AreOf : LoopStep V → Call V → Reply V → Type 0
    AreOf step = Matches {J = J} {R = R} (Stepped step)

    pub asked_for : (step : LoopStep V) (c : Call V) (r : Reply V) → AreOf step c r → (asked : Asked V) × (asked_by c ≡ Some asked) × Answers asked step
    asked_for (Joined value id exchanges calls held) c r m = (ToJoin value, ap asked_by m.0, refl)
    asked_for (NotJoined value error) c r m = (ToJoin value, ap asked_by m.0, refl)
    asked_for (Left id value calls) c r m = (ToLeave id, ap asked_by m.0, refl)
    asked_for (Replaced id old new) c r m = (ToHold id, ap asked_by m.0, refl)
    asked_for (Requested id exchanges calls) c r m = (ToRequest id, ap asked_by m.2, refl)
    asked_for (Refused id) (call.Remove i) r m = (ToLeave i, refl, inl (ap ToLeave m.0))
    asked_for (Refused id) (call.Set i value) r m = (ToHold i, refl, inr (inl (ap ToHold m.0)))
    asked_for (Refused id) (call.Ask i requests) r m = (ToRequest i, refl, inr (inr (ap ToRequest m.0)))
    asked_for (Refused id) c r m = absurd m

    with_same : (step other : LoopStep V) (c d : Call V) (r q : Reply V) → IsSameCall c d → AreOf step c r → AreOf other d q → GoAlike step other
    with_same (Replaced id old new) (Replaced other older newer) c d r q h m n =
        let e : ◌≡◌ {A = Call V} (call.Set id new) (call.Set other newer) = rw (m.0, n.0) at h in λ same. cc
    with_same (Requested id exchanges calls) (Requested other others more) c d r q h m n =
        let e : (id ≡ other) × (m.0.items ≡ n.0.items) = rw (m.2, n.2) at h in asks_of_requests exchanges others (m.4 ∙ e.1 ∙ sym n.4)
    with_same step other c d r q h m n = tt

    -- two steps that answer the same call
    pub asked_alike : (step other : LoopStep V) (c d : Call V) (r q : Reply V) → IsSameCall c d → AreOf step c r → AreOf other d q → AreAlike step other
    asked_alike step other c d r q h m n =
        let a = asked_for step c r m in
        let b = asked_for other d q n in
        let same = some_is a.0 b.0 (sym a.1 ∙ same_asked c d h ∙ b.1) in
        (a.0, a.2, subst (λ asked. Answers asked other) (sym same) b.2, with_same step other c d r q h m n)

  -- why a join may be refused; with memory
  abbrev IsJoinRefused : Registry V → Error → Type 0
  IsJoinRefused before error = ((before.next ≡ ids_end) × (error ≡ IdsUsedUp)) ⊎ ((before.next < ids_end) × (error ≡ OutOfMemory))

  used_up : (before : Registry V) (error : Error) → HaveMemory (Err error ∷ []) → IsJoinRefused before error → (before.next ≡ ids_end) × (error ≡ IdsUsedUp)
  used_up before error m (inl h) = h
  used_up before error m (inr h) = absurd (memory_at (Err error) [] m (ap Err h.1))

  no_room : (before : Registry V) (error : Error) → HaveMemory (Err error ∷ []) → IsJoinRefused before error → before.next < ids_end → ⊥
  no_room before error m h room = lt_irrefl _ (subst (λ n. n < ids_end) (used_up before error m h).0 room)

  module _ (begins : Begins V) where
    left_alike : (before : Registry V) (id : ℕ) (value older : V) (calls made rest more : List PollerCall) (after onto : Registry V)
        → AreSameCalls (calls ++ rest) (made ++ more) → Steps begins before (Left id value calls) after → Steps begins before (Left id older made) onto
        → (Left id value calls ≡ Left id older made) × (after ≡ onto)
    left_alike before id value older calls made rest more after onto same (fds, held, owned, deletes, e) (gds, has, own, deleted, f) =
        let one : value ≡ older = cc in
        let long = as_long id before.registrations fds gds owned own in
        let all = same_deletes fds gds calls made rest more long deletes deleted same in
        ((λ j. Left id (one j) (all j)), e ∙ sym f)

    module _ (function : IsFunction begins) where
      joined_alike : (before : Registry V) (value : V) (id : ℕ) (exchanges others : Exchanges) (calls made rest more : List PollerCall) (held kept : V)
          (after onto : Registry V) → HaveMemory (answers_of exchanges) → HaveMemory (answers_of others) → AreSameCalls (calls ++ rest) (made ++ more)
          → Steps begins before (Joined value id exchanges calls held) after → Steps begins before (Joined value id others made kept) onto
          → (Joined value id exchanges calls held ≡ Joined value id others made kept) × (after ≡ onto)
      joined_alike before value id exchanges others calls made rest more held kept after onto m n same
          (ours, room, given, fits, begun, e) (theirs, place, gave, fit, began, f) =
          let alike = function value exchanges others held kept begun began in
          let all = exchanges_alike id before.registrations exchanges others calls made rest more ours theirs alike.0 m n same fits fit in
          let one = alike.1 all.0 in (
            (λ j. Joined value id (all.0 j) (all.1 j) (one j)),
            e ∙ (λ j. record { values = insert before.values id (one j); next = before.next + 1; registrations = all.2 j }) ∙ sym f,
          )

      -- a step is decided by what it was asked for, and by its answers
      pub step_alike : (before : Registry V) (step other : LoopStep V) (rest more : List PollerCall) (after onto : Registry V)
          → AreAlike step other → HaveMemory (answers_of_step step) → HaveMemory (answers_of_step other) → AreSameCalls (calls_of step ++ rest) (calls_of other ++ more)
          → Steps begins before step after → Steps begins before other onto → (step ≡ other) × (after ≡ onto)
      step_alike before (Joined value id exchanges calls held) (Joined newer i others made kept) rest more after onto a m n same h k =
          let one : newer ≡ value = let t = sym a.2 ∙ a.1 in cc in
          let ids : i ≡ id = k.2 ∙ sym h.2 in
          let here = subst (λ (p : V × ℕ). Steps begins before (Joined p.0 p.1 others made kept) onto) (λ j. (one j, ids j)) k in
          let all = joined_alike before value id exchanges others calls made rest more held kept after onto m n same h here in
          (all.0 ∙ sym (λ j. Joined (one j) (ids j) others made kept), all.1)
      step_alike before (Joined value id exchanges calls held) (NotJoined newer error) rest more after onto a m n same h k =
          absurd (no_room before error n k.0 h.1)
      step_alike before (NotJoined value error) (Joined newer i others made kept) rest more after onto a m n same h k =
          absurd (no_room before error m h.0 k.1)
      step_alike before (NotJoined value error) (NotJoined newer other) rest more after onto a m n same h k =
          let one : value ≡ newer = let t = sym a.1 ∙ a.2 in cc in
          let errors = (used_up before error m h.0).1 ∙ sym (used_up before other n k.0).1 in
          ((λ j. NotJoined (one j) (errors j)), h.1 ∙ sym k.1)
      step_alike before (Left id value calls) (Left i older made) rest more after onto a m n same h k =
          let ids : i ≡ id = let t = sym a.2 ∙ a.1 in cc in
          let here = subst (λ x. Steps begins before (Left x older made) onto) ids k in
          let all = left_alike before id value older calls made rest more after onto same h here in
          (all.0 ∙ sym (ap (λ x. Left x older made) ids), all.1)
      step_alike before (Replaced id old new) (Replaced i older newer) rest more after onto a m n same h k =
          let ids : id ≡ i = let t = sym a.1 ∙ a.2 in cc in
          let one : old ≡ older = cc in
          let held = a.3 one in
          ((λ j. Replaced (ids j) (one j) (held j)), h.1 ∙ (λ j. record before { values = insert before.values (ids j) (held j) }) ∙ sym k.1)
      step_alike before (Requested id exchanges calls) (Requested i others made) rest more after onto a m n same
          (value, ours, has, fits, e) (older, theirs, held, fit, f) =
          let ids : id ≡ i = let t = sym a.1 ∙ a.2 in cc in
          let here = subst (λ x. ExchangesFit x before.registrations others made theirs) (sym ids) fit in
          let all = exchanges_alike id before.registrations exchanges others calls made rest more ours theirs a.3 m n same fits here in
          ((λ j. Requested (ids j) (all.0 j) (all.1 j)), e ∙ (λ j. record before { registrations = all.2 j }) ∙ sym f)
      step_alike before (Left id value calls) (Refused i) rest more after onto a m n same h k = let held = h.1 in let ids = of_one a.0 id i (ap id_asked a.1) a.2 in cc
      step_alike before (Refused i) (Left id value calls) rest more after onto a m n same h k = let held = k.1 in let ids = of_one a.0 id i (ap id_asked a.2) a.1 in cc
      step_alike before (Replaced id old new) (Refused i) rest more after onto a m n same h k = let ids = of_one a.0 id i (ap id_asked a.1) a.2 in cc
      step_alike before (Refused i) (Replaced id old new) rest more after onto a m n same h k = let ids = of_one a.0 id i (ap id_asked a.2) a.1 in cc
      step_alike before (Requested id exchanges calls) (Refused i) rest more after onto a m n same h k = let held = h.2 in let ids = of_one a.0 id i (ap id_asked a.1) a.2 in cc
      step_alike before (Refused i) (Requested id exchanges calls) rest more after onto a m n same h k = let held = k.2 in let ids = of_one a.0 id i (ap id_asked a.2) a.1 in cc
      step_alike before (Refused id) (Refused i) rest more after onto a m n same h k = (ap Refused (of_one a.0 id i (id_refused a.0 id a.1) a.2), h.1 ∙ sym k.1)
      step_alike before (Refused i) other rest more after onto a m n same h k = let ids = id_refused a.0 i a.1 in let t = ap id_asked a.2 in cc
      step_alike before step (Refused i) rest more after onto a m n same h k = let ids = id_refused a.0 i a.2 in let t = ap id_asked a.1 in cc
      step_alike before step other rest more after onto a m n same h k = let t = sym a.1 ∙ a.2 in cc

      pub steps_alike : (before : Registry V) (steps others : List (LoopStep V)) (rest more : List PollerCall) (after onto : Registry V)
          → StepsAlike steps others → HaveMemory (flat_map answers_of_step steps) → HaveMemory (flat_map answers_of_step others)
          → AreSameCalls (flat_map calls_of steps ++ rest) (flat_map calls_of others ++ more)
          → AllSteps begins before steps after → AllSteps begins before others onto → (steps ≡ others) × (after ≡ onto)
      steps_alike before [] [] rest more after onto a m n same h k = (refl, h ∙ sym k)
      steps_alike before [] (other ∷ others) rest more after onto a m n same h k = absurd a
      steps_alike before (step ∷ steps) [] rest more after onto a m n same h k = absurd a
      steps_alike before (step ∷ steps) (other ∷ others) rest more after onto a m n same (mid, h, then_steps) (between, k, then_others) =
          let parts = in_parts (calls_of step) (flat_map calls_of steps) (calls_of other) (flat_map calls_of others) _ _ rest more refl refl same in
          let one = step_alike before step other (flat_map calls_of steps ++ rest) (flat_map calls_of others ++ more) mid between a.0
          (memory_first (answers_of_step step) _ m) (memory_first (answers_of_step other) _ n) parts h k in
          let then_here = subst (λ r. AllSteps begins r others onto) (sym one.1) then_others in
          let all = steps_alike mid steps others rest more after onto (a.1 one.0)
          (memory_then (answers_of_step step) _ m) (memory_then (answers_of_step other) _ n)
          (behind_same (calls_of step) (calls_of other) _ _ (ap calls_of one.0) parts) then_steps then_here in
          ((λ j. one.0 j ∷ all.0 j), all.1)
