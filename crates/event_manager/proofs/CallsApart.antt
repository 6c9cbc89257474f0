-- A list of calls that was driven, taken apart: each call did what the single call promises.
use Rattle.std.proofs.Common.{◌≡◌, ℕ, List, [], ◌∷◌, ◌++◌, refl, sym, ap, subst, ◌∙◌, map, Vec, Result, Ok, Err, Some, None}
use Rattle.std.specs.declared.alloc.Global.{Global}
use Rattle.event_loop.specs.Prelude.{PollerCall, Control, Wait, Controls, Waits, Leads, Answer, Begins, Serves, LoopStep, Joined, NotJoined, Left, Replaced, Requested, Refused, AreBelow, Registry, Steps, LacksId, May, LoopContents, run_answer, LoopState, HasStepped, IsJoin, IsLeave, IsLoopIteration, contents_of}
use Rattle.event_loop.specs.declared.error.Error.{Error}
use Rattle.event_loop.specs.declared.events.Request.{Request}
use Rattle.event_loop.specs.declared.error.Error.TheVariants.{InvalidId}
use Rattle.event_manager.specs.Trace.{Effect, Stepped, Iterated, TraceEntry, Matches, HasEffect, IsTrace, calls_of_effect, calls_of_trace}
use Rattle.event_manager.specs.SingleCall.{IsAsk, IsReplacement, HasCalled}
use Rattle.event_manager.specs.Driven.{IsTraceOf, IsDriven}
use Rattle.event_manager.specs.Guarantees.{RemovedStayUnknown}
use Rattle.event_manager.specs.declared.calls.Call.{Call}
use Rattle.event_manager.specs.declared.calls.Call.TheVariants as call
use Rattle.event_manager.specs.declared.calls.Reply.{Reply}
use Rattle.event_manager.specs.declared.calls.Reply.TheVariants as reply
use Rattle.std.specs.FinMap.{get}
use Rattle.event_manager.proofs.HeldIds.{removed_value}
use Rattle.event_manager.proofs.Soundness.{trace_follows}
use Rattle.event_manager.proofs.TraceSoFar.{driven_by}
use Rattle.event_manager.proofs.UnknownIds.{removed_unknown}

-- this holds of a list with one reply to each of the calls
abbrev pub HasReplies : {V : Type 0} → List (Call V) → (List (Reply V) → Type 0) → Type 0
HasReplies [] holds = holds []
HasReplies {V} (c ∷ calls) holds = (r : Reply V) × HasReplies calls (λ replies. holds (r ∷ replies))

-- a call was made by itself: it answered by a step, and its reply is that answer
pub record IsAnswered {S P A : Type 0} (begins : Begins S) (controls : Controls P) (waits : Waits P) (replies : Result A Error → Reply S) (is_step : Result A Error → LoopStep S → Type 0) (before : LoopState S P) (r : Reply S) (after : LoopState S P) : Type 0 where
  pub result : Result A Error
  pub replied : r ≡ replies result
  pub step : LoopStep S
  pub is_step_of : is_step result step
  pub has_stepped : HasStepped begins controls waits before step after

module _ {S J R : Type 0} (begins : Begins S) (serves : Serves S) (may : May S J R) where
  module _ {P : Type 0} (controls : Controls P) (waits : Waits P) where
    -- each call by itself
    abbrev pub IsCalled : LoopState S P → Call S → Reply S → LoopState S P → Type 0
    IsCalled before (call.Add value) r after = IsAnswered begins controls waits reply.Added (IsJoin value) before r after
    IsCalled before (call.Remove id) r after = IsAnswered begins controls waits reply.Removed (IsLeave id) before r after
    IsCalled before (call.Set id value) r after = IsAnswered begins controls waits reply.Set (IsReplacement id value) before r after
    IsCalled before (call.Ask id requests) r after = IsAnswered begins controls waits reply.Asked (IsAsk id requests.items) before r after
    IsCalled before (call.Run ms) r after = (result : Result ℕ Error) × (r ≡ reply.Ran result) × IsLoopIteration begins serves may controls waits before ms result after

    -- the first of the calls was made, and then the others
    pub record AreCalled (before : LoopState S P) (c : Call S) (calls : List (Call S)) (replies : List (Reply S)) (after : LoopState S P) : Type 0 where
      pub reply : Reply S
      pub others : List (Reply S)
      pub replies_are : replies ≡ reply ∷ others
      pub between : LoopState S P
      pub first : IsCalled before c reply between
      pub driven : IsDriven begins serves may controls waits between calls others after

has_first : {S J R : Type 0} {c : Call S} {calls : List (Call S)} (trace : List (TraceEntry S J R)) → map (λ e. e.call) trace ≡ c ∷ calls → (entry : TraceEntry S J R) × (rest : List (TraceEntry S J R)) × (trace ≡ entry ∷ rest)
has_first {S} {c = c} {calls = calls} [] are = let s : ◌≡◌ {A = List (Call S)} [] (c ∷ calls) = are in cc
has_first (entry ∷ rest) are = (entry, rest, refl)

has_none : {S J R : Type 0} (trace : List (TraceEntry S J R)) → map (λ e. e.call) trace ≡ [] → trace ≡ []
has_none [] are = refl
has_none {S} (entry ∷ rest) are = let s : ◌≡◌ {A = List (Call S)} (entry.call ∷ map (λ e. e.call) rest) [] = are in cc

replied_in : {S J R : Type 0} (trace : List (TraceEntry S J R)) (holds : List (Reply S) → Type 0) → holds (map (λ e. e.reply) trace) → HasReplies (map (λ e. e.call) trace) holds
replied_in [] holds h = h
replied_in (entry ∷ trace) holds h = (entry.reply, replied_in trace (λ replies. holds (entry.reply ∷ replies)) h)

module _ {P : Type 0} (controls : Controls P) (waits : Waits P) where
  leads_apart : (before : P) (first more : List PollerCall) (after : P) → Leads controls waits before (first ++ more) after → (mid : P) × Leads controls waits before first mid × Leads controls waits mid more after
  leads_apart before [] more after h = (before, refl, h)
  leads_apart before (Control operation fd event answer ∷ first) more after (next, did, rest) = let k = leads_apart next first more after rest in (k.0, (next, did, k.1), k.2)
  leads_apart before (Wait ms capacity answer ∷ first) more after (next, did, within, rest) = let k = leads_apart next first more after rest in (k.0, (next, did, within, k.1), k.2)

module _ {S J R P : Type 0} {begins : Begins S} {serves : Serves S} {may : May S J R} {controls : Controls P} {waits : Waits P} where
  answered : {A : Type 0} {before after : LoopState S P} {replies : Result A Error → Reply S} {is_step : Result A Error → LoopStep S → Type 0} {r : Reply S} (result : Result A Error) (step : LoopStep S) → r ≡ replies result → is_step result step → HasCalled begins serves may controls waits before (Stepped step) after
      → IsAnswered begins controls waits replies is_step before r after
  answered result step replied is did = record { result = result; replied = replied; step = step; is_step_of = is; has_stepped = record { stepped = did.had.0; led = did.led; same_taken = did.had.1; same_capacity = did.same_capacity } }

  -- a call that matches an effect did what the single call promises
  pub called_alone : (before : LoopState S P) (effect : Effect S J R) (c : Call S) (r : Reply S) (after : LoopState S P) → Matches effect c r → HasCalled begins serves may controls waits before effect after → IsCalled begins serves may controls waits before c r after
  called_alone before (Stepped (Joined value id exchanges calls held)) c r after m did = rw m.0 (answered (Ok id) _ m.1 (exchanges, calls, held, refl) did)
  called_alone before (Stepped (NotJoined value error)) c r after m did = rw m.0 (answered (Err error) _ m.1 refl did)
  called_alone before (Stepped (Left id value calls)) c r after m did = rw m.0 (answered (Ok value) _ m.1 (calls, refl) did)
  called_alone before (Stepped (Replaced id old new)) c r after m did = rw m.0 (answered (Ok old) _ m.1 refl did)
  called_alone before (Stepped (Requested id exchanges calls)) c r after m did = rw m.2 (answered (Ok m.1) _ m.3 (exchanges, calls, refl, m.4, m.5) did)
  called_alone before (Stepped (Refused id)) (call.Remove i) r after m did = answered (Err InvalidId) _ m.1 (refl, ap Refused (sym m.0)) did
  called_alone before (Stepped (Refused id)) (call.Set i value) r after m did = answered (Err InvalidId) _ m.1 (refl, ap Refused (sym m.0)) did
  called_alone before (Stepped (Refused id)) (call.Ask i requests) r after m did = answered (Err InvalidId) _ m.1 (refl, ap Refused (sym m.0)) did
  called_alone before (Stepped (Refused id)) c r after m did = absurd m
  called_alone before (Iterated iteration) c r after m did = rw m.0 (run_answer iteration.waited, m.1, record { iteration = iteration; milliseconds = refl; answer = refl; iterated = did.had; led = did.led; same_capacity = did.same_capacity })

  called_at : (before after : LoopState S P) (a c : Call S) (others calls : List (Call S)) (told replies : List (Reply S)) → a ∷ others ≡ c ∷ calls → told ≡ replies → AreCalled begins serves may controls waits before a others told after → AreCalled begins serves may controls waits before c calls replies after
  called_at before after a c others calls told replies are_calls are_replies called =
      let is : a ≡ c = cc are_calls in
      let are : others ≡ calls = cc are_calls in
      subst (λ rs. AreCalled begins serves may controls waits before c calls rs after) are_replies (subst (λ cs. AreCalled begins serves may controls waits before c cs told after) are (subst (λ x. AreCalled begins serves may controls waits before x others told after) is called))

  entry_called : (before : LoopState S P) (entry : TraceEntry S J R) (trace : List (TraceEntry S J R)) (mid : LoopContents S) (after : LoopState S P) → AreBelow before.registry.next before.registry.values → Matches entry.effect entry.call entry.reply → HasEffect begins serves may (contents_of before) entry.effect mid → IsTrace begins serves may mid trace (contents_of after)
      → Leads controls waits before.poller (calls_of_effect before.capacity entry.effect ++ calls_of_trace before.capacity trace) after.poller → after.capacity ≡ before.capacity → AreCalled begins serves may controls waits before entry.call (map (λ e. e.call) trace) (entry.reply ∷ map (λ e. e.reply) trace) after
  entry_called before entry trace mid after below matches had more led same =
      let apart = leads_apart controls waits before.poller (calls_of_effect before.capacity entry.effect) (calls_of_trace before.capacity trace) after.poller led in
      let between : LoopState S P = record { registry = mid.registry; taken = mid.taken; poller = apart.0; capacity = before.capacity } in
      let below_mid = (trace_follows begins serves may (contents_of before) (entry ∷ []) mid (mid, matches, had, refl)).below below in
      record {
        reply = entry.reply;
        others = map (λ e. e.reply) trace;
        replies_are = refl;
        between = between;
        first = called_alone before entry.effect entry.call entry.reply between matches (record { had = had; led = apart.1; same_capacity = refl });
        driven = driven_by begins serves may controls waits between trace after below_mid (record { calls_are = refl; replies_are = refl; is_trace = more; led = apart.2; same_capacity = same });
      }

  traced : (before : LoopState S P) (c : Call S) (calls : List (Call S)) (replies : List (Reply S)) (after : LoopState S P) (entry : TraceEntry S J R) (trace : List (TraceEntry S J R)) → AreBelow before.registry.next before.registry.values → IsTraceOf begins serves may controls waits before (c ∷ calls) replies after (entry ∷ trace) → AreCalled begins serves may controls waits before c calls replies after
  traced before c calls replies after entry trace below of =
      called_at before after entry.call c _ calls _ replies of.calls_are of.replies_are (entry_called before entry trace of.is_trace.0 after below of.is_trace.1 of.is_trace.2 of.is_trace.3 of.led of.same_capacity)

  -- the first call, and the others
  pub first_called : {before after : LoopState S P} {c : Call S} {calls known : List (Call S)} {replies : List (Reply S)} → IsDriven begins serves may controls waits before calls replies after → calls ≡ c ∷ known → AreCalled begins serves may controls waits before c known replies after
  first_called {before} {after} {c} {calls} {known} {replies} driven are =
      let t = has_first driven.trace (driven.is_trace_of.calls_are ∙ are) in
      traced before c known replies after t.0 t.1 driven.guaranteed.below.0 (subst (λ cs. IsTraceOf begins serves may controls waits before cs replies after (t.0 ∷ t.1)) are (subst (λ es. IsTraceOf begins serves may controls waits before calls replies after es) t.2 driven.is_trace_of))

  -- no call
  pub none_called : {before after : LoopState S P} {replies : List (Reply S)} → IsDriven begins serves may controls waits before [] replies after → (replies ≡ []) × (after ≡ before)
  none_called {before} {after} {replies} driven =
      let of = subst (λ es. IsTraceOf begins serves may controls waits before [] replies after es) (has_none driven.trace driven.is_trace_of.calls_are) driven.is_trace_of in
      (sym of.replies_are, λ k. record { registry = (of.is_trace k).registry; taken = (of.is_trace k).taken; poller = of.led k; capacity = of.same_capacity k })

  -- what holds of the replies to known calls
  pub with_replies : {before after : LoopState S P} {calls known : List (Call S)} {replies : List (Reply S)} → IsDriven begins serves may controls waits before calls replies after → calls ≡ known → (holds : List (Reply S) → Type 0) → holds replies → HasReplies known holds
  with_replies driven are holds h =
      let of = driven.is_trace_of in
      subst (λ cs. HasReplies cs holds) (of.calls_are ∙ are) (replied_in driven.trace holds (subst holds (sym of.replies_are) h))

  -- the replies to known calls: what was removed is unknown
  pub unknown_to : {before after : LoopState S P} {calls known : List (Call S)} {replies : List (Reply S)} → IsDriven begins serves may controls waits before calls replies after → calls ≡ known
      → HasReplies known (λ told. (replies ≡ told) × RemovedStayUnknown known told)
  unknown_to {known = known} {replies} driven are =
      let of = driven.is_trace_of in
      with_replies driven are (λ told. (replies ≡ told) × RemovedStayUnknown known told)
      (refl, subst (λ rs. RemovedStayUnknown known rs) of.replies_are (subst (λ cs. RemovedStayUnknown cs (map (λ e. e.reply) driven.trace)) (of.calls_are ∙ are) (removed_unknown begins serves may _ driven.trace _ of.is_trace driven.guaranteed.removed)))

module _ {S P : Type 0} {begins : Begins S} {controls : Controls P} {waits : Waits P} {before after : LoopState S P} {r : Reply S} where
  -- after a Remove of it, whatever it was answered, nobody has the id
  pub lacked_after_remove : (id : ℕ) → IsAnswered begins controls waits reply.Removed (IsLeave id) before r after → LacksId after.registry id
  lacked_after_remove id did = by_answer did.result did.step did.is_step_of did.has_stepped.stepped
    where
      by_answer : (result : Result S Error) (step : LoopStep S) → IsLeave id result step → Steps begins before.registry step after.registry → LacksId after.registry id
      by_answer (Ok value) step is did =
          let left : Steps begins before.registry (Left id value is.0) after.registry = subst (λ s. Steps begins before.registry s after.registry) is.1 did in
          ap (λ (g : Registry S). get g.values id) left.4 ∙ removed_value id before.registry.values
      by_answer (Err error) step is did =
          let left : Steps begins before.registry (Refused id) after.registry = subst (λ s. Steps begins before.registry s after.registry) is.1 did in
          ap (λ (g : Registry S). get g.values id) left.1 ∙ left.0

  -- requests for an id that nobody has
  pub refused_to_nobody : (id : ℕ) (requests : List Request) → LacksId before.registry id → IsAnswered begins controls waits reply.Asked (IsAsk id requests) before r after → r ≡ reply.Asked (Err InvalidId)
  refused_to_nobody id requests lacks did = did.replied ∙ ap reply.Asked (by_answer did.result did.step did.is_step_of did.has_stepped.stepped)
    where
      by_answer : (result : Result (Vec Answer Global) Error) (step : LoopStep S) → IsAsk id requests result step → Steps begins before.registry step after.registry → result ≡ Err InvalidId
      by_answer (Ok answers) step is did =
          let asked : Steps begins before.registry (Requested id is.0 is.1) after.registry = subst (λ s. Steps begins before.registry s after.registry) is.2 did in
          let held : None ≡ Some asked.0 = sym lacks ∙ asked.2 in cc
      by_answer (Err error) step is did = ap Err is.0
