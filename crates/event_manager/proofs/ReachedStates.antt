-- A manager that was reached from a new one, and one more call of it.
use Rattle.std.proofs.Common.{ℕ, ℤ, List, [], ◌∷◌, ◌++◌, refl, sym, ap, subst, Result, Ok, Err}
use Rattle.std.proofs.lemmas.List.Elements.{All-nil, All-cons, All-append}
use Rattle.event_loop.specs.Prelude.{Controls, Waits, Begins, Serves, LoopStep, Steps, Replaced, Refused, May, LoopContents, AllSteps, LoopState, HasStepped, HaveStepped, IsJoin, IsLeave, IsLoopIteration, contents_of}
use Rattle.event_loop.specs.declared.error.Error.{Error}
use Rattle.event_loop.specs.declared.error.Error.TheVariants.{InvalidId}
use Rattle.event_manager.specs.Trace.{Effect, Stepped, Iterated, TraceEntry, Matches, HasEffect, new_state}
use Rattle.event_manager.specs.Actions.{IsDoneTo}
use Rattle.event_manager.specs.Reached.{IsLikeJobs, IsReached}
use Rattle.event_manager.specs.declared.calls.Call.{Call}
use Rattle.event_manager.specs.declared.calls.Call.TheVariants as call
use Rattle.event_manager.specs.declared.calls.Reply.{Reply}
use Rattle.event_manager.specs.declared.calls.Reply.TheVariants as reply
use Rattle.event_manager.proofs.Histories.{traces_join}
use Rattle.event_manager.proofs.TraceSoFar.{join_matches, leave_matches}

module _ {V J R : Type 0} (begins : Begins V) (serves : Serves V) (may : May V J R) where
  pub new_is_reached : (endpoint : ℕ) → IsReached begins serves may (new_state endpoint)
  new_is_reached endpoint = record { endpoint = endpoint; trace = []; is_trace = refl; like_jobs = All-nil (λ entry. IsLikeJobs may entry.effect) }

  reached_by : (before after : LoopContents V) (c : Call V) (r : Reply V) (effect : Effect V J R) → IsReached begins serves may before → Matches effect c r → HasEffect begins serves may before effect after → IsLikeJobs may effect
      → IsReached begins serves may after
  reached_by before after c r effect so_far matches had likewise =
      let entry : TraceEntry V J R = record { call = c; reply = r; effect = effect } in
      let last = All-cons (λ (e : TraceEntry V J R). IsLikeJobs may e.effect) entry [] likewise (All-nil (λ (e : TraceEntry V J R). IsLikeJobs may e.effect)) in
      record {
        endpoint = so_far.endpoint;
        trace = so_far.trace ++ entry ∷ [];
        is_trace = traces_join begins serves may (new_state so_far.endpoint) before after so_far.trace (entry ∷ []) so_far.is_trace (after, matches, had, refl);
        like_jobs = All-append (λ (e : TraceEntry V J R). IsLikeJobs may e.effect) so_far.trace (entry ∷ []) so_far.like_jobs last;
      }

  join_is_like : (value : V) (result : Result ℕ Error) (step : LoopStep V) → IsJoin value result step → IsLikeJobs may (Stepped step)
  join_is_like value (Ok id) step h = rw h.3 tt
  join_is_like value (Err error) step h = rw h tt

  leave_is_like : (id : ℕ) (result : Result V Error) (step : LoopStep V) → IsLeave id result step → IsLikeJobs may (Stepped step)
  leave_is_like id (Ok value) step h = rw h.1 tt
  leave_is_like id (Err error) step h = rw h.1 tt

  module _ {P : Type 0} (controls : Controls P) (waits : Waits P) (before after : LoopState V P) where
    pub join_is_reached : (value : V) (result : Result ℕ Error) (step : LoopStep V) → IsReached begins serves may (contents_of before) → IsJoin value result step → HasStepped begins controls waits before step after → IsReached begins serves may (contents_of after)
    join_is_reached value result step reached is did =
        reached_by (contents_of before) (contents_of after) (call.Add value) (reply.Added result) (Stepped step) reached (join_matches J R value result step is) (did.stepped, did.same_taken) (join_is_like value result step is)

    pub leave_is_reached : (id : ℕ) (result : Result V Error) (step : LoopStep V) → IsReached begins serves may (contents_of before) → IsLeave id result step → HasStepped begins controls waits before step after → IsReached begins serves may (contents_of after)
    leave_is_reached id result step reached is did =
        reached_by (contents_of before) (contents_of after) (call.Remove id) (reply.Removed result) (Stepped step) reached (leave_matches J R id result step is) (did.stepped, did.same_taken) (leave_is_like id result step is)

    pub run_is_reached : (ms : ℤ) (result : Result ℕ Error) → IsReached begins serves may (contents_of before) → IsLoopIteration begins serves may controls waits before ms result after → IsReached begins serves may (contents_of after)
    run_is_reached ms result reached did =
        reached_by (contents_of before) (contents_of after) (call.Run ms) (reply.Ran result) (Iterated did.iteration) reached (ap call.Run (sym did.milliseconds), ap reply.Ran did.answer) did.iterated tt

    -- the loop does to one subscriber what a job does
    pub act_is_reached : {A T : Type 0} (does : A → V → T → V → Type 0) (id : ℕ) (action : A) (result : Result T Error) (steps : List (LoopStep V)) (job : J) (r : R) → may job steps r
        → IsReached begins serves may (contents_of before) → IsDoneTo does id action steps result → HaveStepped begins controls waits before steps after → IsReached begins serves may (contents_of after)
    act_is_reached does id action (Ok said) steps job r chosen reached (old, new, is, did) made =
        let stepped = subst (λ s. AllSteps begins before.registry s after.registry) is made.stepped in
        let here : Steps begins before.registry (Replaced id old new) after.registry = subst (λ r. Steps begins before.registry (Replaced id old new) r) (sym stepped.2) stepped.1 in
        reached_by (contents_of before) (contents_of after) (call.Set id new) (reply.Set (Ok old)) (Stepped (Replaced id old new)) reached (refl, refl) (here, made.same_taken) (job, r, subst (λ s. may job s r) is chosen)
    act_is_reached does id action (Err error) steps job r chosen reached (is, unknown) made =
        let stepped = subst (λ s. AllSteps begins before.registry s after.registry) is made.stepped in
        let here : Steps begins before.registry (Refused id) after.registry = subst (λ r. Steps begins before.registry (Refused id) r) (sym stepped.2) stepped.1 in
        reached_by (contents_of before) (contents_of after) (call.Remove id) (reply.Removed (Err InvalidId)) (Stepped (Refused id)) reached (refl, refl) (here, made.same_taken) tt
