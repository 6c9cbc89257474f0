-- What was removed is unknown: by the replies of a trace.
use Rattle.std.proofs.Common.{◌≡◌, ℕ, List, [], ◌∷◌, ◌++◌, refl, sym, subst, ◌∙◌, map, Ok, Err}
use Rattle.std.specs.List.{AllZip}
use Rattle.event_loop.specs.Prelude.{Begins, Serves, Joined, NotJoined, Left, Replaced, Requested, Refused, May, LoopContents}
use Rattle.event_manager.specs.Trace.{Effect, Stepped, Iterated, TraceEntry, Matches, IsTrace}
use Rattle.event_manager.specs.Guarantees.{AreRefusedTo, RemovedStayGone, IsUnknown, RemovedStayUnknown}
use Rattle.event_manager.specs.History.{Turn, Made, Waited, turns_of, history_of}
use Rattle.event_loop.specs.declared.error.Error.TheVariants.{InvalidId}
use Rattle.event_manager.specs.declared.calls.Call.{Call}
use Rattle.event_manager.specs.declared.calls.Call.TheVariants as call
use Rattle.event_manager.specs.declared.calls.Reply.{Reply}
use Rattle.event_manager.specs.declared.calls.Reply.TheVariants as reply

module _ {V : Type 0} where
  refused_apart : (i : ℕ) (steps more : List (Turn V)) → AreRefusedTo i (steps ++ more) → AreRefusedTo i steps × AreRefusedTo i more
  refused_apart i [] more h = (tt, h)
  refused_apart i (Made (Refused id) ∷ steps) more h = refused_apart i steps more h
  refused_apart i (Waited ms waited positions ∷ steps) more h = refused_apart i steps more h
  refused_apart i (Made step ∷ steps) more h = let k = refused_apart i steps more h.1 in ((h.0, k.0), k.1)

  gone_behind : (steps more : List (Turn V)) → RemovedStayGone (steps ++ more) → RemovedStayGone more
  gone_behind [] more h = h
  gone_behind (Made (Left id value calls) ∷ steps) more h = gone_behind steps more h.1
  gone_behind (step ∷ steps) more h = gone_behind steps more h

module _ {V J R : Type 0} where
  -- where its step doesn't act on the id
  unknown_at : (i : ℕ) (effect : Effect V J R) (c : Call V) (r : Reply V) → Matches effect c r → AreRefusedTo i (turns_of effect) → IsUnknown i c r
  unknown_at i (Stepped (Joined value id exchanges calls held)) c r m h = rw m.0 (λ same. let s : ◌≡◌ {A = Reply V} (reply.Added (Ok id)) (reply.Added (Ok i)) = sym m.1 ∙ same in h.0 cc)
  unknown_at i (Stepped (NotJoined value error)) c r m h = rw m.0 (λ same. let s : ◌≡◌ {A = Reply V} (reply.Added (Err error)) (reply.Added (Ok i)) = sym m.1 ∙ same in cc)
  unknown_at i (Stepped (Left id value calls)) c r m h = rw m.0 (λ same. absurd (h.0 same))
  unknown_at i (Stepped (Replaced id old new)) c r m h = rw m.0 (λ same. absurd (h.0 same))
  unknown_at i (Stepped (Requested id exchanges calls)) c r m h = rw m.2 (λ same. absurd (h.0 same))
  unknown_at i (Stepped (Refused id)) (call.Remove other) r m h = λ same. m.1
  unknown_at i (Stepped (Refused id)) (call.Set other value) r m h = λ same. m.1
  unknown_at i (Stepped (Refused id)) (call.Ask other requests) r m h = λ same. m.1
  unknown_at i (Stepped (Refused id)) c r m h = absurd m
  unknown_at i (Iterated iteration) c r m h = rw m.0 tt

  -- a removal that was agreed is a leave
  refused_behind : (effect : Effect V J R) (more : List (Turn V)) (id : ℕ) (value : V) → Matches effect (call.Remove id) (reply.Removed (Ok value)) → RemovedStayGone (turns_of effect ++ more) → AreRefusedTo id more
  refused_behind (Stepped (Joined other i exchanges calls held)) more id value m h = let s : ◌≡◌ {A = Call V} (call.Remove id) (call.Add other) = m.0 in cc
  refused_behind (Stepped (NotJoined other error)) more id value m h = let s : ◌≡◌ {A = Call V} (call.Remove id) (call.Add other) = m.0 in cc
  refused_behind (Stepped (Left i left calls)) more id value m h = let s : ◌≡◌ {A = Call V} (call.Remove id) (call.Remove i) = m.0 in let same : i ≡ id = cc in subst (λ k. AreRefusedTo k more) same h.0
  refused_behind (Stepped (Replaced i old new)) more id value m h = let s : ◌≡◌ {A = Call V} (call.Remove id) (call.Set i new) = m.0 in cc
  refused_behind (Stepped (Requested i exchanges calls)) more id value m h = let s : ◌≡◌ {A = Call V} (call.Remove id) (call.Ask i m.0) = m.2 in cc
  refused_behind (Stepped (Refused i)) more id value m h = let s : ◌≡◌ {A = Reply V} (reply.Removed (Ok value)) (reply.Removed (Err InvalidId)) = m.1 in cc
  refused_behind (Iterated iteration) more id value m h = let s : ◌≡◌ {A = Call V} (call.Remove id) (call.Run iteration.ms) = m.0 in cc

module _ {V J R : Type 0} (begins : Begins V) (serves : Serves V) (may : May V J R) where
  unknown_in : (i : ℕ) (before : LoopContents V) (trace : List (TraceEntry V J R)) (after : LoopContents V) → IsTrace begins serves may before trace after → AreRefusedTo i (history_of trace) → AllZip (IsUnknown i) (map (λ e. e.call) trace) (map (λ e. e.reply) trace)
  unknown_in i before [] after is h = tt
  unknown_in i before (entry ∷ trace) after (mid, matches, had, more) h =
      let k = refused_apart i (turns_of entry.effect) (history_of trace) h in
      (unknown_at i entry.effect entry.call entry.reply matches k.0, unknown_in i mid trace after more k.1)

  pub removed_unknown : (before : LoopContents V) (trace : List (TraceEntry V J R)) (after : LoopContents V) → IsTrace begins serves may before trace after → RemovedStayGone (history_of trace) → RemovedStayUnknown (map (λ e. e.call) trace) (map (λ e. e.reply) trace)
  removed_unknown before [] after is h = refl
  removed_unknown before (entry ∷ trace) after (mid, matches, had, more) h = (
    λ id value asked answered. unknown_in id mid trace after more (refused_behind entry.effect (history_of trace) id value (rw (asked, answered) at matches) h),
    removed_unknown mid trace after more (gone_behind (turns_of entry.effect) (history_of trace) h),
  )
