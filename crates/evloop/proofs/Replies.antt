-- The reply to a call that was made alone.
use Rattle.std.proofs.Common.{◌≡◌, arith, List, [], ◌∷◌, ◌++◌, length, ap, sym, subst, ◌∙◌, map, Ok, Err}
use Rattle.std.proofs.lemmas.List.{length-map, length-append, nil_from_length}
use Rattle.event_manager.specs.declared.calls.Call.{Call}
use Rattle.event_manager.specs.declared.calls.Call.TheVariants.{Remove, Set, Ask}
use Rattle.event_manager.specs.declared.calls.Reply.{Reply}
use Rattle.event_manager.specs.Error.TheVariants.{InvalidId}
use Rattle.event_manager.specs.Driven.{IsDriven}
use Rattle.event_manager.specs.Prelude.{LoopContents, run_answer, LoopState, contents_of, Controls, Waits, Joined, NotJoined, Left, Replaced, Requested, Refused, Begins, Serves, May}
use Rattle.event_manager.specs.Trace.{Effect, Stepped, Iterated, TraceEntry, Matches, IsTrace}
use Rattle.evloop.specs.Replies.{IsReplyTo}

is_of_call : {S : Type 0} {call other : Call S} (reply : Reply S) → call ≡ other → IsReplyTo other reply → IsReplyTo call reply
is_of_call reply same is = subst (λ c. IsReplyTo c reply) (sym same) is

-- the last one of one
only_one : {X : Type 0} (items rest : List X) (x : X) → items ≡ rest ++ x ∷ [] → length items ≡ 1 → items ≡ x ∷ []
only_one items rest x is one =
    let count = ap length is ∙ length-append rest (x ∷ []) in
    is ∙ ap (λ before. before ++ x ∷ []) (nil_from_length rest (omega (arith, count, one)))

matching_reply : {S J R : Type 0} (effect : Effect S J R) (call : Call S) (reply : Reply S) → Matches effect call reply → IsReplyTo call reply
matching_reply (Stepped (Joined value id exchanges calls held)) call reply h = is_of_call reply h.0 (Ok id, h.1)
matching_reply (Stepped (NotJoined value error)) call reply h = is_of_call reply h.0 (Err error, h.1)
matching_reply (Stepped (Left id value calls)) call reply h = is_of_call reply h.0 (Ok value, h.1)
matching_reply (Stepped (Replaced id old new)) call reply h = is_of_call reply h.0 (Ok old, h.1)
matching_reply (Stepped (Requested id exchanges calls)) call reply h = is_of_call reply h.2 (Ok h.1, h.3)
matching_reply (Stepped (Refused id)) (Remove other) reply h = (Err InvalidId, h.1)
matching_reply (Stepped (Refused id)) (Set other value) reply h = (Err InvalidId, h.1)
matching_reply (Stepped (Refused id)) (Ask other requests) reply h = (Err InvalidId, h.1)
matching_reply (Stepped (Refused id)) call reply h = absurd h
matching_reply (Iterated iteration) call reply h = is_of_call reply h.0 (run_answer iteration.waited, h.1)

module _ {S J R : Type 0} (begins : Begins S) (serves : Serves S) (may : May S J R) where
  reply_in_trace : (trace : List (TraceEntry S J R)) (call : Call S) (reply : Reply S) (before after : LoopContents S) → map (λ entry. entry.call) trace ≡ call ∷ [] → map (λ entry. entry.reply) trace ≡ reply ∷ [] → IsTrace begins serves may before trace after → IsReplyTo call reply
  reply_in_trace [] call reply before after calls replies is = cc
  reply_in_trace (entry ∷ trace) call reply before after calls replies is =
      let same_call : entry.call ≡ call = cc in
      let same_reply : entry.reply ≡ reply = cc in
      subst (λ c. IsReplyTo c reply) same_call (subst (λ r. IsReplyTo entry.call r) same_reply (matching_reply entry.effect entry.call entry.reply is.1))

  module _ {P : Type 0} (controls : Controls P) (waits : Waits P) where
    -- it is of the kind that the call has
    pub is_of_kind : (call : Call S) (reply : Reply S) (before after : LoopState S P) → IsDriven begins serves may controls waits before (call ∷ []) (reply ∷ []) after → IsReplyTo call reply
    is_of_kind call reply before after driven =
        reply_in_trace driven.trace call reply (contents_of before) (contents_of after) driven.is_trace_of.calls_are driven.is_trace_of.replies_are driven.is_trace_of.is_trace

    module _ (before now : LoopState S P) (calls : List (Call S)) (call : Call S) (new : List (Reply S)) (alone : calls ≡ call ∷ []) (driven : IsDriven begins serves may controls waits before calls new now) where
      -- there is one
      pub one_reply : length new ≡ 1
      one_reply =
          ap length (sym driven.is_trace_of.replies_are) ∙ length-map driven.trace (λ entry. entry.reply)
          ∙ sym (length-map driven.trace (λ entry. entry.call)) ∙ ap length (driven.is_trace_of.calls_are ∙ alone)

      -- it is the last one
      pub made_alone : (rest : List (Reply S)) (reply : Reply S) → new ≡ rest ++ reply ∷ [] → IsDriven begins serves may controls waits before (call ∷ []) (reply ∷ []) now
      made_alone rest reply last =
          subst (λ made. IsDriven begins serves may controls waits before made (reply ∷ []) now) alone
          (subst (λ replies. IsDriven begins serves may controls waits before calls replies now) (only_one new rest reply last one_reply) driven)
