-- A loop that makes requests one after another, and keeps their answers, or the first that is a refusal.
use Rattle.std.proofs.Common.{◌≡◌, ℕ, ◌+◌, ◌<◌, ◌≤◌, List, [], ◌∷◌, ◌++◌, length, take, get_or, set, refl, sym, ap, subst, ◌∙◌, arith, Ok, Err}
use Rattle.std.specs.Result.{result_and}
use Rattle.std.proofs.lemmas.List.{map-append, take_more, take_more_set, take_all}
use Rattle.event_loop.specs.Prelude.{Exchanges, Answer, requests_of, answers_of, PollerCall, Controls, Waits, AreMadeThrough}
use Rattle.event_loop.specs.declared.events.Request.{Request}
use Rattle.event_loop.specs.Exchange.{answered_at, first_refusal_from}
use Rattle.event_loop.specs.declared.ops.EventOps.{EventOps}
use Rattle.event_loop.proofs.ExchangeLemmas.{none_made, exchanges_join}

-- the first n requests were made, with these answers, from the `EventOps` before to the one after
pub record AreRequestedSoFar {P : Type 0} (controls : Controls P) (waits : Waits P) (requests : List Request) (n : ℕ) (answers : List Answer) (before after : EventOps P) : Type 0 where
  pub exchanges : Exchanges
  pub calls : List PollerCall
  pub requests_are : requests_of exchanges ≡ take n requests
  pub answers_are : answers_of exchanges ≡ answers
  pub made : AreMadeThrough controls waits before after exchanges calls

module _ {P : Type 0} {controls : Controls P} {waits : Waits P} where
  pub none_requested : (requests : List Request) (b : EventOps P) → AreRequestedSoFar controls waits requests 0 [] b b
  none_requested requests b = record { exchanges = []; calls = []; requests_are = refl; answers_are = refl; made = none_made b }

  -- one more was made
  pub one_more_requested : {b m a : EventOps P} {requests : List Request} {n : ℕ} {answers : List Answer} {request : Request} {answer : Answer} {calls : List PollerCall}
      → AreRequestedSoFar controls waits requests n answers b m → n < length requests → request ≡ get_or requests n request
      → AreMadeThrough controls waits m a ((request, answer) ∷ []) calls → AreRequestedSoFar controls waits requests (n + 1) (answers ++ answer ∷ []) b a
  one_more_requested {requests = requests} {n} {answers} {request} {answer} {calls} so_far within is more = record {
    exchanges = so_far.exchanges ++ (request, answer) ∷ [];
    calls = so_far.calls ++ calls;
    requests_are = map-append (λ (x : Request × Answer). x.0) so_far.exchanges ((request, answer) ∷ []) ∙ ap (λ l. l ++ request ∷ []) so_far.requests_are ∙ ap (λ x. take n requests ++ x ∷ []) is ∙ sym (take_more requests n request within);
    answers_are = map-append (λ (x : Request × Answer). x.1) so_far.exchanges ((request, answer) ∷ []) ∙ ap (λ l. l ++ answer ∷ []) so_far.answers_are;
    made = exchanges_join so_far.made more;
  }

  -- one more was made, and its answer written in its place
  pub one_more_in_place : {b m a : EventOps P} {requests : List Request} {n : ℕ} (answers : List Answer) {request : Request} {answer : Answer} {calls : List PollerCall}
      → AreRequestedSoFar controls waits requests n (take n answers) b m → n < length requests → n < length answers → request ≡ get_or requests n request
      → AreMadeThrough controls waits m a ((request, answer) ∷ []) calls → AreRequestedSoFar controls waits requests (n + 1) (take (n + 1) (set answers n answer)) b a
  one_more_in_place {b} {a = a} {requests} {n} answers {answer = answer} so_far within room is more =
      subst (λ known. AreRequestedSoFar controls waits requests (n + 1) known b a) (sym (take_more_set answers n answer room)) (one_more_requested so_far within is more)

  -- all were made
  pub all_requested : {b a : EventOps P} {requests : List Request} {n : ℕ} {answers : List Answer} → AreRequestedSoFar controls waits requests n answers b a → length requests ≤ n
      → (exchanges : Exchanges) × (calls : List PollerCall) × (requests_of exchanges ≡ requests) × (answers_of exchanges ≡ answers) × AreMadeThrough controls waits b a exchanges calls
  all_requested {requests = requests} {n = n} so_far past = (so_far.exchanges, so_far.calls, so_far.requests_are ∙ take_all n requests past, so_far.answers_are, so_far.made)

refusal_alone : (k m : ℕ) (next : Answer) → k ≡ m → first_refusal_from k (next ∷ []) ≡ answered_at m next
refusal_alone k m (Ok entry) same = refl
refusal_alone k m (Err error) same = ap (λ index. answered_at index (Err error)) same

-- the first refusal of one answer more
pub next_refusal : (k m : ℕ) (answers : List Answer) (next : Answer) → k + length answers ≡ m → first_refusal_from k (answers ++ next ∷ []) ≡ result_and (first_refusal_from k answers) (answered_at m next)
next_refusal k m [] next is = refusal_alone k m next (omega (arith, is))
next_refusal k m (Ok entry ∷ answers) next is = next_refusal (k + 1) m answers next (omega (arith, is))
next_refusal k m (Err error ∷ answers) next is = refl
