-- What is pending after a position.
use Rattle.std.proofs.Common.{Ok, eq-eqb, ne_eqb, ◌==◌, ◌≡◌, ℕ, cond, Bool, true, false, not, ◌||◌, refl, sym, ◌∙◌, ap, List, [], ◌∷◌, ◌++◌, filter, Err, inl, inr}
use Rattle.event_loop.specs.Prelude.{Event, Registrations, PollerCall, Answer, Exchanges, Fits, by_manager, without_memory, by_poller, by_agreement, ExchangesFit, registrations_after, has_removal, is_removal, Serves, Registry, Position, Delivery, Nobody, To, is_removed, still_pending, with_pending, IsDelivery}
use Rattle.event_loop.specs.declared.events.Request.{Request}
use Rattle.event_loop.specs.declared.events.Request.TheVariants.{Add, AddWithPriority, Modify, Remove}
use Rattle.dispatch_tables.proofs.NumberTests.{fd_tells}
use Rattle.event_manager.proofs.ProjectedExchanges.{no_removal}
use Rattle.event_loop.proofs.Positions.{is_removed-push}

-- filters
filter_alike : (p q : Event → Bool) (events : List Event) → ((e : Event) → p e ≡ q e) → filter p events ≡ filter q events
filter_alike p q [] same = refl
filter_alike p q (e ∷ events) same = (λ k. cond (same e k) (e ∷ filter_alike p q events same k) (filter_alike p q events same k))

filter_all : (p : Event → Bool) (events : List Event) → ((e : Event) → p e ≡ true) → filter p events ≡ events
filter_all p [] all = refl
filter_all p (e ∷ events) all = ap (λ b. cond b (e ∷ filter p events) (filter p events)) (all e) ∙ ap (λ es. e ∷ es) (filter_all p events all)

filter_twice : (p q : Event → Bool) (events : List Event) → filter (λ e. not (p e)) (filter (λ e. not (q e)) events) ≡ filter (λ e. not (q e || p e)) events
filter_twice p q [] = refl
filter_twice p q (e ∷ events) = elim (q e) as (λ b. filter (λ x. not (p x)) (cond (not b) (e ∷ filter (λ x. not (q x)) events) (filter (λ x. not (q x)) events)) ≡ cond (not (b || p e)) (e ∷ filter (λ x. not (q x || p x)) events) (filter (λ x. not (q x || p x)) events)) [
  | true ↦ filter_twice p q events
  | false ↦ ap (λ es. cond (not (p e)) (e ∷ es) es) (filter_twice p q events)
]

-- one request
unchanged : (registrations after : Registrations) (request : Request) (answer : Answer) (error : _) → answer ≡ Err error → after ≡ registrations → after.pending ≡ filter (λ e. not (is_removal e.fd request answer)) registrations.pending
unchanged registrations after request answer error r e = ap (λ (b : Registrations). b.pending) e ∙ sym (filter_all (λ x. not (is_removal x.fd request answer)) registrations.pending (λ x. ap not (no_removal x.fd request answer error r)))

eq_swapped : (a b : ℕ) → (a == b) ≡ (b == a)
eq_swapped a b = elim (fd_tells a b) [
  | inl p ↦ p.2 ∙ sym (eq-eqb b a (sym p.1))
  | inr p ↦ p.2 ∙ sym (ne_eqb b a (λ q. p.1 (sym q)))
]

agreed_pending : (i : ℕ) (registrations : Registrations) (request : Request) → (registrations_after i request registrations).pending ≡ filter (λ e. not (is_removal e.fd request (Ok tt))) registrations.pending
agreed_pending i registrations (Add e) = sym (filter_all _ registrations.pending (λ x. refl))
agreed_pending i registrations (AddWithPriority e priority) = sym (filter_all _ registrations.pending (λ x. refl))
agreed_pending i registrations (Modify e) = sym (filter_all _ registrations.pending (λ x. refl))
agreed_pending i registrations (Remove e) = filter_alike _ _ registrations.pending (λ x. ap not (eq_swapped x.fd e.fd))

fits_pending : (i : ℕ) (registrations : Registrations) (request : Request) (answer : Answer) (calls : List PollerCall) (after : Registrations) → Fits i registrations request answer calls after → after.pending ≡ filter (λ e. not (is_removal e.fd request answer)) registrations.pending
fits_pending i registrations request answer calls after (by_manager error h a r e) = unchanged registrations after request answer error r e
fits_pending i registrations request answer calls after (without_memory adds h a r e) = unchanged registrations after request answer _ r e
fits_pending i registrations request answer calls after (by_poller n h a r e) = unchanged registrations after request answer _ r e
fits_pending i registrations request answer calls after (by_agreement h a r e) = ap (λ (b : Registrations). b.pending) e ∙ agreed_pending i registrations request ∙ ap (λ x. filter (λ ev. not (is_removal ev.fd request x)) registrations.pending) (sym r)

exchanges_pending : (i : ℕ) (registrations : Registrations) (exchanges : Exchanges) (calls : List PollerCall) (after : Registrations) → ExchangesFit i registrations exchanges calls after → after.pending ≡ filter (λ e. not (has_removal e.fd exchanges)) registrations.pending
exchanges_pending i registrations [] calls after h = ap (λ (b : Registrations). b.pending) h.1 ∙ sym (filter_all _ registrations.pending (λ x. refl))
exchanges_pending i registrations (exchange ∷ exchanges) calls after (first, rest, mid, joined, fits, more) =
    exchanges_pending i mid exchanges rest after more ∙ ap (filter (λ e. not (has_removal e.fd exchanges))) (fits_pending i registrations exchange.0 exchange.1 first mid fits)
    ∙ filter_twice (λ e. has_removal e.fd exchanges) (λ e. is_removal e.fd exchange.0 exchange.1) registrations.pending

ends : (a : Bool) → (a || false) ≡ a
ends true = refl
ends false = refl

pub pending_after : {V : Type 0} (serves : Serves V) (before : Registry V) (earlier : List (Position V)) (event : Event) (later : List Event) (delivery : Delivery V) (after : Registry V)
    → IsDelivery serves (with_pending (still_pending earlier later) before) (is_removed event.fd earlier) event delivery after → after.registrations.pending ≡ still_pending (earlier ++ record { event = event; delivery = delivery } ∷ []) later
pending_after {V} serves before earlier event later Nobody after (nobody, is) =
    ap (λ (r : Registry V). r.registrations.pending) is ∙ filter_alike _ _ later (λ e. ap not (sym (is_removed-push e.fd earlier (record { event = event; delivery = Nobody }) ∙ ends (is_removed e.fd earlier))))
pending_after {V} serves before earlier event later (To i exchanges calls held) after (value, registrations, for, serving, fits, is) =
    ap (λ (r : Registry V). r.registrations.pending) is
    ∙ exchanges_pending i (with_pending (still_pending earlier later) before).registrations exchanges calls registrations fits
    ∙ filter_twice (λ e. has_removal e.fd exchanges) (λ e. is_removed e.fd earlier) later
    ∙ filter_alike _ _ later (λ e. ap not (sym (is_removed-push e.fd earlier (record { event = event; delivery = To i exchanges calls held }))))
