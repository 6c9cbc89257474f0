-- Lists of exchanges, put together.
use Rattle.std.proofs.Common.{◌≡◌, ℕ, List, [], ◌∷◌, ◌++◌, refl, sym, ap, subst, ◌∙◌, append_assoc, arith, Ok, Bool, true, false, ◌||◌, ◌==◌, not, cond, map, filter}
use Rattle.std.proofs.lemmas.List.{append-nil}
use Rattle.std.proofs.lemmas.List.Folds.{list_any-append}
use Rattle.std.proofs.lemmas.Bool.Decides.{nat_tests}
use Rattle.event_loop.specs.Prelude.{Event, PollerCall, Control, Wait, Exchanges, ExchangesFit, Fits, Answer, by_manager, without_memory, by_poller, by_agreement, has_removal, is_removal, Registrations, Controls, Waits, Leads, AreMade, AreMadeThrough}
use Rattle.event_loop.specs.declared.events.Request.{Request}
use Rattle.event_loop.specs.declared.events.Request.TheVariants.{Add, AddWithPriority, Modify, Remove}
use Rattle.event_loop.specs.RegistrationState.{RegistrationState, not_cancelled, registrations_of, cancel_on, cancel_removed}
use Rattle.dispatch_tables.specs.declared.priority.Priority.TheVariants.{Lowest}
use Rattle.event_loop.specs.declared.epoll.EpollWrapper.{EpollWrapper}
use Rattle.event_loop.specs.declared.ops.EventOps.{EventOps}

eq_symm : (a b : ℕ) → (a == b) ≡ (b == a)
eq_symm a b = grind (arith, nat_tests)

pub or_false : (b : Bool) → b || false ≡ b
or_false true = refl
or_false false = refl

or_assoc : (a b c : Bool) → a || (b || c) ≡ (a || b) || c
or_assoc true b c = refl
or_assoc false b c = refl

-- with a mark at each position whose descriptor the exchanges remove, for no exchange too
abbrev pub marked : Exchanges → List (Event × Bool) → List (Event × Bool)
marked exchanges ready = map (λ p. (p.0, p.1 || has_removal p.0.fd exchanges)) ready

marked_none : (ready : List (Event × Bool)) → marked [] ready ≡ ready
marked_none [] = refl
marked_none ((e, m) ∷ ready) = ap (λ b. (e, b) ∷ marked [] ready) (or_false m) ∙ ap (λ r. (e, m) ∷ r) (marked_none ready)

marked_join : (t u : Exchanges) (ready : List (Event × Bool)) → marked (t ++ u) ready ≡ marked u (marked t ready)
marked_join t u [] = refl
marked_join t u ((e, m) ∷ ready) =
    ap (λ b. (e, b) ∷ marked (t ++ u) ready) (ap (λ b. m || b) (list_any-append (λ exchange. is_removal e.fd exchange.0 exchange.1) t u) ∙ or_assoc m (has_removal e.fd t) (has_removal e.fd u))
    ∙ ap (λ r. (e, (m || has_removal e.fd t) || has_removal e.fd u) ∷ r) (marked_join t u ready)

pub cancel_removed_marks : (exchanges : Exchanges) (ready : List (Event × Bool)) → cancel_removed exchanges ready ≡ marked exchanges ready
cancel_removed_marks [] ready = sym (marked_none ready)
cancel_removed_marks (exchange ∷ exchanges) ready = refl

cancel_removed_join : (t u : Exchanges) (ready : List (Event × Bool)) → cancel_removed (t ++ u) ready ≡ cancel_removed u (cancel_removed t ready)
cancel_removed_join t u ready = cancel_removed_marks (t ++ u) ready ∙ marked_join t u ready ∙ ap (marked u) (sym (cancel_removed_marks t ready)) ∙ sym (cancel_removed_marks u (cancel_removed t ready))

-- one exchange that removes nothing
pub cancel_removed_other : (request : Request) (answer : Answer) → ((fd : ℕ) → is_removal fd request answer ≡ false) → (ready : List (Event × Bool)) → ready ≡ cancel_removed ((request, answer) ∷ []) ready
cancel_removed_other request answer none [] = refl
cancel_removed_other request answer none ((e, m) ∷ ready) =
    sym (ap (λ b. (e, m || (b || false)) ∷ cancel_removed ((request, answer) ∷ []) ready) (none e.fd) ∙ ap (λ b. (e, b) ∷ cancel_removed ((request, answer) ∷ []) ready) (or_false m) ∙ ap (λ r. (e, m) ∷ r) (sym (cancel_removed_other request answer none ready)))

-- one agreed Remove
pub cancel_removed_one : (e : Event) (ready : List (Event × Bool)) → cancel_on e.fd ready ≡ cancel_removed ((Remove e, Ok tt) ∷ []) ready
cancel_removed_one e [] = refl
cancel_removed_one e ((x, m) ∷ ready) = ap (λ b. (x, m || b) ∷ cancel_on e.fd ready) (sym (or_false (e.fd == x.fd))) ∙ ap (λ r. (x, m || ((e.fd == x.fd) || false)) ∷ r) (cancel_removed_one e ready)

-- those of the events that are not on the descriptor
abbrev pub not_on : ℕ → List Event → List Event
not_on fd events = filter (λ e. not (e.fd == fd)) events

not_cancelled_more : (fd : ℕ) (x : Event) (ready : List (Event × Bool)) (b : Bool) → b ≡ (x.fd == fd) → not_cancelled (cancel_on fd ready) ≡ not_on fd (not_cancelled ready) → not_cancelled ((x, b) ∷ cancel_on fd ready) ≡ cond (not b) (x ∷ not_on fd (not_cancelled ready)) (not_on fd (not_cancelled ready))
not_cancelled_more fd x ready true e r = r
not_cancelled_more fd x ready false e r = ap (λ l. x ∷ l) r

pub not_cancelled_cancel_on : (fd : ℕ) (ready : List (Event × Bool)) → not_cancelled (cancel_on fd ready) ≡ not_on fd (not_cancelled ready)
not_cancelled_cancel_on fd [] = refl
not_cancelled_cancel_on fd ((x, true) ∷ ready) = not_cancelled_cancel_on fd ready
not_cancelled_cancel_on fd ((x, false) ∷ ready) = not_cancelled_more fd x ready (fd == x.fd) (eq_symm fd x.fd) (not_cancelled_cancel_on fd ready) ∙ ap (λ b. cond (not b) (x ∷ not_on fd (not_cancelled ready)) (not_on fd (not_cancelled ready))) (eq_symm fd x.fd)

module _ {P : Type 0} {controls : Controls P} {waits : Waits P} where
  pub one_made : {b a : EpollWrapper P} {i : ℕ} {request : Request} {answer : Answer} {calls : List PollerCall}
      → Fits i (registrations_of b.registrations) request answer calls (registrations_of a.registrations) → a.registrations.ready ≡ cancel_removed ((request, answer) ∷ []) b.registrations.ready → Leads controls waits b.poller calls a.poller → a.registrations.capacity ≡ b.registrations.capacity → AreMade controls waits b a i ((request, answer) ∷ []) calls
  one_made {a = a} {calls = calls} fit ready led same = record { fits = (calls, [], registrations_of a.registrations, sym (append-nil calls), fit, (refl, refl)); ready = ready; led = led; same_capacity = same }

  pub one_made_through : {b a : EventOps P} {request : Request} {answer : Answer} {calls : List PollerCall}
      → a.id ≡ b.id → Fits b.id (registrations_of b.epoll.registrations) request answer calls (registrations_of a.epoll.registrations) → a.epoll.registrations.ready ≡ cancel_removed ((request, answer) ∷ []) b.epoll.registrations.ready → Leads controls waits b.epoll.poller calls a.epoll.poller → a.epoll.registrations.capacity ≡ b.epoll.registrations.capacity
      → AreMadeThrough controls waits b a ((request, answer) ∷ []) calls
  one_made_through same_id fit ready led same = record { same_id = same_id; made = one_made fit ready led same }

  -- one request that left the registrations as they were, and removed nothing
  pub kept : {b a : EventOps P} {request : Request} {answer : Answer} {calls : List PollerCall}
      → a.id ≡ b.id → a.epoll.registrations ≡ b.epoll.registrations → ((fd : ℕ) → is_removal fd request answer ≡ false)
      → Fits b.id (registrations_of b.epoll.registrations) request answer calls (registrations_of b.epoll.registrations) → Leads controls waits b.epoll.poller calls a.epoll.poller
      → AreMadeThrough controls waits b a ((request, answer) ∷ []) calls
  kept {b} {a} {request} {answer} {calls} same_id same none fit led =
      one_made_through same_id (subst (λ r. Fits b.id (registrations_of b.epoll.registrations) request answer calls (registrations_of r)) (sym same) fit)
      (ap (λ (r : RegistrationState). r.ready) same ∙ cancel_removed_other request answer none b.epoll.registrations.ready) led (ap (λ (r : RegistrationState). r.capacity) same)

-- an addition at the lowest priority is one without a priority
lowest_fits : (i : ℕ) (b : Registrations) (e : Event) (answer : Answer) (calls : List PollerCall) (a : Registrations) → Fits i b (AddWithPriority e Lowest) answer calls a → Fits i b (Add e) answer calls a
lowest_fits i b e answer calls a (by_manager error why none is same) = by_manager error why none is same
lowest_fits i b e answer calls a (without_memory adds agreed none is same) = without_memory adds agreed none is same
lowest_fits i b e answer calls a (by_poller n agreed one is same) = by_poller n agreed one is same
lowest_fits i b e answer calls a (by_agreement agreed one is same) = by_agreement agreed one is same

pub lowest_made : {P : Type 0} {controls : Controls P} {waits : Waits P} (before after : EventOps P) (e : Event) (answer : Answer) (calls : List PollerCall)
    → AreMadeThrough controls waits before after ((AddWithPriority e Lowest, answer) ∷ []) calls → AreMadeThrough controls waits before after ((Add e, answer) ∷ []) calls
lowest_made before after e answer calls h =
    let (first, rest, mid, joined, fit, over) = h.made.fits in
    record {
      same_id = h.same_id;
      made = record {
        fits = (first, rest, mid, joined, lowest_fits before.id (registrations_of before.epoll.registrations) e answer first mid fit, over);
        ready = h.made.ready;
        led = h.made.led;
        same_capacity = h.made.same_capacity;
      };
    }

pub fits_join : (i : ℕ) (b m a : Registrations) (t u : Exchanges) (xs ys : List PollerCall) → ExchangesFit i b t xs m → ExchangesFit i m u ys a → ExchangesFit i b (t ++ u) (xs ++ ys) a
fits_join i b m a [] u xs ys f g = subst (λ z. ExchangesFit i b u (z ++ ys) a) (sym f.0) (subst (λ z. ExchangesFit i z u ys a) f.1 g)
fits_join i b m a (x ∷ t) u xs ys f g =
    (f.0, f.1 ++ ys, f.2, ap (λ z. z ++ ys) f.3 ∙ append_assoc f.0 f.1 ys, f.4, fits_join i f.2 m a t u f.1 ys f.5 g)

module _ {P : Type 0} (controls : Controls P) (waits : Waits P) where
  pub leads_join : (b m a : P) (xs ys : List PollerCall) → Leads controls waits b xs m → Leads controls waits m ys a → Leads controls waits b (xs ++ ys) a
  leads_join b m a [] ys f g = subst (λ t. Leads controls waits t ys a) f g
  leads_join b m a (Control op fd e r ∷ xs) ys f g = (f.0, f.1, leads_join f.0 m a xs ys f.2 g)
  leads_join b m a (Wait ms capacity r ∷ xs) ys f g = (f.0, f.1, f.2, leads_join f.0 m a xs ys f.3 g)

  pub made_join : (i : ℕ) (b m a : EpollWrapper P) (t u : Exchanges) (xs ys : List PollerCall) → AreMade controls waits b m i t xs → AreMade controls waits m a i u ys → AreMade controls waits b a i (t ++ u) (xs ++ ys)
  made_join i b m a t u xs ys f g = record { fits = fits_join i (registrations_of b.registrations) (registrations_of m.registrations) (registrations_of a.registrations) t u xs ys f.fits g.fits; ready = g.ready ∙ ap (cancel_removed u) f.ready ∙ sym (cancel_removed_join t u b.registrations.ready); led = leads_join b.poller m.poller a.poller xs ys f.led g.led; same_capacity = g.same_capacity ∙ f.same_capacity }

module _ {P : Type 0} {controls : Controls P} {waits : Waits P} where
  -- two lists of exchanges in a row are one
  pub exchanges_join : {b m a : EventOps P} {t u : Exchanges} {xs ys : List PollerCall} → AreMadeThrough controls waits b m t xs → AreMadeThrough controls waits m a u ys → AreMadeThrough controls waits b a (t ++ u) (xs ++ ys)
  exchanges_join {b} {m} {a} {t} {u} {xs} {ys} f g = record {
    same_id = g.same_id ∙ f.same_id;
    made = made_join controls waits b.id b.epoll m.epoll a.epoll t u xs ys f.made (subst (λ i. AreMade controls waits m.epoll a.epoll i u ys) f.same_id g.made);
  }

  -- no exchange
  pub none_made : (b : EventOps P) → AreMadeThrough controls waits b b [] []
  none_made b = record { same_id = refl; made = record { fits = (refl, refl); ready = refl; led = refl; same_capacity = refl } }

-- what fits with some events pending fits with none
abbrev nothing_pending : Registrations → Registrations
nothing_pending registrations = record registrations { pending = [] }

idle_fit : (i : ℕ) (b : Registrations) (request : Request) (answer : Answer) (calls : List PollerCall) (a : Registrations) → Fits i b request answer calls a → Fits i (nothing_pending b) request answer calls (nothing_pending a)
idle_fit i b request answer calls a (by_manager error why none is same) = by_manager error why none is (ap nothing_pending same)
idle_fit i b request answer calls a (without_memory adds agreed none is same) = without_memory adds agreed none is (ap nothing_pending same)
idle_fit i b request answer calls a (by_poller n agreed one is same) = by_poller n agreed one is (ap nothing_pending same)
idle_fit i b (Add e) answer calls a (by_agreement agreed one is same) = by_agreement agreed one is (ap nothing_pending same)
idle_fit i b (AddWithPriority e priority) answer calls a (by_agreement agreed one is same) = by_agreement agreed one is (ap nothing_pending same)
idle_fit i b (Modify e) answer calls a (by_agreement agreed one is same) = by_agreement agreed one is (ap nothing_pending same)
idle_fit i b (Remove e) answer calls a (by_agreement agreed one is same) = by_agreement agreed one is (ap nothing_pending same)

pub idle_fits : (i : ℕ) (b : Registrations) (exchanges : Exchanges) (calls : List PollerCall) (a : Registrations) → ExchangesFit i b exchanges calls a → ExchangesFit i (nothing_pending b) exchanges calls (nothing_pending a)
idle_fits i b [] calls a h = (h.0, ap nothing_pending h.1)
idle_fits i b (exchange ∷ exchanges) calls a h = (h.0, h.1, nothing_pending h.2, h.3, idle_fit i b exchange.0 exchange.1 h.0 h.2 h.4, idle_fits i h.2 exchanges h.1 a h.5)

fit_keeps_endpoint : (i : ℕ) (b : Registrations) (request : Request) (answer : Answer) (calls : List PollerCall) (a : Registrations) → Fits i b request answer calls a → a.endpoint ≡ b.endpoint
fit_keeps_endpoint i b request answer calls a (by_manager error why none is same) = ap (λ (r : Registrations). r.endpoint) same
fit_keeps_endpoint i b request answer calls a (without_memory adds agreed none is same) = ap (λ (r : Registrations). r.endpoint) same
fit_keeps_endpoint i b request answer calls a (by_poller n agreed one is same) = ap (λ (r : Registrations). r.endpoint) same
fit_keeps_endpoint i b (Add e) answer calls a (by_agreement agreed one is same) = ap (λ (r : Registrations). r.endpoint) same
fit_keeps_endpoint i b (AddWithPriority e priority) answer calls a (by_agreement agreed one is same) = ap (λ (r : Registrations). r.endpoint) same
fit_keeps_endpoint i b (Modify e) answer calls a (by_agreement agreed one is same) = ap (λ (r : Registrations). r.endpoint) same
fit_keeps_endpoint i b (Remove e) answer calls a (by_agreement agreed one is same) = ap (λ (r : Registrations). r.endpoint) same

pub exchanges_keep_endpoint : (i : ℕ) (b : Registrations) (exchanges : Exchanges) (calls : List PollerCall) (a : Registrations) → ExchangesFit i b exchanges calls a → a.endpoint ≡ b.endpoint
exchanges_keep_endpoint i b [] calls a h = ap (λ (r : Registrations). r.endpoint) h.1
exchanges_keep_endpoint i b (exchange ∷ exchanges) calls a h = exchanges_keep_endpoint i h.2 exchanges h.1 a h.5 ∙ fit_keeps_endpoint i b exchange.0 exchange.1 h.0 h.2 h.4
