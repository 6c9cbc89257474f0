-- The projection of one id's exchanges, and of a neighbour's.
use Rattle.std.proofs.Common.{Ok, is_ok, ◌≡◌, ◌≢◌, ℕ, cond, Bool, true, false, ◌||◌, refl, sym, ◌∙◌, ap, subst, arith, Some, None, Option, inl, inr, Err, List, [], ◌∷◌, ◌++◌, true≢false, if◌then◌else◌, ◌==◌, eq-eqb}
use Rattle.std.specs.FinMap.{get, insert, remove}
use Rattle.std.proofs.lemmas.Bool.{or_left, or_right, or_from}
use Rattle.std.proofs.lemmas.Bool.Decides.{nat_tests, eqb_tells}
use Rattle.std.proofs.lemmas.List.Folds.{list_any-append}
use Rattle.event_loop.specs.Prelude.{Event, Registrations, PollerCall, Answer, Exchanges, Fits, by_manager, without_memory, by_poller, by_agreement, ExchangesFit, refusal_of, registrations_after, has_removal, is_removal, Ownership, OwnerMap, owner_of, is_id}
use Rattle.event_loop.specs.declared.events.Request.{Request}
use Rattle.event_loop.specs.declared.events.Request.TheVariants.{Add, AddWithPriority, Modify, Remove}
use Rattle.dispatch_tables.specs.declared.priority.Priority.{Priority}
use Rattle.dispatch_tables.specs.declared.priority.Priority.TheVariants.{Lowest}
use Rattle.event_manager.specs.Projection.{owned_by, projected_registrations, is_add, asks_to_add, has_addition}
use Rattle.dispatch_tables.proofs.NumberTests.{fd_tells}
use Rattle.dispatch_tables.proofs.Owning.{from_insert, from_remove, owner_id}
use Rattle.event_manager.proofs.FiniteMaps.{get-owned_by, owner_of-owned_by, is_id-owned_by, owned_by-insert_own, owned_by-remove, entered}
use Rattle.event_loop.proofs.ExchangeLemmas.{not_on}
use Rattle.event_loop.proofs.Refusals.{is_vacant, is_own}

pub int_eq_same : (fd : ℕ) → (fd == fd) ≡ true
int_eq_same fd = eq-eqb fd fd refl

-- whose the descriptors are: each that i owns passes the test, and none that another owns
pub record IsMine (i : ℕ) (mine : ℕ → Bool) (owners : OwnerMap) : Type 0 where
  pub own : (fd : ℕ) → owner_of owners fd ≡ Some i → mine fd ≡ true
  pub other : (fd : ℕ) (j : ℕ) → j ≢ i → owner_of owners fd ≡ Some j → mine fd ≡ false

own_answer : (i : ℕ) (o : Option ℕ) → cond (is_id i o) o None ≡ Some i → o ≡ Some i
own_answer i None e = e
own_answer i (Some j) e = grind (arith, nat_tests)

own_stays : (i : ℕ) (o : Option ℕ) → o ≡ Some i → cond (is_id i o) o None ≡ Some i
own_stays i o e = rw e (grind (arith, nat_tests))

pub owned_from_projected : (i : ℕ) (owners : OwnerMap) (fd : ℕ) → owner_of (owned_by i owners) fd ≡ Some i → owner_of owners fd ≡ Some i
owned_from_projected i owners fd e = own_answer i (owner_of owners fd) (sym (owner_of-owned_by i owners fd) ∙ e)

pub owned_projected : (i : ℕ) (owners : OwnerMap) (fd : ℕ) → owner_of owners fd ≡ Some i → owner_of (owned_by i owners) fd ≡ Some i
owned_projected i owners fd e = owner_of-owned_by i owners fd ∙ own_stays i (owner_of owners fd) e

-- in the projection no one else owns anything
projected_answer : (i j : ℕ) (o : Option ℕ) → cond (is_id i o) o None ≡ Some j → j ≡ i
projected_answer i j None e = cc
projected_answer i j (Some k) e = grind (arith, nat_tests)

pub projected_is_own : (i j : ℕ) (owners : OwnerMap) (fd : ℕ) → owner_of (owned_by i owners) fd ≡ Some j → j ≡ i
projected_is_own i j owners fd e = projected_answer i j (owner_of owners fd) (sym (owner_of-owned_by i owners fd) ∙ e)

-- at a descriptor of i's both maps answer the same
mine_answer : (i : ℕ) (o : Option Ownership) → ((j : ℕ) → j ≢ i → owner_id o ≡ Some j → ⊥) → cond (is_id i (owner_id o)) o None ≡ o
mine_answer i None alien = refl
mine_answer i (Some one) alien = elim (eqb_tells one.id i) [ inl p ↦ ap (λ b. cond b (Some one) None) p.0 | inr p ↦ absurd (alien one.id p.1 refl) ]

pub same_at_mine : (i : ℕ) (mine : ℕ → Bool) (owners : OwnerMap) (fd : ℕ) → IsMine i mine owners → mine fd ≡ true → get (owned_by i owners) fd ≡ get owners fd
same_at_mine i mine owners fd m e = get-owned_by i owners fd ∙ mine_answer i (get owners fd) (λ j differ held. true≢false (sym e ∙ m.other fd j differ held))

-- an owner's map stays so
pub mine-insert : (i : ℕ) (mine : ℕ → Bool) (owners : OwnerMap) (fd : ℕ) (one : Ownership) → IsMine i mine owners → (one.id ≡ i → mine fd ≡ true) → (one.id ≢ i → mine fd ≡ false) → IsMine i mine (insert owners fd one)
mine-insert i mine owners fd one m own foreign = record {
  own = λ q h. elim (from_insert owners fd one q i h) [ inl p ↦ ap mine p.0 ∙ own p.1 | inr p ↦ m.own q p ];
  other = λ q k differ h. elim (from_insert owners fd one q k h) [ inl p ↦ ap mine p.0 ∙ foreign (λ s. differ (sym p.1 ∙ s)) | inr p ↦ m.other q k differ p ];
}

pub mine-remove : (i : ℕ) (mine : ℕ → Bool) (owners : OwnerMap) (fd : ℕ) → IsMine i mine owners → IsMine i mine (remove owners fd)
mine-remove i mine owners fd m = record { own = λ q h. m.own q (from_remove owners fd q i h); other = λ q k differ h. m.other q k differ (from_remove owners fd q k h) }

-- one request of i's own
pub record OwnFits (i : ℕ) (mine : ℕ → Bool) (pending : List Event) (registrations : Registrations) (request : Request) (answer : Answer) (calls : List PollerCall) (after : Registrations) : Type 0 where
  pub left : List Event
  pub none : pending ≡ [] → left ≡ []
  pub fits : Fits i (projected_registrations i pending registrations) request answer calls (projected_registrations i left after)
  pub still : IsMine i mine after.owners

-- the projection refuses i's requests as before
own_refusal : (i : ℕ) (mine : ℕ → Bool) (pending : List Event) (registrations : Registrations) (request : Request) → IsMine i mine registrations.owners → ((fd : ℕ) → is_add fd request ≡ true → mine fd ≡ true) → refusal_of i (projected_registrations i pending registrations) request ≡ refusal_of i registrations request
own_refusal i mine pending registrations (Add e) m claimed = rw (same_at_mine i mine registrations.owners e.fd m (claimed e.fd (int_eq_same e.fd))) refl
own_refusal i mine pending registrations (AddWithPriority e priority) m claimed = rw (same_at_mine i mine registrations.owners e.fd m (claimed e.fd (int_eq_same e.fd))) refl
own_refusal i mine pending registrations (Modify e) m claimed = rw (is_id-owned_by i registrations.owners e.fd) refl
own_refusal i mine pending registrations (Remove e) m claimed = rw (is_id-owned_by i registrations.owners e.fd) refl

abbrev left_after : Request → List Event → List Event
left_after (Add e) pending = pending
left_after (AddWithPriority e priority) pending = pending
left_after (Modify e) pending = pending
left_after (Remove e) pending = not_on e.fd pending

left_none : (request : Request) (pending : List Event) → pending ≡ [] → left_after request pending ≡ []
left_none (Add e) pending none = none
left_none (AddWithPriority e priority) pending none = none
left_none (Modify e) pending none = none
left_none (Remove e) pending none = ap (not_on e.fd) none

own_entered : (i : ℕ) (pending : List Event) (registrations : Registrations) (e : Event) (priority : Priority) → projected_registrations i pending (entered i e priority registrations) ≡ entered i e priority (projected_registrations i pending registrations)
own_entered i pending registrations e priority k = record { owners = owned_by-insert_own i registrations.owners e.fd (record { id = i; priority = priority }) refl k; endpoint = registrations.endpoint; pending = pending }

own_after : (i : ℕ) (pending : List Event) (registrations : Registrations) (request : Request) → projected_registrations i (left_after request pending) (registrations_after i request registrations) ≡ registrations_after i request (projected_registrations i pending registrations)
own_after i pending registrations (Add e) = own_entered i pending registrations e Lowest
own_after i pending registrations (AddWithPriority e priority) = own_entered i pending registrations e priority
own_after i pending registrations (Modify e) = refl
own_after i pending registrations (Remove e) = λ k. record { owners = owned_by-remove i registrations.owners e.fd k; endpoint = registrations.endpoint; pending = not_on e.fd pending }

own_still_entered : (i : ℕ) (mine : ℕ → Bool) (registrations : Registrations) (e : Event) (priority : Priority) → IsMine i mine registrations.owners → mine e.fd ≡ true → IsMine i mine (entered i e priority registrations).owners
own_still_entered i mine registrations e priority m claimed = mine-insert i mine registrations.owners e.fd (record { id = i; priority = priority }) m (λ s. claimed) (λ differ. absurd (differ refl))

own_still : (i : ℕ) (mine : ℕ → Bool) (registrations : Registrations) (request : Request) → IsMine i mine registrations.owners → ((fd : ℕ) → is_add fd request ≡ true → mine fd ≡ true) → IsMine i mine (registrations_after i request registrations).owners
own_still i mine registrations (Add e) m claimed = own_still_entered i mine registrations e Lowest m (claimed e.fd (int_eq_same e.fd))
own_still i mine registrations (AddWithPriority e priority) m claimed = own_still_entered i mine registrations e priority m (claimed e.fd (int_eq_same e.fd))
own_still i mine registrations (Modify e) m claimed = m
own_still i mine registrations (Remove e) m claimed = mine-remove i mine registrations.owners e.fd m

own_unchanged : (i : ℕ) (mine : ℕ → Bool) (pending : List Event) (registrations : Registrations) (request : Request) (answer : Answer) (calls : List PollerCall) (after : Registrations) → IsMine i mine registrations.owners → after ≡ registrations
    → (projected_registrations i pending after ≡ projected_registrations i pending registrations → Fits i (projected_registrations i pending registrations) request answer calls (projected_registrations i pending after)) → OwnFits i mine pending registrations request answer calls after
own_unchanged i mine pending registrations request answer calls after m e fits = record {
  left = pending;
  none = λ z. z;
  fits = fits (ap (projected_registrations i pending) e);
  still = subst (λ b. IsMine i mine b.owners) (sym e) m;
}

pub own_fits : (i : ℕ) (mine : ℕ → Bool) (pending : List Event) (registrations : Registrations) (request : Request) (answer : Answer) (calls : List PollerCall) (after : Registrations) → IsMine i mine registrations.owners → ((fd : ℕ) → is_add fd request ≡ true → mine fd ≡ true) → Fits i registrations request answer calls after → OwnFits i mine pending registrations request answer calls after
own_fits i mine pending registrations request answer calls after m claimed (by_manager error h a r e) = own_unchanged i mine pending registrations request answer calls after m e (by_manager error (own_refusal i mine pending registrations request m claimed ∙ h) a r)
own_fits i mine pending registrations request answer calls after m claimed (without_memory adds h a r e) = own_unchanged i mine pending registrations request answer calls after m e (without_memory adds (own_refusal i mine pending registrations request m claimed ∙ h) a r)
own_fits i mine pending registrations request answer calls after m claimed (by_poller number h a r e) = own_unchanged i mine pending registrations request answer calls after m e (by_poller number (own_refusal i mine pending registrations request m claimed ∙ h) a r)
own_fits i mine pending registrations request answer calls after m claimed (by_agreement h a r e) = record {
  left = left_after request pending;
  none = left_none request pending;
  fits = by_agreement (own_refusal i mine pending registrations request m claimed ∙ h) a r (ap (projected_registrations i (left_after request pending)) e ∙ own_after i pending registrations request);
  still = subst (λ b. IsMine i mine b.owners) (sym e) (own_still i mine registrations request m claimed);
}

-- one request of a neighbour's
pub record OtherFits (i : ℕ) (mine : ℕ → Bool) (registrations : Registrations) (request : Request) (answer : Answer) (after : Registrations) : Type 0 where
  pub still : IsMine i mine after.owners
  pub apart : (fd : ℕ) → mine fd ≡ true → is_removal fd request answer ≡ false

pub no_removal : (fd : ℕ) (request : Request) (answer : Answer) (error : _) → answer ≡ Err error → is_removal fd request answer ≡ false
no_removal fd (Add e) answer error r = refl
no_removal fd (AddWithPriority e priority) answer error r = refl
no_removal fd (Modify e) answer error r = refl
no_removal fd (Remove e) answer error r = rw r refl

other_unchanged : (i : ℕ) (mine : ℕ → Bool) (registrations : Registrations) (request : Request) (answer : Answer) (after : Registrations) → IsMine i mine registrations.owners → (error : _) → answer ≡ Err error → after ≡ registrations → OtherFits i mine registrations request answer after
other_unchanged i mine registrations request answer after m error r e = record {
  still = subst (λ b. IsMine i mine b.owners) (sym e) m;
  apart = λ fd t. no_removal fd request answer error r;
}

other_entered : (i j : ℕ) (mine : ℕ → Bool) (registrations : Registrations) (e : Event) (priority : Priority) (request : Request) → j ≢ i → IsMine i mine registrations.owners → mine e.fd ≡ false → get registrations.owners e.fd ≡ None → ((fd : ℕ) → is_removal fd request (Ok tt) ≡ false) → OtherFits i mine registrations request (Ok tt) (entered j e priority registrations)
other_entered i j mine registrations e priority request differ m foreign free none = record {
  still = mine-insert i mine registrations.owners e.fd (record { id = j; priority = priority }) m (λ s. absurd (differ s)) (λ s. foreign);
  apart = λ fd t. none fd;
}

other_agreed : (i j : ℕ) (mine : ℕ → Bool) (registrations : Registrations) (request : Request) → j ≢ i → IsMine i mine registrations.owners → ((fd : ℕ) → is_add fd request ≡ true → mine fd ≡ false) → refusal_of j registrations request ≡ None → OtherFits i mine registrations request (Ok tt) (registrations_after j request registrations)
other_agreed i j mine registrations (Add e) differ m foreign h = other_entered i j mine registrations e Lowest (Add e) differ m (foreign e.fd (int_eq_same e.fd)) (is_vacant registrations e.fd h).0 (λ fd. refl)
other_agreed i j mine registrations (AddWithPriority e priority) differ m foreign h = other_entered i j mine registrations e priority (AddWithPriority e priority) differ m (foreign e.fd (int_eq_same e.fd)) (is_vacant registrations e.fd h).0 (λ fd. refl)
other_agreed i j mine registrations (Modify e) differ m foreign h = record { still = m; apart = λ fd t. refl }
other_agreed i j mine registrations (Remove e) differ m foreign h = record {
  still = mine-remove i mine registrations.owners e.fd m;
  apart = λ fd t. elim (fd_tells e.fd fd) [
    | inl p ↦ absurd (true≢false (sym t ∙ ap mine (sym p.1) ∙ m.other e.fd j differ (is_own j registrations e h)))
    | inr p ↦ p.2
  ];
}

pub other_fits : (i j : ℕ) (mine : ℕ → Bool) (registrations : Registrations) (request : Request) (answer : Answer) (calls : List PollerCall) (after : Registrations) → j ≢ i → IsMine i mine registrations.owners → ((fd : ℕ) → (if is_ok answer then is_add fd request else false) ≡ true → mine fd ≡ false) → Fits j registrations request answer calls after → OtherFits i mine registrations request answer after
other_fits i j mine registrations request answer calls after differ m foreign (by_manager error h a r e) = other_unchanged i mine registrations request answer after m error r e
other_fits i j mine registrations request answer calls after differ m foreign (without_memory adds h a r e) = other_unchanged i mine registrations request answer after m _ r e
other_fits i j mine registrations request answer calls after differ m foreign (by_poller number h a r e) = other_unchanged i mine registrations request answer after m _ r e
other_fits i j mine registrations request answer calls after differ m foreign (by_agreement h a r e) =
    subst (λ b. OtherFits i mine registrations request answer b) (sym e)
    (subst (λ x. OtherFits i mine registrations request x (registrations_after j request registrations)) (sym r)
    (other_agreed i j mine registrations request differ m (λ fd t. foreign fd (ap (λ x. if is_ok x then is_add fd request else false) r ∙ t)) h))

-- whole exchanges
pub record OwnExchanges (i : ℕ) (mine : ℕ → Bool) (pending : List Event) (registrations : Registrations) (exchanges : Exchanges) (calls : List PollerCall) (after : Registrations) : Type 0 where
  pub left : List Event
  pub none : pending ≡ [] → left ≡ []
  pub fits : ExchangesFit i (projected_registrations i pending registrations) exchanges calls (projected_registrations i left after)
  pub still : IsMine i mine after.owners

pub own_exchanges : (i : ℕ) (mine : ℕ → Bool) (pending : List Event) (registrations : Registrations) (exchanges : Exchanges) (calls : List PollerCall) (after : Registrations) → IsMine i mine registrations.owners → ((fd : ℕ) → asks_to_add fd exchanges ≡ true → mine fd ≡ true) → ExchangesFit i registrations exchanges calls after → OwnExchanges i mine pending registrations exchanges calls after
own_exchanges i mine pending registrations [] calls after m claimed h = record {
  left = pending;
  none = λ z. z;
  fits = (h.0, ap (projected_registrations i pending) h.1);
  still = subst (λ b. IsMine i mine b.owners) (sym h.1) m;
}
own_exchanges i mine pending registrations (exchange ∷ exchanges) calls after m claimed (first, rest, mid, joined, fits, more) =
    let one = own_fits i mine pending registrations exchange.0 exchange.1 first mid m (λ fd t. claimed fd (or_left _ _ t)) fits in
    let others = own_exchanges i mine one.left mid exchanges rest after one.still (λ fd t. claimed fd (or_right _ _ t)) more in
    record {
      left = others.left;
      none = λ z. others.none (one.none z);
      fits = (first, rest, projected_registrations i one.left mid, joined, one.fits, others.fits);
      still = others.still;
    }

pub record OtherExchanges (i : ℕ) (mine : ℕ → Bool) (registrations : Registrations) (exchanges : Exchanges) (after : Registrations) : Type 0 where
  pub still : IsMine i mine after.owners
  pub apart : (fd : ℕ) → mine fd ≡ true → has_removal fd exchanges ≡ false

pub other_exchanges : (i j : ℕ) (mine : ℕ → Bool) (registrations : Registrations) (exchanges : Exchanges) (calls : List PollerCall) (after : Registrations) → j ≢ i → IsMine i mine registrations.owners → ((fd : ℕ) → has_addition fd exchanges ≡ true → mine fd ≡ false) → ExchangesFit j registrations exchanges calls after → OtherExchanges i mine registrations exchanges after
other_exchanges i j mine registrations [] calls after differ m foreign h = record {
  still = subst (λ b. IsMine i mine b.owners) (sym h.1) m;
  apart = λ fd t. refl;
}
other_exchanges i j mine registrations (exchange ∷ exchanges) calls after differ m foreign (first, rest, mid, joined, fits, more) =
    let one = other_fits i j mine registrations exchange.0 exchange.1 first mid differ m (λ fd t. foreign fd (or_left _ _ t)) fits in
    let others = other_exchanges i j mine mid exchanges rest after differ one.still (λ fd t. foreign fd (or_right _ _ t)) more in
    record {
      still = others.still;
      apart = λ fd t. or_from _ _ (one.apart fd t) (others.apart fd t);
    }

asks_to_add-append : (fd : ℕ) (a b : Exchanges) → asks_to_add fd (a ++ b) ≡ (asks_to_add fd a || asks_to_add fd b)
asks_to_add-append fd a b = list_any-append (λ (exchange : Request × Answer). is_add fd exchange.0) a b

has_addition-append : (fd : ℕ) (a b : Exchanges) → has_addition fd (a ++ b) ≡ (has_addition fd a || has_addition fd b)
has_addition-append fd a b = list_any-append (λ (exchange : Request × Answer). if is_ok exchange.1 then is_add fd exchange.0 else false) a b

pub asked_first : (fd : ℕ) (a b : Exchanges) → asks_to_add fd a ≡ true → asks_to_add fd (a ++ b) ≡ true
asked_first fd a b h = asks_to_add-append fd a b ∙ or_left _ _ h

pub asked_then : (fd : ℕ) (a b : Exchanges) → asks_to_add fd b ≡ true → asks_to_add fd (a ++ b) ≡ true
asked_then fd a b h = asks_to_add-append fd a b ∙ or_right _ _ h

pub has_addition_first : (fd : ℕ) (a b : Exchanges) → has_addition fd a ≡ true → has_addition fd (a ++ b) ≡ true
has_addition_first fd a b h = has_addition-append fd a b ∙ or_left _ _ h

pub has_addition_then : (fd : ℕ) (a b : Exchanges) → has_addition fd b ≡ true → has_addition fd (a ++ b) ≡ true
has_addition_then fd a b h = has_addition-append fd a b ∙ or_right _ _ h
