use Rattle.std.proofs.Common.{rules, ◌≡◌, Some, None, refl, sym, ap, ◌∙◌, inr, arith, ◌+◌, subst, []}
use Rattle.std.specs.FinMap.{get}
use Rattle.std.specs.Option.{option_copied_mut}
use Rattle.dispatch_tables.specs.Members.{Members, with_member}
use Rattle.dispatch_tables.proofs.MapEntries.{insert_twice, get_same, some_is}
use Rattle.event_loop.proofs.ExchangeLemmas.{idle_fits}
use Rattle.event_loop.specs.Registry.{Joined, NotJoined}
use Rattle.event_loop.specs.Dispatch.{with_pending}
use Rattle.event_loop.specs.declared.error.Error.TheVariants.{OutOfMemory}
use Rattle.event_loop.specs.RegistrationState.{registrations_of}
use Rattle.event_loop.proofs.registry.Registry.join.Goals as goal

pub returns-in_err-open : goal.returns-in_err-open
returns-in_err-open g c = rw c.in_err-open.ensures (NotJoined c.args.subscriber OutOfMemory, search rules, record { stepped = (inr (omega (arith, c.if-id.false, c.next_id-id.ensures.next), refl), refl); led = refl; same_taken = refl; same_capacity = refl })

pub returns-in_err-place : goal.returns-in_err-place
returns-in_err-place g c =
    let old = c.args.self.now in
    let same = ap (λ (members : Members _). with_pending [] (record { values = members.by_id; next = members.next; registrations = registrations_of old.ops.epoll.registrations })) c.in_err-place.ensures.err in
    rw c.in_ok-open.ensures (NotJoined c.args.subscriber OutOfMemory, search rules, record { stepped = (inr (omega (arith, c.if-id.false, c.next_id-id.ensures.next), refl), same); led = refl; same_taken = refl; same_capacity = refl })

pub unreachable-requires : goal.unreachable-requires
unreachable-requires g c =
    let id = c.args.self.now.subscribers.next in
    let found = rw c.next_id-id.ensures.next at c.get_mut_at.ensures.value in
    none_some _ (ap option_copied_mut (sym c.in_default.is) ∙ found ∙ ap (λ (m : Members _). get m.by_id id) c.in_ok-place.ensures.ok ∙ get_same _ id c.args.subscriber)
  where
    none_some : {A : Type 0} (x : A) → None ≡ Some x → ⊥
    none_some x e = cc

pub returns : goal.returns
returns g c =
    let given = c.next_id-id.ensures.next in
    let called = rw (c.turn_to.ensures, c.in_ok-open.ensures, given) at c.init.ensures in
    let id = c.args.self.now.subscribers.next in
    let first = c.in_ok-place.ensures.ok in
    let found = rw given at c.in-Some.ensures.value in
    let members = ap (λ (m : Members _). with_member m id c.init.new.self) first ∙ ap (λ values. record { by_id = values; next = id + 1 }) (insert_twice _ id c.args.subscriber c.init.new.self) in
    let was = some_is _ _ (found ∙ ap (λ (m : Members _). get m.by_id id) first ∙ get_same _ id c.args.subscriber) in
    let began = subst (λ v. g.S.MutEventSubscriber.begins v called.0 c.init.new.self) was called.2 in
    let after = registrations_of c.init.new.ops.epoll.registrations in
    let fits = idle_fits id (registrations_of c.args.self.now.ops.epoll.registrations) called.0 called.1 after called.3.made.fits in
    rw given (
      Joined c.args.subscriber id called.0 called.1 c.init.new.self,
      (called.0, called.1, c.init.new.self, refl),
      record {
        stepped = (_, omega (arith, c.if-id.false, given), refl, fits, began, λ k. record { values = (members k).by_id; next = (members k).next; registrations = record after { pending = [] } });
        led = called.3.made.led;
        same_taken = refl;
        same_capacity = called.3.made.same_capacity;
      },
    )
