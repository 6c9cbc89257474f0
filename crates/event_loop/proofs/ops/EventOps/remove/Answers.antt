use Rattle.std.proofs.Common.{refl, ap, sym, ◌∙◌, List, [], ◌∷◌, Ok, Err}
use Rattle.std.proofs.lemmas.Bool.{false≢true}
use Rattle.vmm_sys.specs.declared.entries.ControlOperation.TheVariants as operation
use Rattle.event_loop.specs.Prelude.{Event, by_manager, by_poller, by_agreement, Control}
use Rattle.std.specs.FinMap.{remove}
use Rattle.event_loop.proofs.ExchangeLemmas.{one_made_through, kept, cancel_removed_one, not_cancelled_cancel_on}
use Rattle.event_loop.proofs.Refusals.{own_is_agreed, other_is_refused}
use Rattle.event_loop.specs.RegistrationState.{RegistrationState, registrations_of, cancel_on}
use Rattle.event_loop.proofs.ops.EventOps.remove.Goals as goal

pub returns-then-not-is_owner : goal.returns-then-not-is_owner
returns-then-not-is_owner g c =
    ([], kept refl refl (λ fd. refl) (by_manager _ (other_is_refused _ (registrations_of c.args.self.now.epoll.registrations) c.args.events (λ owns. false≢true (sym c.if-not-is_owner.true ∙ c.is_owner.ensures.1 owns))) refl refl refl) refl)

pub returns-in-Ok : goal.returns-in-Ok
returns-in-Ok g c =
    let led = rw c.in-Ok.is at c.ctl.ensures.led in
    let s = c.args.self.now.epoll.registrations in
    let fd = c.args.events.fd in
    let same = c.remove.ensures ∙ ap (λ (b : RegistrationState). record b { owners = remove b.owners fd; ready = cancel_on fd b.ready }) c.ctl.ensures.registrations in
    let left = ap registrations_of same ∙ ap (λ (l : List Event). record (registrations_of s) { owners = remove s.owners fd; pending = l }) (not_cancelled_cancel_on fd s.ready) in (
      Control operation.Delete fd c.args.events (Ok tt) ∷ [],
      one_made_through refl (by_agreement (own_is_agreed _ (registrations_of c.args.self.now.epoll.registrations) c.args.events (c.is_owner.ensures.0 c.if-not-is_owner.false)) refl refl left)
          (ap (λ (x : RegistrationState). x.ready) same ∙ cancel_removed_one c.args.events s.ready) led (ap (λ (x : RegistrationState). x.capacity) same),
    )

pub returns-in-Err : goal.returns-in-Err
returns-in-Err g c =
    let led = rw c.in-Err.is at c.ctl.ensures.led in (
      Control operation.Delete c.args.events.fd c.args.events (Err c.in-Err.e) ∷ [],
      kept refl c.ctl.ensures.registrations (λ fd. refl) (by_poller c.in-Err.e.0 (own_is_agreed _ (registrations_of c.args.self.now.epoll.registrations) c.args.events (c.is_owner.ensures.0 c.if-not-is_owner.false)) refl refl refl) led,
    )
