use Rattle.std.proofs.Common.{refl, sym, ◌∙◌, [], ◌∷◌, Ok, Err}
use Rattle.std.proofs.lemmas.Bool.{false≢true}
use Rattle.vmm_sys.specs.declared.entries.ControlOperation.TheVariants as operation
use Rattle.event_loop.specs.Prelude.{by_manager, by_poller, by_agreement, Control}
use Rattle.event_loop.proofs.ExchangeLemmas.{kept}
use Rattle.event_loop.proofs.Refusals.{own_is_agreed, other_is_refused}
use Rattle.event_loop.specs.RegistrationState.{registrations_of}
use Rattle.event_loop.proofs.ops.EventOps.modify.Goals as goal

pub returns-then-not-is_owner : goal.returns-then-not-is_owner
returns-then-not-is_owner g c =
    ([], kept refl refl (λ fd. refl) (by_manager _ (other_is_refused _ (registrations_of c.args.self.now.epoll.registrations) c.args.events (λ owns. false≢true (sym c.if-not-is_owner.true ∙ c.is_owner.ensures.1 owns))) refl refl refl) refl)

pub returns-in-Ok : goal.returns-in-Ok
returns-in-Ok g c =
    let led = rw c.in-Ok.is at c.ctl.ensures.led in (
      Control operation.Modify c.args.events.fd c.args.events (Ok tt) ∷ [],
      kept refl c.ctl.ensures.registrations (λ fd. refl) (by_agreement (own_is_agreed _ (registrations_of c.args.self.now.epoll.registrations) c.args.events (c.is_owner.ensures.0 c.if-not-is_owner.false)) refl refl refl) led,
    )

pub returns-in-Err : goal.returns-in-Err
returns-in-Err g c =
    let led = rw c.in-Err.is at c.ctl.ensures.led in (
      Control operation.Modify c.args.events.fd c.args.events (Err c.in-Err.e) ∷ [],
      kept refl c.ctl.ensures.registrations (λ fd. refl) (by_poller c.in-Err.e.0 (own_is_agreed _ (registrations_of c.args.self.now.epoll.registrations) c.args.events (c.is_owner.ensures.0 c.if-not-is_owner.false)) refl refl refl) led,
    )
