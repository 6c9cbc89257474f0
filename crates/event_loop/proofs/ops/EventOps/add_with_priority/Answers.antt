use Rattle.std.proofs.Common.{rules, ◌≡◌, refl, sym, ap, ◌∙◌, [], ◌∷◌, Ok, Err}
use Rattle.vmm_sys.specs.declared.entries.ControlOperation.TheVariants as operation
use Rattle.event_loop.specs.Prelude.{by_manager, without_memory, by_poller, by_agreement, Control, owner_of}
use Rattle.event_loop.specs.declared.events.Request.TheVariants.{AddWithPriority}
use Rattle.std.specs.FinMap.{remove}
use Rattle.dispatch_tables.proofs.MapEntries.{remove_insert, get_same}
use Rattle.event_loop.proofs.ExchangeLemmas.{one_made_through, kept, cancel_removed_other}
use Rattle.event_loop.proofs.Refusals.{is_vacant}
use Rattle.event_loop.specs.RegistrationState.{RegistrationState, registrations_of}
use Rattle.event_loop.proofs.ops.EventOps.add_with_priority.Goals as goal
use Rattle.dispatch_tables.proofs.Owning.{owner_id}

pub returns-in_err-check_vacant : goal.returns-in_err-check_vacant
returns-in_err-check_vacant g c =
    let is : c.from_residual.result ≡ Err c.in_err-check_vacant.field-0.0 = search rules in
    ([], kept refl refl (λ fd. refl) (by_manager c.in_err-check_vacant.field-0.0 (sym c.in_err-check_vacant.ensures) refl is refl) refl)

pub returns-in_err-register : goal.returns-in_err-register
returns-in_err-register g c =
    let is : c.from_residual-in_err-register.result ≡ Err c.in_err-register.field-0.0 = search rules in
    let refused = c.in_err-register.ensures.err in
    ([], kept refl refused.1 (λ fd. refl) (without_memory refl (sym c.in_ok-check_vacant.ensures) refl (is ∙ ap Err refused.0) refl) refl)

pub returns-in-Ok : goal.returns-in-Ok
returns-in-Ok g c =
    let s = c.args.self.now.epoll.registrations in
    let led = rw c.in-Ok.is at c.ctl.ensures.led in
    let same = c.ctl.ensures.registrations ∙ c.in_ok-register.ensures.ok in (
      Control operation.Add c.args.events.fd c.args.events (Ok tt) ∷ [],
      one_made_through refl (by_agreement (sym c.in_ok-check_vacant.ensures) refl refl (ap registrations_of same))
          (ap (λ (x : RegistrationState). x.ready) same ∙ cancel_removed_other (AddWithPriority c.args.events c.args.priority) (Ok tt) (λ fd. refl) s.ready) led (ap (λ (x : RegistrationState). x.capacity) same),
    )

pub returns-in-Err : goal.returns-in-Err
returns-in-Err g c =
    let s = c.args.self.now.epoll.registrations in
    let led = rw c.in-Err.is at c.ctl.ensures.led in
    let vacant = is_vacant (registrations_of s) c.args.events.fd (sym c.in_ok-check_vacant.ensures) in
    let same = c.unregister.ensures ∙ ap (λ (b : RegistrationState). record b { owners = remove b.owners c.args.events.fd }) (c.ctl.ensures.registrations ∙ c.in_ok-register.ensures.ok)
    ∙ (λ k. record s { owners = remove_insert s.owners c.args.events.fd (record { id = c.args.self.now.id; priority = c.args.priority }) vacant.0 k }) in
    (Control operation.Add c.args.events.fd c.args.events (Err c.in-Err.e) ∷ [], kept refl same (λ fd. refl) (by_poller c.in-Err.e.0 (sym c.in_ok-check_vacant.ensures) refl refl refl) led)

pub unregister-requires : goal.unregister-requires
unregister-requires g c =
    let s = c.args.self.now.epoll.registrations in
    ap (λ (b : RegistrationState). owner_of b.owners c.args.events.fd) (c.ctl.ensures.registrations ∙ c.in_ok-register.ensures.ok) ∙ ap owner_id (get_same s.owners c.args.events.fd (record { id = c.args.self.now.id; priority = c.args.priority }))

pub register-requires : goal.register-requires
register-requires g c = (is_vacant (registrations_of c.args.self.now.epoll.registrations) c.args.events.fd (sym c.in_ok-check_vacant.ensures)).0
