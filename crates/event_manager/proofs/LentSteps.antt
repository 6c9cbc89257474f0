-- Requests through what `event_ops` lent, as a step of the lender.
use Rattle.std.proofs.Common.{◌≡◌, ℕ, List, sym, subst, refl, ◌∙◌, []}
use Rattle.event_loop.specs.Prelude.{Exchanges, ExchangesFit, Begins, PollerCall, Controls, Waits, Leads, HasId, Requested, LoopState, HasStepped, AreMadeThrough, StandsFor, with_ops}
use Rattle.event_loop.specs.RegistrationState.{registrations_of}
use Rattle.event_loop.specs.declared.ops.EventOps.{EventOps}
use Rattle.event_loop.proofs.ExchangeLemmas.{idle_fits}

module _ {S P : Type 0} {begins : Begins S} {controls : Controls P} {waits : Waits P} where
  pub lent_step : (before after : LoopState S P) (lent left : EventOps P) (id : ℕ) (value : S) (exchanges : Exchanges) (calls : List PollerCall)
      → StandsFor lent id before → HasId before.registry id value → AreMadeThrough controls waits lent left exchanges calls → after ≡ with_ops before left
      → HasStepped begins controls waits before (Requested id exchanges calls) after
  lent_step before after lent left id value exchanges calls stands has made is =
      let now = record (registrations_of left.epoll.registrations) { pending = [] } in
      let by_id = subst (λ i. ExchangesFit i (registrations_of lent.epoll.registrations) exchanges calls (registrations_of left.epoll.registrations)) stands.same_id made.made.fits in
      let idle = idle_fits id (registrations_of lent.epoll.registrations) exchanges calls (registrations_of left.epoll.registrations) by_id in
      let fits = subst (λ r. ExchangesFit id r exchanges calls now) stands.registrations idle in
      let led = subst (λ p. Leads controls waits p calls left.epoll.poller) stands.poller made.made.led in
      subst (λ s. HasStepped begins controls waits before (Requested id exchanges calls) s) (sym is)
      (record { stepped = (value, now, has, fits, refl); led = led; same_taken = refl; same_capacity = made.made.same_capacity ∙ stands.capacity })
