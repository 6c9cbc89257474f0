use Rattle.std.proofs.Common.{refl, sym, ap, []}
use Rattle.dispatch_tables.specs.Members.{Members}
use Rattle.event_loop.specs.Registry.{Left, Refused}
use Rattle.event_loop.specs.RegistrationState.{RegistrationState, registrations_of}
use Rattle.event_loop.specs.Dispatch.{with_pending}
use Rattle.event_loop.proofs.registry.Registry.leave.Goals as goal

pub returns-in-Some : goal.returns-in-Some
returns-in-Some g c =
    let released = c.release.ensures in
    let old = c.args.self.now in
    let members = c.in-Some.ensures.removed in
    let registrations = ap registrations_of released.freed in (
      Left c.args.id c.in-Some.subscriber released.calls,
      (released.calls, refl),
      record {
        stepped = (released.fds, sym c.in-Some.ensures.value, released.owned, released.deletes, λ k. record { values = (members k).by_id; next = (members k).next; registrations = record (registrations k) { pending = [] } });
        led = released.led;
        same_taken = refl;
        same_capacity = ap (λ (b : RegistrationState). b.capacity) released.freed;
      },
    )

pub returns-in-None : goal.returns-in-None
returns-in-None g c =
    let old = c.args.self.now in
    let same = ap (λ (members : Members _). with_pending [] (record { values = members.by_id; next = members.next; registrations = registrations_of old.ops.epoll.registrations })) c.in-None.ensures.absent in
    (Refused c.args.id, (refl, refl), record { stepped = (sym c.in-None.ensures.value, same); led = refl; same_taken = refl; same_capacity = refl })
