use Rattle.std.proofs.Common.{◌≡◌, refl, sym, true, Option, Some, None}
use Rattle.std.proofs.lemmas.Bool.{false≢true}
use Rattle.std.specs.Option.{is_some}
use Rattle.dispatch_tables.proofs.MapEntries.{none_of}
use Rattle.event_loop.proofs.registry.RegistrySubscriberOps.event_ops.Goals as goal

some_of : {A : Type 0} (o : Option A) → true ≡ is_some o → (x : A) × (o ≡ Some x)
some_of None e = absurd (false≢true (sym e))
some_of (Some x) e = (x, refl)

pub returns-in-Some : goal.returns-in-Some
returns-in-Some g c =
    let held = some_of _ (rw c.number-id.ensures at c.in-Some.ensures) in
    rw c.turn_to.ensures (
      (refl, (λ w e. refl), tt),
      record {
        lent = tt;
        found = record { same_id = c.number-id.ensures; registrations = refl; poller = refl; capacity = refl };
        held = held;
        lost = tt;
      },
    )

pub returns : goal.returns
returns g c =
    let absent = rw c.number-id.ensures at c.in_default.ensures in (
      (refl, (λ w e. absurd (false≢true e)), refl),
      record { lent = tt; found = tt; held = tt; lost = (refl, none_of _ (sym absent)) },
    )
