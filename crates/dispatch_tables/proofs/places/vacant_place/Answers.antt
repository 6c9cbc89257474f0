use Rattle.std.proofs.Common.{None, arith}
use Rattle.dispatch_tables.proofs.PlaceLemmas.{same_holders_push}
use Rattle.dispatch_tables.proofs.VacantPlaces.{linked_push}
use Rattle.dispatch_tables.proofs.places.vacant_place.Goals as goal

pub returns-clause-linked : goal.returns-clause-linked
returns-clause-linked g c =
    let linked = rw c.in_default.is at c.requires in
    rw c.in-Ok.ensures.items (linked_push c.args.places.now.items c.len-place.result (omega (arith, c.args.places.now.ok, c.len-place.ensures)) linked)

pub returns-clause-holders : goal.returns-clause-holders
returns-clause-holders g c = rw c.in-Ok.ensures.items (same_holders_push c.args.places.now.items None)
