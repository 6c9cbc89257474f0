use Rattle.std.proofs.Common.{refl, subst, IsSome}
use Rattle.dispatch_tables.specs.declared.owners.Owner.{Owner}
use Rattle.dispatch_tables.proofs.OwnerMaps.{noted_in}
use Rattle.dispatch_tables.proofs.owners.set_index_in.Goals as goal

pub returns-in-Some : goal.returns-in-Some
returns-in-Some c =
    let owner = c.in-Some.owner.now in
    let noted : Owner = record { id = owner.id; place = owner.place; index = c.args.index; priority = owner.priority } in
    let held = subst (λ o. IsSome o) c.in-Some.ensures.value refl in
    noted_in c.args.high.now.entries (c.get_mut.follows.lender noted).entries c.args.fd owner noted c.in-Some.ensures.value refl ((c.get_mut.follows.holds noted).3 held).0
