use Rattle.std.proofs.Common.{subst}
use Rattle.dispatch_tables.specs.Owners.{ownership_of, IsOwnerAt}
use Rattle.dispatch_tables.proofs.RaisedOwners.{owned_some, raised_some, counted_fewer, lost_none}
use Rattle.event_loop.proofs.descriptor_owners.disown.Goals as goal

pub overflow_sub-owned : goal.overflow_sub-owned
overflow_sub-owned c =
    let has = subst (λ o. IsOwnerAt c.args.owners.now c.args.fd o) c.in_ok-owner.was c.remove.ensures.value in
    owned_some c.args.owners.now c.args.owned.now c.args.raised.now c.requires c.args.fd (ownership_of c.in_ok-owner.owner) has

pub overflow_sub-raised : goal.overflow_sub-raised
overflow_sub-raised c =
    let has = subst (λ o. IsOwnerAt c.args.owners.now c.args.fd o) c.in_ok-owner.was c.remove.ensures.value in
    rw (c.from.ensures, c.is_raised.ensures) (raised_some c.args.owners.now c.args.owned.now c.args.raised.now c.requires c.args.fd (ownership_of c.in_ok-owner.owner) has)

pub returns-clause-counted : goal.returns-clause-counted
returns-clause-counted c =
    let has = subst (λ o. IsOwnerAt c.args.owners.now c.args.fd o) c.in_ok-owner.was c.remove.ensures.value in
    rw (c.remove.ensures.removed, c.from.ensures, c.is_raised.ensures) (counted_fewer c.args.owners.now c.args.owned.now c.args.raised.now c.requires c.args.fd (ownership_of c.in_ok-owner.owner) has)

pub returns-in_err-owner-clause-counted : goal.returns-in_err-owner-clause-counted
returns-in_err-owner-clause-counted c =
    let has = subst (λ o. IsOwnerAt c.args.owners.now c.args.fd o) c.in_err-owner.was c.remove.ensures.value in
    rw c.remove.ensures.removed (lost_none c.args.owners.now c.args.owned.now c.args.raised.now c.requires c.args.fd has)
