use Rattle.std.proofs.Common.{◌≡◌, false, rules}
use Rattle.vmm_sys.proofs.Marks.{same_set}
use Rattle.vmm_sys.proofs.table.interests.move_mark.Goals as goal

pub returns-else-contains-2-clause-unmarked : goal.returns-else-contains-2-clause-unmarked
returns-else-contains-2-clause-unmarked c = λ bare.
    let test : c.contains-else-contains.result ≡ false = search rules in
    same_set c.args.ready.now c.args.to c.contains-else-contains.result false c.contains-else-contains.ensures test
