use Rattle.std.proofs.Common.{rules}
use Rattle.vmm_sys.specs.Table.{Answers, ctl_of}
use Rattle.vmm_sys.proofs.Service.{moves_forward-ctl}
use Rattle.vmm_sys.proofs.table.Table.ctl.Goals as goal

pub returns-clause-forward : goal.returns-clause-forward
returns-clause-forward c =
    let answer : Answers (ctl_of c.args.self.now c.args.op c.args.fd c.args.event) c.args.self.now c.change.result c.change.new.self = search rules in
    moves_forward-ctl c.args.self.now c.change.new.self c.args.op c.args.fd c.args.event c.change.result answer
