use Rattle.vmm_sys.proofs.Prelude.{Ok, rules}
use Rattle.vmm_sys.specs.Table.{Answers, close_of}
use Rattle.vmm_sys.proofs.Service.{moves_forward-close}
use Rattle.vmm_sys.proofs.table.Table.close.Goals as goal

pub returns-clause-forward : goal.returns-clause-forward
returns-clause-forward c =
    let answer : Answers (close_of c.args.self.now c.args.fd) c.args.self.now (Ok tt) c.mark_closed.new.self = search rules in
    moves_forward-close c.args.self.now c.mark_closed.new.self c.args.fd (Ok tt) answer
