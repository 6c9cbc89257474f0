use Rattle.std.proofs.Common.{rules, length, ◌<◌, sym, subst}
use Rattle.std.specs.Prelude.{filter}
use Rattle.std.proofs.lemmas.List.Elements.{All-take, All-filter}
use Rattle.vmm_sys.specs.declared.table.interests.Interest.{Interest}
use Rattle.vmm_sys.specs.Table.{IsOpen, is_ready}
use Rattle.vmm_sys.specs.ServiceBound.{MovesForward, Wait}
use Rattle.vmm_sys.proofs.Service.{moves_forward-wait}
use Rattle.vmm_sys.proofs.table.Table.wait.Goals as goal

pub returns-clause-forward : goal.returns-clause-forward
returns-clause-forward c =
    let some : 0 < length c.args.buffer.now = search rules in
    subst (MovesForward c.args.self.now (Wait (length c.args.buffer.now))) (sym c.report_ready.ensures.moved) (moves_forward-wait c.args.self.now (length c.args.buffer.now) some)

pub returns-clause-open : goal.returns-clause-open
returns-clause-open c =
    let t = c.args.self.now in
    let is_open_there = λ (i : Interest). IsOpen t.sources i.descriptor in
    All-take is_open_there (length c.args.buffer.now) (filter (is_ready t.sources) t.interests) (All-filter (is_ready t.sources) is_open_there t.interests c.stays_reachable.ensures.descriptors)
