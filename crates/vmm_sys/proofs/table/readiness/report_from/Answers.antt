use Rattle.vmm_sys.proofs.Prelude.{◌∙◌, ap, sym, arith, drop, set, map, ◌++◌, take_all, held}
use Rattle.vmm_sys.specs.Table.{entry_of}
use Rattle.vmm_sys.proofs.InPlace.{written, length_last}
use Rattle.vmm_sys.proofs.table.readiness.report_from.Goals as goal

pub loop-at-preserved : goal.loop-at-preserved
loop-at-preserved c =
    let slots = c.args.interests.now.slots in
    let at = c.loop-at.at in
    let end = c.end.ensures in
    let count = c.saturating_sub-count.ensures in
    let more = c.loop-at-test.true in
    let room = c.requires.room in
    ap (set c.loop-at.buffer at) c.entry_of.ensures
    ∙ written slots c.args.first c.requires.some (entry_of c.args.sources.now) at c.in-Some.interest c.args.buffer.now c.loop-at.buffer (sym c.interest_in.ensures ∙ c.in-Some.is) (omega arith) c.loop-at.invariant

pub returns-clause-entries : goal.returns-clause-entries
returns-clause-entries c =
    let slots = c.args.interests.now.slots in
    let is = held (drop c.args.first slots) in
    let end = c.end.ensures in
    let count = c.saturating_sub-count.ensures in
    let over = c.loop-at-test.false in
    let within = c.loop-at.auto.at-end in
    let len = length_last slots c.args.first c.requires.some in
    c.loop-at.invariant ∙ ap (λ l. map (entry_of c.args.sources.now) l ++ drop c.loop-at.at c.args.buffer.now) (take_all c.loop-at.at is (omega arith))
    ∙ ap (λ n. map (entry_of c.args.sources.now) is ++ drop n c.args.buffer.now) (omega arith)
