use Rattle.std.proofs.Common.{rules, ◌≡◌, ◌∷◌, refl, sym, ◌∙◌, drop}
use Rattle.std.proofs.lemmas.Int.{to_z-of_z}
use denote.Enum.Bare.{same_true}
use mir.Syntax.{w32}
use Rattle.vmm_sys.specs.contracts.entries.ControlOperation.{the_type}
use Rattle.poller_records.specs.declared.record.RecordEntry.TheVariants.{Control}
use Rattle.poller_records.proofs.ReplayLemmas.{first-entry, same-event}
use Rattle.poller_records.proofs.replay_poller.recorded_ctl.Goals as goal

pub returns-then-eq-2-clause-found : goal.returns-then-eq-2-clause-found
returns-then-eq-2-clause-found c =
    let first = first-entry c.args.ahead.now c.in-Some-Control.ensures.value in
    let op : c.in-Some-Control.recorded_op ≡ c.args.op = same_true the_type (search rules) _ _ (sym c.if-eq.ensures) in
    let fd : c.in-Some-Control.recorded_fd ≡ c.args.fd = c.if-is_number.ensures.0 refl ∙ to_z-of_z w32 c.args.fd c.ranges.fd in
    let event : c.in-Some-Control.recorded_event ≡ c.args.event = same-event _ _ c.if-eq-2.ensures in
    let at : c.args.ahead.now ≡ Control c.args.op c.args.fd c.args.event c.in-Some-Control.answer ∷ drop 1 c.args.ahead.now =
    cc (first, c.in-Some-Control.field-0-is) in
    (drop 1 c.args.ahead.now, at)
