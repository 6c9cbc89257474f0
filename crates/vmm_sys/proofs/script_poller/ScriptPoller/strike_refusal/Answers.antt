use Rattle.vmm_sys.proofs.Prelude.{◌≡◌, Some, None, get_or, refl, sym, ap, subst, position}
use Rattle.std.proofs.lemmas.Int.{to_z-of_z}
use mir.Syntax.{w32}
use Rattle.vmm_sys.specs.ScriptPoller.{Script, refuses, error_of}
use Rattle.vmm_sys.specs.declared.script_poller.Refusal.{Refusal}
use Rattle.vmm_sys.proofs.Firsts.{find-from_position, find-from_none}
use Rattle.vmm_sys.proofs.script_poller.ScriptPoller.strike_refusal.Goals as goal

pub returns-in-None : goal.returns-in-None
returns-in-None c =
    let e = subst (λ z. position (refuses c.args.op z) c.args.self.now.refusals ≡ None) (to_z-of_z w32 c.args.fd c.ranges.fd) (sym c.in-None.ensures.first) in
    let r = find-from_none (refuses c.args.op c.args.fd) c.args.self.now.refusals e in
    record { answer = rw r.0 refl; after = rw r.1 refl }

pub returns-in-Some : goal.returns-in-Some
returns-in-Some c =
    let e = subst (λ z. position (refuses c.args.op z) c.args.self.now.refusals ≡ Some c.in-Some.at) (to_z-of_z w32 c.args.fd c.ranges.fd) (sym c.in-Some.ensures.first) in
    let r = find-from_position (refuses c.args.op c.args.fd) c.args.self.now.refusals c.in-Some.at c.remove.result e in
    let v : c.self.inside.refusals.items ≡ c.args.self.now.refusals = ap (λ (s : Script). s.refusals) c.self.view_is in
    let x : c.remove.result ≡ get_or c.args.self.now.refusals c.in-Some.at c.remove.result = subst (λ l. c.remove.result ≡ get_or l c.in-Some.at c.remove.result) v c.remove.ensures.value in
    record { answer = rw r.0 (ap (λ (y : Refusal). error_of (Some y)) x); after = rw (r.1, c.remove.ensures.items, ← c.self.view_is) refl }
