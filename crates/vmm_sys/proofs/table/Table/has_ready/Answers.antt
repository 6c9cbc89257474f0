use Rattle.vmm_sys.proofs.Prelude.{◌≡◌, ◌∙◌, ap, sym, subst, false, length, ltb, find, is_some}
use Rattle.vmm_sys.specs.Table.{TableState, is_ready}
use Rattle.vmm_sys.proofs.FirstReady.{passes_by, none_passes}
use Rattle.vmm_sys.proofs.table.Table.has_ready.Goals as goal

pub returns-in-Some : goal.returns-in-Some
returns-in-Some c =
    let inside = c.self.inside in
    let found = passes_by (is_ready inside.sources.items) inside.interests c.self.invariant.2 c.in-Some.slot c.in-Some.ensures in
    ap (λ n. ltb c.in-Some.slot n) c.end.ensures ∙ subst (λ (t : TableState). ltb c.in-Some.slot (length inside.interests.slots) ≡ is_some (find (is_ready t.sources) t.interests)) c.self.view_is found

pub returns-in-None : goal.returns-in-None
returns-in-None c =
    let inside = c.self.inside in
    let none = none_passes (is_ready inside.sources.items) inside.interests c.self.invariant.2 c.in-None.ensures in
    sym (subst (λ (t : TableState). is_some (find (is_ready t.sources) t.interests) ≡ false) c.self.view_is none)
