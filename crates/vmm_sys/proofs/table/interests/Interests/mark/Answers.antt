use Rattle.vmm_sys.proofs.Prelude.{◌≡◌, refl, rules, set, subst, InterestsState}
use Rattle.vmm_sys.proofs.Marks.{same_set}
use Rattle.vmm_sys.proofs.table.interests.Interests.mark.Goals as goal

pub returns-then-contains-ready-clause-marked : goal.returns-then-contains-ready-clause-marked
returns-then-contains-ready-clause-marked c =
    let slot = c.args.slot in
    let ready = c.args.ready in
    let test : c.contains.result ≡ ready = search rules in
    let kept = same_set c.self.inside.ready slot c.contains.result ready c.contains.ensures test in
    subst (λ (s : InterestsState). s ≡ record { room = s.room; slots = s.slots; marks = set s.marks slot ready }) c.self.view_is (rw (← kept) refl)
