use Rattle.std.proofs.Common.{◌≡◌, length, refl, sym, ap, subst, ◌∙◌, inl, inr}
use Rattle.std.specs.List.{All, Contains}
use Rattle.std.proofs.lemmas.Bool.{eq-eqb}
use Rattle.std.proofs.lemmas.List.Elements.{Contains-append_left, Contains-append_right}
use Rattle.vmm_sys.specs.Poller.{reported}
use Rattle.vmm_sys.specs.ServiceBound.{Wait, Reports, after}
use Rattle.vmm_sys.specs.Table.{TableState, entry_of, is_of, wait_of}
use Rattle.vmm_sys_tests.proofs.Served.{Is, alone, left, reported_by_two, stands, waited}
use Rattle.vmm_sys_tests.proofs.by_laws.wait_twice.Goals as goal

pub returns-clause-served : goal.returns-clause-served
returns-clause-served c place i at ready below =
    let t = c.args.table.now in
    let n = i.descriptor in
    let room = length c.args.first.now in
    let only = alone (is_of n) t.interests place i (c.wait-answer.ensures.reachable.one_each n) at (eq-eqb n n refl) in
    elim (reported_by_two t i only.1 c.service_bound.ensures.forward c.service_bound.ensures.within_rooms place room (length c.args.second.now) only.0 ready below) [
      | inl r ↦ Contains-append_left _ _ _ (stands t i only.1 _ room _ _ _ c.wait-answer.ensures.answer c.wait-answer.ensures.entries r)
      | inr r ↦
          let u = c.wait-answer.new.self in
          let same = waited (Is (is_of n) i) t room only.1 in
          let u_is : after t (Wait room) ≡ u = sym (left (wait_of t room) t u _ c.wait-answer.ensures.answer) in
          let only_now = subst (λ (w : TableState). All (Is (is_of n) i) w.interests) u_is same.1 in
          let stood = stands u i only_now _ _ _ _ _ c.wait-next_answer.ensures.answer c.wait-next_answer.ensures.entries (subst (λ w. Reports n w (Wait (length c.args.second.now))) u_is r) in
          Contains-append_right _ _ _ (subst (λ sources. Contains (reported c.wait-next_answer.result c.wait-next_answer.new.buffer) (entry_of sources i)) (ap (λ (w : TableState). w.sources) (sym u_is) ∙ same.0) stood)
    ]
