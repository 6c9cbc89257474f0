use Rattle.vmm_sys.proofs.Prelude.{◌≡◌, None, held, refl, rules, subst}
use Rattle.vmm_sys.specs.EventSet.{with_bits}
use Rattle.vmm_sys.specs.EpollEvent.{event}
use Rattle.vmm_sys.specs.Table.{TableState, place_of}
use Rattle.vmm_sys.proofs.Reachable.{reachable-delete}
use Rattle.vmm_sys.proofs.Slots.{stands, no-place, none-kept, none-left}
use Rattle.vmm_sys.proofs.table.Table.take_out.Goals as goal

pub invariant_of-self : goal.invariant_of-self
invariant_of-self c =
    let now = c.self.inside.interests in
    let t : TableState = record { sources = c.self.inside.sources.items; interests = held now.slots; limit = c.self.inside.limit } in
    let s = stands now.slots _ c.args.number c.in-Some.ensures in
    let reachable = reachable-delete t (record { descriptor = c.args.number; event = event (with_bits 0) 0 }) s.0 c.self.invariant.3 s.1.place in
    (c.self.invariant.0, search rules, search rules, rw (c.remove.ensures.list, s.1.removed) reachable, c.self.invariant.4, c.self.invariant.5, c.self.invariant.6)

pub returns-in-Some-clause-left : goal.returns-in-Some-clause-left
returns-in-Some-clause-left c =
    let s = stands c.self.inside.interests.slots _ c.args.number c.in-Some.ensures in
    rw (← c.self.view_is, s.1.place) (rw (c.remove.ensures.list, s.1.removed) refl)

pub returns-in-Some-clause-gone : goal.returns-in-Some-clause-gone
returns-in-Some-clause-gone c =
    let slots = c.self.inside.interests.slots in
    no-place c.remove.new.self.slots c.args.number (none-kept _ c.remove.new.self.slots c.args.number c.remove.ensures.list (none-left slots c.in-Some.slot c.args.number c.in-Some.ensures))

pub returns-in_default-clause-left : goal.returns-in_default-clause-left
returns-in_default-clause-left c =
    let none = no-place c.self.inside.interests.slots c.args.number c.in_default.ensures in
    rw (← c.self.view_is, none) refl

pub returns-in_default-clause-gone : goal.returns-in_default-clause-gone
returns-in_default-clause-gone c = subst (λ (t : TableState). place_of t c.args.number ≡ None) c.self.view_is (no-place c.self.inside.interests.slots c.args.number c.in_default.ensures)
