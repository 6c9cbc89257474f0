use Rattle.vmm_sys.proofs.Prelude.{◌≡◌, false, refl, rules, subst, sym, held}
use Rattle.vmm_sys.specs.declared.entries.ControlOperation.TheVariants.{Add}
use Rattle.vmm_sys.specs.Table.{TableState, IsOpen, has_mode}
use Rattle.vmm_sys.proofs.Reachable.{reachable-add, reachable-modify, reachable-delete}
use Rattle.vmm_sys.proofs.Slots.{stands, no-place}
use Rattle.vmm_sys.proofs.table.Table.change.Goals as goal

pub invariant_of-self : goal.invariant_of-self
invariant_of-self c =
    let t : TableState = record { sources = c.self.inside.sources.items; interests = held c.self.inside.interests.slots; limit = c.self.inside.limit } in
    let i = c.args.interest in
    let there : IsOpen t.sources i.descriptor = subst (λ (s : TableState). IsOpen s.sources i.descriptor) (sym c.self.view_is) c.requires.open in
    let mode : has_mode Add i.event ≡ false = rw c.in-Add-None.is-0 at c.requires.without_mode in
    let none = no-place c.self.inside.interests.slots i.descriptor c.in-Add-None.ensures in
    (c.self.invariant.0, search rules, search rules, rw c.push_back.ensures.list (reachable-add t i c.self.invariant.3 there none mode), c.self.invariant.4, c.self.invariant.5, c.self.invariant.6)

pub invariant_of-self-in-Modify-Some : goal.invariant_of-self-in-Modify-Some
invariant_of-self-in-Modify-Some c =
    let t : TableState = record { sources = c.self.inside.sources.items; interests = held c.self.inside.interests.slots; limit = c.self.inside.limit } in
    let i = c.args.interest in
    let there : IsOpen t.sources i.descriptor = subst (λ (s : TableState). IsOpen s.sources i.descriptor) (sym c.self.view_is) c.requires.open in
    let mode : has_mode Add i.event ≡ false = rw c.in-Modify-Some.is-0 at c.requires.without_mode in
    let s = stands c.self.inside.interests.slots _ i.descriptor c.in-Modify-Some.ensures in
    (c.self.invariant.0, search rules, search rules, rw (c.modify.ensures.slots, s.1.replaced) (reachable-modify t i s.0 c.self.invariant.3 there s.1.place mode), c.self.invariant.4, c.self.invariant.5, c.self.invariant.6)

pub invariant_of-self-in-Delete-Some : goal.invariant_of-self-in-Delete-Some
invariant_of-self-in-Delete-Some c =
    let t : TableState = record { sources = c.self.inside.sources.items; interests = held c.self.inside.interests.slots; limit = c.self.inside.limit } in
    let s = stands c.self.inside.interests.slots _ c.args.interest.descriptor c.in-Delete-Some.ensures in
    (c.self.invariant.0, search rules, search rules, rw (c.remove.ensures.list, s.1.removed) (reachable-delete t c.args.interest s.0 c.self.invariant.3 s.1.place), c.self.invariant.4, c.self.invariant.5, c.self.invariant.6)

pub returns-in-Add-Some : goal.returns-in-Add-Some
returns-in-Add-Some c =
    let s = stands c.self.inside.interests.slots _ c.args.interest.descriptor c.in-Add-Some.ensures in
    rw (c.in-Add-Some.is-0, ← c.self.view_is, s.1.place) (refl, refl)

pub returns-in-Add-None : goal.returns-in-Add-None
returns-in-Add-None c =
    let none = no-place c.self.inside.interests.slots c.args.interest.descriptor c.in-Add-None.ensures in
    rw (c.in-Add-None.is-0, ← c.self.view_is, none) (refl, rw c.push_back.ensures.list refl)

pub returns-in-Modify-Some : goal.returns-in-Modify-Some
returns-in-Modify-Some c =
    let s = stands c.self.inside.interests.slots _ c.args.interest.descriptor c.in-Modify-Some.ensures in
    rw (c.in-Modify-Some.is-0, ← c.self.view_is, s.1.place) (refl, rw (c.modify.ensures.slots, s.1.replaced) refl)

pub returns-in-Delete-Some : goal.returns-in-Delete-Some
returns-in-Delete-Some c =
    let s = stands c.self.inside.interests.slots _ c.args.interest.descriptor c.in-Delete-Some.ensures in
    rw (c.in-Delete-Some.is-0, ← c.self.view_is, s.1.place) (refl, rw (c.remove.ensures.list, s.1.removed) refl)

pub returns-in-Modify-None : goal.returns-in-Modify-None
returns-in-Modify-None c =
    let none = no-place c.self.inside.interests.slots c.args.interest.descriptor c.in-Modify-None.ensures in
    rw (c.in-Modify-None.is-0, ← c.self.view_is, none) (refl, refl)

pub returns-in-Delete-None : goal.returns-in-Delete-None
returns-in-Delete-None c =
    let none = no-place c.self.inside.interests.slots c.args.interest.descriptor c.in-Delete-None.ensures in
    rw (c.in-Delete-None.is-0, ← c.self.view_is, none) (refl, refl)
