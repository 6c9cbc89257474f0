use Rattle.vmm_sys.proofs.Prelude.{◌≡◌, ◌<◌, arith, true, false, length, set, length-set, Some, position, slice_get, held, sym, subst}
use Rattle.vmm_sys.specs.Table.{TableState, first_closed, is_closed, is_ready}
use Rattle.vmm_sys.specs.ClosedNumbers.{was_closed}
use Rattle.vmm_sys.proofs.ClosedNumbers.{at-closed, closed-bare, closed-within, marked-set}
use Rattle.vmm_sys.proofs.Places.{At-from_position}
use Rattle.vmm_sys.proofs.Reachable.{reachable-set}
use Rattle.vmm_sys.proofs.Readiness.{agree-set}
use Rattle.vmm_sys.proofs.SlotMarks.{fit-none}
use Rattle.vmm_sys.proofs.Slots.{none-held}
use Rattle.vmm_sys.proofs.table.Table.open_again.Goals as goal

pub invariant_of-self : goal.invariant_of-self
invariant_of-self c =
    let xs = c.self.inside.sources.items in
    let now = c.self.inside.interests in
    let n = c.args.number in
    let source = c.args.source in
    let table : TableState = record { sources = xs; interests = held now.slots; limit = c.self.inside.limit } in
    let first : position is_closed xs ≡ Some n = subst (λ (t : TableState). first_closed t ≡ Some n) (sym c.self.view_is) c.requires.closed in
    let closed : was_closed (slice_get xs n) ≡ true = at-closed xs n (At-from_position is_closed xs n first) in
    let within : n < length xs = closed-within xs n closed in
    let room = c.self.invariant.5 in
    let none = none-held now.slots n (closed-bare xs (held now.slots) n c.self.invariant.3.descriptors closed) in (
      c.self.invariant.0,
      rw length-set c.self.invariant.1,
      fit-none n (is_ready xs) (is_ready (set xs n source)) now.marks now.slots c.self.invariant.2 (agree-set xs n source) none,
      reachable-set table n source c.self.invariant.3 c.requires.value c.requires.open,
      rw length-set c.self.invariant.4,
      rw (c.put.ensures, length-set, length-set) room,
      rw c.put.ensures (marked-set xs c.self.inside.closed c.self.invariant.6 n source false c.requires.open within (omega arith)),
    )
