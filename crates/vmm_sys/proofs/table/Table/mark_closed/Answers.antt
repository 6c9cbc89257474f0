use Rattle.vmm_sys.proofs.Prelude.{◌≡◌, ◌<◌, arith, true, length, set, length-set, None, held, refl, sym, subst}
use Rattle.vmm_sys.specs.declared.table.source.Source.TheVariants.{Closed}
use Rattle.vmm_sys.specs.Table.{TableState, IsOpen, is_ready, place_of}
use Rattle.vmm_sys.proofs.ClosedNumbers.{open-within, marked-set}
use Rattle.vmm_sys.proofs.Reachable.{reachable-close}
use Rattle.vmm_sys.proofs.Readiness.{agree-set}
use Rattle.vmm_sys.proofs.SlotMarks.{fit-none}
use Rattle.vmm_sys.proofs.Slots.{none-held}
use Rattle.vmm_sys.proofs.table.Table.mark_closed.Goals as goal

pub invariant_of-self : goal.invariant_of-self
invariant_of-self c =
    let xs = c.self.inside.sources.items in
    let now = c.self.inside.interests in
    let n = c.args.number in
    let table : TableState = record { sources = xs; interests = held now.slots; limit = c.self.inside.limit } in
    let bare : place_of table n ≡ None = subst (λ (t : TableState). place_of t n ≡ None) (sym c.self.view_is) c.requires.without_interest in
    let within : n < length xs = open-within xs n (subst (λ (t : TableState). IsOpen t.sources n) (sym c.self.view_is) c.requires.open) in
    let room = c.self.invariant.5 in (
      c.self.invariant.0,
      rw length-set c.self.invariant.1,
      fit-none n (is_ready xs) (is_ready (set xs n Closed)) now.marks now.slots c.self.invariant.2 (agree-set xs n Closed) (none-held now.slots n bare),
      reachable-close table n c.self.invariant.3 bare,
      rw length-set c.self.invariant.4,
      rw (c.put.ensures, length-set, length-set) room,
      rw c.put.ensures (marked-set xs c.self.inside.closed c.self.invariant.6 n Closed true refl within (omega arith)),
    )
