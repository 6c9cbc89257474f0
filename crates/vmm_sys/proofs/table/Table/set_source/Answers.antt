use Rattle.vmm_sys.proofs.Prelude.{◌≡◌, sym, subst, set, length, length-set, rules, refl, Some, slice_get, slice_get_read, held}
use Rattle.vmm_sys.specs.Table.{TableState, IsOpen, is_ready, state_of}
use Rattle.vmm_sys.proofs.ClosedNumbers.{open-within, marked-same}
use Rattle.vmm_sys.proofs.Reachable.{reachable-set}
use Rattle.vmm_sys.proofs.Readiness.{agree-set, same-state}
use Rattle.vmm_sys.proofs.SlotMarks.{fit-agree}
use Rattle.vmm_sys.proofs.table.Table.set_source.Goals as goal

pub invariant_of-self : goal.invariant_of-self
invariant_of-self c =
    let xs = c.self.inside.sources.items in
    let n = c.args.number in
    let source = c.args.source in
    let at : IsOpen xs n = subst (λ (s : TableState). IsOpen s.sources n) (sym c.self.view_is) c.requires.there in
    let fit = c.renew.ensures.marks (is_ready xs) c.self.invariant.2 (rw c.deref.ensures.value (agree-set xs n source)) in
    let reachable = reachable-set (record { sources = xs; interests = held c.self.inside.interests.slots; limit = c.self.inside.limit }) n source c.self.invariant.3 c.requires.value c.requires.open in (
      c.self.invariant.0,
      rw (length-set, c.renew.ensures.room) c.self.invariant.1,
      rw c.deref.ensures.value at fit,
      rw c.renew.ensures.slots reachable,
      rw length-set c.self.invariant.4,
      rw length-set c.self.invariant.5,
      marked-same xs c.self.inside.closed c.self.invariant.6 n source c.requires.open at,
    )

pub invariant_of-self-else-ne : goal.invariant_of-self-else-ne
invariant_of-self-else-ne c =
    let xs = c.self.inside.sources.items in
    let n = c.args.number in
    let source = c.args.source in
    let x = c.index.result.now in
    let is : IsOpen xs n = subst (λ (s : TableState). IsOpen s.sources n) (sym c.self.view_is) c.requires.there in
    let at : slice_get xs n ≡ Some x = slice_get_read xs (length xs) n x refl (open-within xs n is) c.index.ensures in
    let same : state_of source ≡ state_of x = search rules in (
      c.self.invariant.0,
      rw length-set c.self.invariant.1,
      fit-agree (is_ready xs) (is_ready (set xs n source)) c.self.inside.interests.marks c.self.inside.interests.slots c.self.invariant.2 (λ s i e. same-state xs n x source at same i),
      reachable-set (record { sources = xs; interests = held c.self.inside.interests.slots; limit = c.self.inside.limit }) n source c.self.invariant.3 c.requires.value c.requires.open,
      rw length-set c.self.invariant.4,
      rw length-set c.self.invariant.5,
      marked-same xs c.self.inside.closed c.self.invariant.6 n source c.requires.open is,
    )
