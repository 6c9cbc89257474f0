use Rattle.vmm_sys.proofs.Prelude.{◌≡◌, ◌∙◌, ℕ, ◌+◌, ◌≤◌, arith, rules, length, ◌++◌, ◌∷◌, [], false, replicate, length_push, held, NoneHolds}
use Rattle.vmm_sys.specs.Table.{is_ready}
use Rattle.vmm_sys.proofs.ClosedNumbers.{marked-push, same-marks}
use Rattle.vmm_sys.proofs.Reachable.{reachable-open}
use Rattle.vmm_sys.proofs.Readiness.{agree-push}
use Rattle.vmm_sys.proofs.SlotMarks.{fit-none, fit-marks}
use Rattle.vmm_sys.proofs.table.Table.open_next.Goals as goal

pub invariant_of-self-2 : goal.invariant_of-self-2
invariant_of-self-2 c =
    let xs = c.self.inside.sources.items in
    let old = c.self.inside.interests in
    let closed = c.self.inside.closed in
    let more_marks : (k : ℕ) × (c.make_room.new.self ≡ closed ++ replicate k false) = search rules in
    let marks : length xs + 1 ≤ length c.make_room.new.self = search rules in
    let below : length xs + 1 ≤ c.self.inside.limit = search rules in
    let room : c.make_room-2.new.self.room ≡ old.room + 1 = search rules in
    let grown : c.push_reserved.new.self.items ≡ xs ++ c.args.source ∷ [] = search rules in
    let is = c.self.invariant.1 in
    let none : NoneHolds old.slots (length xs) = λ s h. (let lt = c.make_room-2.ensures.below s (length xs) h in omega arith) in
    let more = length_push xs c.args.source in
    let fit = fit-none (length xs) (is_ready xs) (is_ready (xs ++ c.args.source ∷ [])) old.marks old.slots c.self.invariant.2 (agree-push xs c.args.source) none in
    let reachable = reachable-open (record { sources = xs; interests = held old.slots; limit = c.self.inside.limit }) c.args.source c.self.invariant.3 c.requires.value in (
      c.self.invariant.0,
      rw grown (omega arith),
      rw (grown, c.make_room-2.ensures.slots) (fit-marks (is_ready (xs ++ c.args.source ∷ [])) old.marks c.make_room-2.new.self.marks old.slots c.make_room-2.ensures.marks fit),
      rw (grown, c.make_room-2.ensures.slots) reachable,
      rw grown (omega arith),
      rw grown (omega arith),
      rw (grown, more_marks.1) (marked-push xs closed c.self.invariant.6 c.args.source (closed ++ replicate more_marks.0 false) c.requires.open (same-marks closed more_marks.0)),
    )

pub invariant_of-self-in_err-make_room-2 : goal.invariant_of-self-in_err-make_room-2
invariant_of-self-in_err-make_room-2 c =
    let xs = c.self.inside.sources.items in
    let old = c.self.inside.interests in
    let closed = c.self.inside.closed in
    let more_marks : (k : ℕ) × (c.make_room.new.self ≡ closed ++ replicate k false) = search rules in
    let marks : length xs ≤ length c.make_room.new.self = search rules in
    let room : c.make_room-2.new.self.room ≡ old.room = search rules in (
      c.self.invariant.0,
      rw c.reserve.ensures.items (search rules),
      rw (c.reserve.ensures.items, c.make_room-2.ensures.slots) (fit-marks (is_ready xs) old.marks c.make_room-2.new.self.marks old.slots c.make_room-2.ensures.marks c.self.invariant.2),
      rw (c.reserve.ensures.items, c.make_room-2.ensures.slots) c.self.invariant.3,
      rw c.reserve.ensures.items c.self.invariant.4,
      rw c.reserve.ensures.items (omega arith),
      rw (c.reserve.ensures.items, more_marks.1) (λ n. same-marks closed more_marks.0 n ∙ c.self.invariant.6 n),
    )
