use Rattle.vmm_sys.proofs.Prelude.{◌≡◌, ◌<◌, ◌++◌, sym, subst, arith, None, ◌∷◌, [], ℕ, length_push, InterestsState, Holds}
use Rattle.vmm_sys.proofs.Slots.{in-slots-grown, holds-below}
use Rattle.vmm_sys.proofs.Held.{slot-grown}
use Rattle.vmm_sys.proofs.table.interests.Interests.make_room.Goals as goal

pub returns-in_err-reserve-clause-below : goal.returns-in_err-reserve-clause-below
returns-in_err-reserve-clause-below c = subst (λ (v : InterestsState). (s n : ℕ) → Holds v.slots s n → n < v.room) c.self.view_is (holds-below c.self.inside.places.items c.self.inside.slots.items c.self.invariant.0)

pub returns-in_err-make_room-clause-below : goal.returns-in_err-make_room-clause-below
returns-in_err-make_room-clause-below c = subst (λ (v : InterestsState). (s n : ℕ) → Holds v.slots s n → n < v.room) c.self.view_is (holds-below c.self.inside.places.items c.self.inside.slots.items c.self.invariant.0)

pub returns-in_err-push-clause-below : goal.returns-in_err-push-clause-below
returns-in_err-push-clause-below c = subst (λ (v : InterestsState). (s n : ℕ) → Holds v.slots s n → n < v.room) c.self.view_is (holds-below c.self.inside.places.items c.self.inside.slots.items c.self.invariant.0)

pub returns-clause-below : goal.returns-clause-below
returns-clause-below c = subst (λ (v : InterestsState). (s n : ℕ) → Holds v.slots s n → n < v.room) c.self.view_is (holds-below c.self.inside.places.items c.self.inside.slots.items c.self.invariant.0)

pub invariant_of-self-2 : goal.invariant_of-self-2
invariant_of-self-2 c =
    let places = c.self.inside.places.items in
    let grown : c.push.new.self.items ≡ places ++ None ∷ [] = c.in_ok-push.ensures.items in
    let kept = in-slots-grown places c.self.inside.slots.items (slot-grown places) c.self.invariant.0 in
    let room = c.self.invariant.1 in
    let used = room.used in
    let more = length_push places None in
    let below = subst (λ (s : InterestsState). s.room < 2147483648) (sym c.self.view_is) c.requires in
    let len = c.len.ensures in
    let len2 = c.len-2.ensures in
    let ok = c.self.inside.places.ok.0 in
    let ok2 = c.self.inside.slots.ok.0 in
    let capacity = c.in_ok-reserve.ensures.ok in
    let length = c.in_ok-reserve.ensures.len in
    let marks = c.in_ok-make_room.ensures.room in (
      rw (grown, c.in_ok-reserve.ensures.items) kept,
      rw (grown, c.in_ok-reserve.ensures.items) (record { descriptors = omega arith; slots = omega arith; marks = omega arith; used = omega arith }),
    )
