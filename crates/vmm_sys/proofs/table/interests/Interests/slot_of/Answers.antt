use Rattle.vmm_sys.proofs.Prelude.{◌<◌, length, sym, subst, None, MatchOption, get_or_read, InterestsState, NoneHolds, AloneHolds}
use Rattle.vmm_sys.proofs.Slots.{slot-of}
use Rattle.vmm_sys.proofs.table.interests.Interests.slot_of.Goals as goal

pub returns : goal.returns
returns c =
    let n = c.args.descriptor in
    let places = c.self.inside.places.items in
    let below : n < length places = subst (λ (s : InterestsState). n < s.room) (sym c.self.view_is) c.requires in
    let is = get_or_read places n c.index.result.now below c.index.ensures None in
    subst (λ (s : InterestsState). MatchOption c.index.result.now (NoneHolds s.slots n) (λ t. AloneHolds s.slots t n)) c.self.view_is (slot-of places c.self.inside.slots.items c.self.invariant.0 n c.index.result.now (sym is))
