use Rattle.vmm_sys.proofs.Prelude.{◌≤◌, ◌*◌, ◌∙◌, length, ap, sym, arith, append-nil}
use Rattle.vmm_sys.proofs.Marks.{below-grown, grown, length-longer, longer_or_same}
use Rattle.vmm_sys.proofs.table.number_set.NumberSet.make_room.Goals as goal

pub invariant_of-self-in_err-make_words-2 : goal.invariant_of-self-in_err-make_words-2
invariant_of-self-in_err-make_words-2 c =
    let s = c.self.inside in
    let tiers = c.self.invariant.0 in
    let blocks = c.in_ok-make_words.ensures.longer in
    let groups = c.in_err-make_words-2.ensures.refused in
    let longer = length-longer s.blocks c.make_words.new.self _ blocks in
    let room : length c.make_words-2.new.self ≤ 64 * length c.make_words.new.self = omega (arith, tiers.of_groups.room, ap length groups) in (
      record {
        of_numbers = tiers.of_numbers;
        of_words = rw groups tiers.of_words;
        of_groups = grown s.blocks s.groups tiers.of_groups c.make_words.new.self c.make_words-2.new.self _ 0 blocks (groups ∙ sym (append-nil s.groups)) room;
      },
      c.self.invariant.1,
    )

pub invariant_of-self-in_err-make_words-3 : goal.invariant_of-self-in_err-make_words-3
invariant_of-self-in_err-make_words-3 c =
    let s = c.self.inside in
    let tiers = c.self.invariant.0 in
    let blocks = c.in_ok-make_words.ensures.longer in
    let groups = c.in_ok-make_words-2.ensures.longer in
    let words = c.in_err-make_words-3.ensures.refused in
    let more_blocks = length-longer s.blocks c.make_words.new.self _ blocks in
    let more_groups = length-longer s.groups c.make_words-2.new.self _ groups in
    let groups_fit : length c.make_words-2.new.self ≤ 64 * length c.make_words.new.self = omega (arith, tiers.of_groups.room) in
    let words_fit : length c.make_words-3.new.self ≤ 64 * length c.make_words-2.new.self = omega (arith, tiers.of_words.room, ap length words) in (
      record {
        of_numbers = rw words tiers.of_numbers;
        of_words = grown s.groups s.words tiers.of_words c.make_words-2.new.self c.make_words-3.new.self _ 0 groups (words ∙ sym (append-nil s.words)) words_fit;
        of_groups = grown s.blocks s.groups tiers.of_groups c.make_words.new.self c.make_words-2.new.self _ _ blocks groups groups_fit;
      },
      c.self.invariant.1,
    )

pub invariant_of-self-2 : goal.invariant_of-self-2
invariant_of-self-2 c =
    let s = c.self.inside in
    let tiers = c.self.invariant.0 in
    let blocks = c.in_ok-make_words.ensures.longer in
    let groups = c.in_ok-make_words-2.ensures.longer in
    let words = c.in_ok-make_words-3.ensures.longer in
    let numbers = longer_or_same s.numbers c.make_words-4.new.self _ c.make_words-4.result c.make_words-4.ensures.longer c.make_words-4.ensures.refused in
    let more_blocks = length-longer s.blocks c.make_words.new.self _ blocks in
    let more_groups = length-longer s.groups c.make_words-2.new.self _ groups in
    let more_words = length-longer s.words c.make_words-3.new.self _ words in
    let more_numbers = length-longer s.numbers c.make_words-4.new.self numbers.0 numbers.2 in
    let few = numbers.1 in
    let groups_fit : length c.make_words-2.new.self ≤ 64 * length c.make_words.new.self = omega (arith, tiers.of_groups.room) in
    let words_fit : length c.make_words-3.new.self ≤ 64 * length c.make_words-2.new.self = omega (arith, tiers.of_words.room) in
    let numbers_fit : length c.make_words-4.new.self ≤ 64 * length c.make_words-3.new.self = omega (arith, tiers.of_numbers.room) in (
      record {
        of_numbers = grown s.words s.numbers tiers.of_numbers c.make_words-3.new.self c.make_words-4.new.self _ numbers.0 words numbers.2 numbers_fit;
        of_words = grown s.groups s.words tiers.of_words c.make_words-2.new.self c.make_words-3.new.self _ _ groups words words_fit;
        of_groups = grown s.blocks s.groups tiers.of_groups c.make_words.new.self c.make_words-2.new.self _ _ blocks groups groups_fit;
      },
      below-grown s.numbers c.make_words-4.new.self numbers.0 s.lowest numbers.2 c.self.invariant.1,
    )
