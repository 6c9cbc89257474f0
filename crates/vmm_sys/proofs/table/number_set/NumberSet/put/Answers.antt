use Rattle.vmm_sys.proofs.Marks.{below-put}
use Rattle.vmm_sys.proofs.table.number_set.NumberSet.put.Goals as goal

pub invariant_of-self-then-not-put-2 : goal.invariant_of-self-then-not-put-2
invariant_of-self-then-not-put-2 c =
    let s = c.self.inside in
    let tiers = c.self.invariant.0 in (
      record {
        of_numbers = rw c.put-2.ensures.marks (c.put.ensures.above c.if-not-put.false s.words tiers.of_numbers);
        of_words = c.put-2.ensures.alone c.if-not-put-2.true s.groups tiers.of_words;
        of_groups = tiers.of_groups;
      },
      rw (c.put.ensures.marks, c.min-self-inside.ensures) (below-put s.numbers s.lowest c.args.number c.args.mark c.self.invariant.1),
    )

pub invariant_of-self-then-not-put-3 : goal.invariant_of-self-then-not-put-3
invariant_of-self-then-not-put-3 c =
    let s = c.self.inside in
    let tiers = c.self.invariant.0 in (
      record {
        of_numbers = rw c.put-2.ensures.marks (c.put.ensures.above c.if-not-put.false s.words tiers.of_numbers);
        of_words = rw c.put-3.ensures.marks (c.put-2.ensures.above c.if-not-put-2.false s.groups tiers.of_words);
        of_groups = c.put-3.ensures.alone c.if-not-put-3.true s.blocks tiers.of_groups;
      },
      rw (c.put.ensures.marks, c.min-self-inside.ensures) (below-put s.numbers s.lowest c.args.number c.args.mark c.self.invariant.1),
    )

pub invariant_of-self-2 : goal.invariant_of-self-2
invariant_of-self-2 c =
    let s = c.self.inside in
    let tiers = c.self.invariant.0 in (
      record {
        of_numbers = rw c.put-2.ensures.marks (c.put.ensures.above c.if-not-put.false s.words tiers.of_numbers);
        of_words = rw c.put-3.ensures.marks (c.put-2.ensures.above c.if-not-put-2.false s.groups tiers.of_words);
        of_groups = rw c.put-4.ensures.marks (c.put-3.ensures.above c.if-not-put-3.false s.blocks tiers.of_groups);
      },
      rw (c.put.ensures.marks, c.min-self-inside.ensures) (below-put s.numbers s.lowest c.args.number c.args.mark c.self.invariant.1),
    )
