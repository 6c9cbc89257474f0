use Rattle.vmm_sys.proofs.Marks.{found}
use Rattle.vmm_sys.proofs.table.number_set.first_group_from.Goals as goal

pub returns : goal.returns
returns c =
    found c.args.blocks.now c.args.groups.now c.requires c.args.group c.in_ok-block.block c.first_in_word.result c.in_default.ensures c.in_ok-block.ensures c.first_in_word.ensures
