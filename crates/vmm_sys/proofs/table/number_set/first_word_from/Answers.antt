use Rattle.vmm_sys.proofs.Marks.{found}
use Rattle.vmm_sys.proofs.table.number_set.first_word_from.Goals as goal

pub returns : goal.returns
returns c =
    found c.args.groups.now c.args.words.now c.requires.groups c.args.word c.in_ok-group.group c.first_in_word.result c.in_default.ensures c.in_ok-group.ensures c.first_in_word.ensures
