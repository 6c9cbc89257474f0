use Rattle.std.proofs.Common.{lit<, rules}
use Rattle.std.proofs.lemmas.Str.Pattern.{split_once_first}
use Rattle.evloop_script.proofs.script.line.cut_at_colon.Goals as goal

pub returns : goal.returns
returns c = let parts = split_once_first 58 c.args.text.now c.split_once.result c.split_once.ensures.cases (lit< tt) in search rules
