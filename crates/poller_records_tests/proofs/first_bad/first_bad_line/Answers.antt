use Rattle.std.proofs.Common.{rules}
use Rattle.poller_records_tests.proofs.first_bad.first_bad_line.Goals as goal

pub returns-in-Err-BadLine-clause-alone : goal.returns-in-Err-BadLine-clause-alone
returns-in-Err-BadLine-clause-alone c line bad = c.one_line_is_the_first_bad.ensures c.args.text.now line c.in-Err-BadLine.number bad (search rules)
