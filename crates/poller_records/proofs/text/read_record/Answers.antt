use Rattle.std.proofs.Common.{◌≡◌, ◌+◌, List, sym, ◌∙◌, rules, subst, MatchResult, IfErr, IfSome}
use Rattle.std.proofs.lemmas.Result.{err_from_is_err_and}
use Rattle.poller_records.specs.declared.record.RecordEntry.{RecordEntry}
use Rattle.poller_records.specs.BadLine.{bad_line, IsFirstBad}
use Rattle.poller_records.specs.declared.fault.RecordFault.TheVariants.{OutOfMemory}
use Rattle.poller_records.specs.declared.fault.RecordFault.{RecordFault}
use Rattle.poller_records.proofs.Reading.{IsRead, is_left, is_done, first_bad, read_more, not_written, all_read, named, is_memory, bad_end, bad_front}
use Rattle.poller_records.proofs.text.read_record.Goals as goal

pub returns-in_default-clause-written : goal.returns-in_default-clause-written
returns-in_default-clause-written c all held is =
    let more = is_left c.loop-rest.rest.now c.is_empty.result c.is_empty.ensures c.loop-rest-test.true in
    let bad = bad_end c.loop-rest.rest.now c.split_once.result c.split_once.ensures.cases c.in_default.is in
    absurd (not_written _ _ _ c.loop-rest.invariant.0 more bad all held is)

pub returns-in_default-clause-bad : goal.returns-in_default-clause-bad
returns-in_default-clause-bad c =
    let more = is_left c.loop-rest.rest.now c.is_empty.result c.is_empty.ensures c.loop-rest-test.true in
    let bad = bad_end c.loop-rest.rest.now c.split_once.result c.split_once.ensures.cases c.in_default.is in
    first_bad _ _ _ _ c.loop-rest.invariant.0 (c.len-number.ensures ∙ c.loop-rest.entries.ok.0) more bad

pub returns-in_err-read-clause-written : goal.returns-in_err-read-clause-written
returns-in_err-read-clause-written c all held is =
    let more = is_left c.loop-rest.rest.now c.is_empty.result c.is_empty.ensures c.loop-rest-test.true in
    let front = bad_front c.loop-rest.rest.now c.split_once.result _ c.split_once.ensures.cases c.in-Some.is in
    let memory = is_memory c.in_err-read.field-0.0 (λ no_memory. not_written _ _ _ c.loop-rest.invariant.0 more
    (front (λ entry held is. no_memory (c.in_err-read.ensures.written entry held is))) all held is) in
    let back = err_from_is_err_and c.from_residual.result c.from_residual.ensures.1 in
    subst (λ r. MatchResult r (λ read. read.items ≡ all) (λ fault. fault ≡ OutOfMemory)) (sym back.1) (back.2 ∙ memory)

pub returns-in_err-read-clause-bad : goal.returns-in_err-read-clause-bad
returns-in_err-read-clause-bad c =
    let more = is_left c.loop-rest.rest.now c.is_empty.result c.is_empty.ensures c.loop-rest-test.true in
    let front = bad_front c.loop-rest.rest.now c.split_once.result _ c.split_once.ensures.cases c.in-Some.is in
    let is_named = named c.args.text.now (c.len-number.result + 1) c.in_err-read.field-0.0 c.in_err-read.ensures.number
    (λ no_memory. first_bad _ _ _ _ c.loop-rest.invariant.0 (c.len-number.ensures ∙ c.loop-rest.entries.ok.0) more
    (front (λ entry held is. no_memory (c.in_err-read.ensures.written entry held is)))) in
    let back = err_from_is_err_and c.from_residual.result c.from_residual.ensures.1 in
    let Named = λ (fault : RecordFault). IfSome (bad_line fault) (λ number. IsFirstBad c.args.text.now number) in
    subst (λ r. IfErr r Named) (sym back.1) (subst Named (sym back.2) is_named)

pub loop-rest-preserved : goal.loop-rest-preserved
loop-rest-preserved c =
    let more = is_left c.loop-rest.rest.now c.is_empty.result c.is_empty.ensures c.loop-rest-test.true in
    let next = read_more _ _ _ c.in_ok-read.read c.split_once.result _ c.loop-rest.invariant.0 more
    c.split_once.ensures.cases c.in-Some.is c.in_ok-read.ensures.held c.in_ok-read.ensures.read c.in_ok-read.ensures.written in
    (rw (c.push_reserved.ensures.items, c.reserve.ensures.items) next, search rules)

pub returns-clause-written : goal.returns-clause-written
returns-clause-written c all held is =
    all_read _ _ _ c.loop-rest.invariant.0 (is_done c.loop-rest.rest.now c.is_empty.result c.is_empty.ensures c.loop-rest-test.false) all held is
