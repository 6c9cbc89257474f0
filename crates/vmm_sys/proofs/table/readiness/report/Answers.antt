use Rattle.vmm_sys.proofs.Prelude.{◌≡◌, ℕ, ◌<◌, ◌≤◌, ◌+◌, ◌-◌, ◌∙◌, ◌++◌, ap, sym, subst, refl, length, drop, map, held, InterestsState, IsMarked}
use Rattle.vmm_sys.specs.Table.{is_ready, entry_of, first_ready}
use Rattle.vmm_sys.proofs.InPlace.{StandLast, done_in_place}
use Rattle.vmm_sys.proofs.table.readiness.report.Goals as goal

stand-last : (c : goal.After-buffer-1) → StandLast (is_ready c.args.sources.now) c.args.interests.now c.in-Some.first
stand-last c = record {
  marks = c.requires;
  front = c.in-Some.ensures.first;
  ready = subst (λ (s : InterestsState). (n : ℕ) → c.in-Some.first ≤ n → n < length s.slots → IsMarked s.marks n) c.in-Some.ensures.unchanged (c.if-are_ready_from.ensures.marked refl);
}

few : (c : goal.After-buffer-1) → length c.args.interests.now.slots ≤ c.in-Some.first + length c.args.buffer.now
few c = subst (λ (s : InterestsState). length s.slots ≤ c.in-Some.first + length c.args.buffer.now) c.in-Some.ensures.unchanged (c.if-are_ready_from.ensures.few refl)

count : (c : goal.After-buffer-1) → c.report_from.result ≡ length c.args.interests.now.slots - c.in-Some.first
count c = c.report_from.ensures.count ∙ ap (λ (s : InterestsState). length s.slots - c.in-Some.first) c.in-Some.ensures.unchanged

entries : (c : goal.After-buffer-1) → c.report_from.new.buffer ≡ map (entry_of c.args.sources.now) (held (drop c.in-Some.first c.args.interests.now.slots)) ++ drop (length c.args.interests.now.slots - c.in-Some.first) c.args.buffer.now
entries c =
    c.report_from.ensures.entries ∙ ap (λ (s : InterestsState). map (entry_of c.args.sources.now) (held (drop c.in-Some.first s.slots)) ++ drop c.report_from.result c.args.buffer.now) c.in-Some.ensures.unchanged
    ∙ ap (λ n. map (entry_of c.args.sources.now) (held (drop c.in-Some.first c.args.interests.now.slots)) ++ drop n c.args.buffer.now) (count c)

pub returns-then-are_ready_from-clause-count : goal.returns-then-are_ready_from-clause-count
returns-then-are_ready_from-clause-count c = count c ∙ (done_in_place (stand-last c) (entry_of c.args.sources.now) c.args.buffer.now c.report_from.new.buffer (entries c) (few c)).0

pub returns-then-are_ready_from-clause-interests : goal.returns-then-are_ready_from-clause-interests
returns-then-are_ready_from-clause-interests c =
    ap (λ (s : InterestsState). held s.slots) c.in-Some.ensures.unchanged
    ∙ (done_in_place (stand-last c) (entry_of c.args.sources.now) c.args.buffer.now c.report_from.new.buffer (entries c) (few c)).1

pub returns-then-are_ready_from-clause-buffer : goal.returns-then-are_ready_from-clause-buffer
returns-then-are_ready_from-clause-buffer c =
    (done_in_place (stand-last c) (entry_of c.args.sources.now) c.args.buffer.now c.report_from.new.buffer (entries c) (few c)).2
    ∙ ap (λ n. map (entry_of c.args.sources.now) (first_ready c.args.sources.now (held c.args.interests.now.slots) (length c.args.buffer.now)) ++ drop n c.args.buffer.now) (sym (count c))
