use Rattle.vmm_sys.proofs.Prelude.{◌≡◌, ◌∙◌, ◌++◌, ap, sym, subst, arith, length, drop, map, set, inl, inr, true, false, Some, cases_lt, false≢true, get_or_from_slice_get, held, slot_at, passes}
use Rattle.vmm_sys.specs.Table.{is_ready, entry_of, first_ready, first_ready_last}
use Rattle.vmm_sys.proofs.Picks.{IsDone, done_by_room}
use Rattle.vmm_sys.proofs.Walked.{Walked-start, Walked-more, picked, stays_in_use, done_by_marks, done_by_all}
use Rattle.vmm_sys.proofs.table.readiness.report_and_move.Goals as goal

pub loop-count-init : goal.loop-count-init
loop-count-init c = Walked-start (is_ready c.args.sources.now) (entry_of c.args.sources.now) c.leave_unused.new.self c.args.buffer.now (c.leave_unused.ensures.marks (is_ready c.args.sources.now) c.requires)

pub loop-count-preserved : goal.loop-count-preserved
loop-count-preserved c =
    let p = is_ready c.args.sources.now in
    let h = c.loop-count.invariant in
    let end = c.end-end.ensures in
    let below = c.if-slot-end.false in
    let fits = c.min-room.ensures in
    let more = c.loop-count-test.true in
    let at : slot_at c.loop-count.interests.slots c.in-Some.slot ≡ Some c.in-Some-interest_in.interest = sym c.interest_in.ensures ∙ c.in-Some-interest_in.is in
    Walked-more h c.in-Some.slot c.in-Some-interest_in.interest c.in-Some.ensures (omega arith) at c.move_to_back.new.self _ (omega arith) c.move_to_back.ensures.slots c.move_to_back.ensures.room
    (c.move_to_back.ensures.marks p h.marks) (ap (set c.loop-count.buffer c.loop-count.count) c.entry_of.ensures)

-- none is marked any more

none-left : (c : goal.In_default) → IsDone (is_ready c.args.sources.now) (entry_of c.args.sources.now) (picked c.loop-count.invariant)
none-left c =
    let le = c.loop-count.auto.count-end in
    let fits = c.min-room.ensures in
    done_by_marks c.loop-count.invariant (omega arith) (λ s ge lt. c.in_default.ensures s ge)

pub returns-in_default-clause-count : goal.returns-in_default-clause-count
returns-in_default-clause-count c = subst (λ l. c.loop-count.count ≡ length (first_ready c.args.sources.now l (length c.args.buffer.now))) c.leave_unused.ensures.list (none-left c).0

pub returns-in_default-clause-interests : goal.returns-in_default-clause-interests
returns-in_default-clause-interests c = subst (λ l. held c.loop-count.interests.slots ≡ first_ready_last c.args.sources.now l (length c.args.buffer.now)) c.leave_unused.ensures.list (none-left c).1

pub returns-in_default-clause-buffer : goal.returns-in_default-clause-buffer
returns-in_default-clause-buffer c =
    subst (λ l. c.loop-count.buffer ≡ map (entry_of c.args.sources.now) (first_ready c.args.sources.now l (length c.args.buffer.now)) ++ drop c.loop-count.count c.args.buffer.now) c.leave_unused.ensures.list (none-left c).2

-- the first that is marked came to the back in this walk

none-below : (c : goal.Then-slot-end) → IsDone (is_ready c.args.sources.now) (entry_of c.args.sources.now) (picked c.loop-count.invariant)
none-below c =
    let le = c.loop-count.auto.count-end in
    let fits = c.min-room.ensures in
    let end = c.end-end.ensures in
    let over = c.if-slot-end.true in
    done_by_marks c.loop-count.invariant (omega arith) (λ s ge lt. c.in-Some.ensures.first s ge (omega arith))

pub returns-then-slot-end-clause-count : goal.returns-then-slot-end-clause-count
returns-then-slot-end-clause-count c = subst (λ l. c.loop-count.count ≡ length (first_ready c.args.sources.now l (length c.args.buffer.now))) c.leave_unused.ensures.list (none-below c).0

pub returns-then-slot-end-clause-interests : goal.returns-then-slot-end-clause-interests
returns-then-slot-end-clause-interests c = subst (λ l. held c.loop-count.interests.slots ≡ first_ready_last c.args.sources.now l (length c.args.buffer.now)) c.leave_unused.ensures.list (none-below c).1

pub returns-then-slot-end-clause-buffer : goal.returns-then-slot-end-clause-buffer
returns-then-slot-end-clause-buffer c =
    subst (λ l. c.loop-count.buffer ≡ map (entry_of c.args.sources.now) (first_ready c.args.sources.now l (length c.args.buffer.now)) ++ drop c.loop-count.count c.args.buffer.now) c.leave_unused.ensures.list (none-below c).2

-- a slot that is marked holds an interest

holds-one : (c : goal.In_default-interest_in) → ⊥
holds-one c =
    let p = is_ready c.args.sources.now in
    let slot = c.in-Some.slot in
    let none = ap (passes p) (sym c.interest_in.ensures ∙ c.in_default-interest_in.is) in
    let within = stays_in_use c.loop-count.invariant slot (omega arith) in
    false≢true (sym (c.loop-count.invariant.marks slot within ∙ none) ∙ get_or_from_slice_get c.loop-count.interests.marks slot true false c.in-Some.ensures.marked)

pub returns-in_default-interest_in-clause-count : goal.returns-in_default-interest_in-clause-count
returns-in_default-interest_in-clause-count c = absurd (holds-one c)

pub returns-in_default-interest_in-clause-interests : goal.returns-in_default-interest_in-clause-interests
returns-in_default-interest_in-clause-interests c = absurd (holds-one c)

pub returns-in_default-interest_in-clause-buffer : goal.returns-in_default-interest_in-clause-buffer
returns-in_default-interest_in-clause-buffer c = absurd (holds-one c)

-- the buffer is full, or all were moved

full : (c : goal.After-loop-count) → IsDone (is_ready c.args.sources.now) (entry_of c.args.sources.now) (picked c.loop-count.invariant)
full c =
    let le = c.loop-count.auto.count-end in
    let over = c.loop-count-test.false in
    let fits = c.min-room.ensures in
    let enough = c.room.ensures.enough in
    let same = ap length c.leave_unused.ensures.list in
    elim (cases_lt c.room.result (length c.args.buffer.now)) [
      | inl lt ↦ done_by_all c.loop-count.invariant (omega arith) (omega arith)
      | inr ge ↦ done_by_room (is_ready c.args.sources.now) (entry_of c.args.sources.now) (picked c.loop-count.invariant) (omega arith)
    ]

all-counted : (c : goal.After-loop-count) → c.loop-count.count ≡ c.min-room.result
all-counted c =
    let le = c.loop-count.auto.count-end in
    let over = c.loop-count-test.false in
    omega arith

pub returns-clause-count : goal.returns-clause-count
returns-clause-count c = sym (all-counted c) ∙ subst (λ l. c.loop-count.count ≡ length (first_ready c.args.sources.now l (length c.args.buffer.now))) c.leave_unused.ensures.list (full c).0

pub returns-clause-interests : goal.returns-clause-interests
returns-clause-interests c = subst (λ l. held c.loop-count.interests.slots ≡ first_ready_last c.args.sources.now l (length c.args.buffer.now)) c.leave_unused.ensures.list (full c).1

pub returns-clause-buffer : goal.returns-clause-buffer
returns-clause-buffer c =
    subst (λ n. c.loop-count.buffer ≡ map (entry_of c.args.sources.now) (first_ready c.args.sources.now (held c.args.interests.now.slots) (length c.args.buffer.now)) ++ drop n c.args.buffer.now) (all-counted c)
    (subst (λ l. c.loop-count.buffer ≡ map (entry_of c.args.sources.now) (first_ready c.args.sources.now l (length c.args.buffer.now)) ++ drop c.loop-count.count c.args.buffer.now) c.leave_unused.ensures.list (full c).2)
