-- How a text is read, line by line.
use Rattle.std.proofs.Common.{ℕ, ◌≡◌, ◌≢◌, ◌+◌, List, [], ◌∷◌, ◌++◌, length, Option, Some, None, IfSome, Bor}
use Rattle.std.proofs.Common.{sym, ap, arith, refl, ◌∙◌, lit<, append_assoc, append-nil, length-append, subst, Bool, true, false, true≢false, ◌==◌}
use Rattle.std.specs.List.{All}
use Rattle.std.specs.Option.{MatchOption}
use Rattle.std.proofs.lemmas.Bool.Decides.{Decides-eqb}
use Rattle.std.proofs.lemmas.List.{nil_from_length}
use Rattle.std.proofs.lemmas.List.Elements.{All-head, All-push, All-tail}
use Rattle.std.proofs.lemmas.List.Concat.{flat_map-append}
use Rattle.std.proofs.lemmas.Option.{MatchOption-at_some, MatchOption-at_none}
use Rattle.std.proofs.lemmas.Str.Pattern.{IsSplitOnceResult, split_after, split_parts}
use Rattle.poller_records.specs.declared.record.RecordEntry.{RecordEntry}
use Rattle.poller_records.specs.BadLine.{bad_line, IsFirstBad}
use Rattle.poller_records.specs.Held.{IsEntry}
use Rattle.poller_records.specs.Lines.{line_of, text_of}
use Rattle.poller_records.specs.declared.fault.RecordFault.{RecordFault}
use Rattle.poller_records.specs.declared.fault.RecordFault.TheVariants.{BadLine, OutOfMemory}
use Rattle.poller_records.proofs.Fields.{no_newline}

-- what stands before and behind the first newline
abbrev Parts : Type 0
Parts = Bor (List ℕ) × Bor (List ℕ)

-- a text of entries that has these entries in front has the text of others behind them
abbrev pub GoesOn : List ℕ → List RecordEntry → List ℕ → Type 0
GoesOn text before rest = (all : List RecordEntry) → All IsEntry all → text ≡ text_of all →
    (more : List RecordEntry) × All IsEntry more × (all ≡ before ++ more) × (rest ≡ text_of more)

-- what is read so far, and what is left of the text
pub record IsRead (text : List ℕ) (before : List RecordEntry) (rest : List ℕ) : Type 0 where
  pub held : All IsEntry before
  pub split : text ≡ text_of before ++ rest
  pub goes_on : GoesOn text before rest

-- no line of an entry is in front
abbrev pub HasNoLine : List ℕ → Type 0
HasNoLine rest = (entry : RecordEntry) (behind : List ℕ) → IsEntry entry → rest ≢ line_of entry ++ 10 ∷ behind

-- the answer of is_empty
pub is_left : (rest : List ℕ) (empty : Bool) → empty ≡ (length rest == 0) → empty ≡ false → rest ≢ []
is_left rest empty answer not_empty nothing = true≢false (ap (λ rest. length rest == 0) (sym nothing) ∙ sym answer ∙ not_empty)

pub is_done : (rest : List ℕ) (empty : Bool) → empty ≡ (length rest == 0) → empty ≡ true → rest ≡ []
is_done rest empty answer done = nil_from_length rest ((Decides-eqb (length rest) 0).0 (sym answer ∙ done))

-- the line in front is bad
pub first_bad : (text : List ℕ) (before : List RecordEntry) (rest : List ℕ) (count : ℕ) → IsRead text before rest → count ≡ length before →
    rest ≢ [] → HasNoLine rest → IsFirstBad text (count + 1)
first_bad text before rest count so_far counted more bad =
    record { before = before; held = so_far.held; rest = rest; split = so_far.split; count = ap (λ n. n + 1) (sym counted); more = more; bad = bad }

-- where a line of an entry is in front, it is what stands before the first newline
pub line_in_front : (rest : List ℕ) (cut : Option Parts) (entry : RecordEntry) (behind : List ℕ) →
    IsSplitOnceResult 10 rest cut → IsEntry entry → rest ≡ line_of entry ++ 10 ∷ behind →
    MatchOption cut ⊥ (λ parts. (parts.0.now ≡ line_of entry) × (parts.1.now ≡ behind))
line_in_front rest cut entry behind is_cut held is = split_after 10 rest (line_of entry) behind cut is_cut (lit< tt) is (no_newline entry held)

-- the line of an entry, and its newline
abbrev ended_line : RecordEntry → List ℕ
ended_line entry = line_of entry ++ 10 ∷ []

-- where no newline is left, no line is in front
pub bad_end : (rest : List ℕ) (cut : Option Parts) → IsSplitOnceResult 10 rest cut → cut ≡ None → HasNoLine rest
bad_end rest cut is_cut none entry behind held is = MatchOption-at_none _ _ none (line_in_front rest cut entry behind is_cut held is)

-- nor is one where what stands before the newline is no line
pub bad_front : (rest : List ℕ) (cut : Option Parts) (parts : Parts) → IsSplitOnceResult 10 rest cut → cut ≡ Some parts →
    ((entry : RecordEntry) → IsEntry entry → parts.0.now ≢ line_of entry) → HasNoLine rest
bad_front rest cut parts is_cut found not entry behind held is =
    not entry held (MatchOption-at_some _ _ parts found (line_in_front rest cut entry behind is_cut held is)).0

-- the text of one more entry
text_of-push : (before : List RecordEntry) (entry : RecordEntry) (behind : List ℕ) →
    text_of (before ++ entry ∷ []) ++ behind ≡ text_of before ++ (line_of entry ++ 10 ∷ behind)
text_of-push before entry behind = simp (flat_map-append ended_line before (entry ∷ []), append_assoc) refl

-- what is left of a text of entries begins with a line, if it isn't empty
record BeginsWith (all : List RecordEntry) (rest : List ℕ) : Type 0 where
  first : RecordEntry
  others : List RecordEntry
  is : all ≡ first ∷ others
  held : IsEntry first
  others_held : All IsEntry others
  split : rest ≡ line_of first ++ 10 ∷ text_of others

begins_with : (all : List RecordEntry) (rest : List ℕ) → All IsEntry all → rest ≡ text_of all → rest ≢ [] → BeginsWith all rest
begins_with [] rest held is more = absurd (more is)
begins_with (first ∷ others) rest held is more = record {
  first = first;
  others = others;
  is = refl;
  held = All-head IsEntry first others held;
  others_held = All-tail IsEntry first others held;
  split = is ∙ append_assoc (line_of first) (10 ∷ []) (text_of others);
}

-- one more entry is read
pub read_more : (text : List ℕ) (before : List RecordEntry) (rest : List ℕ) (entry : RecordEntry) (cut : Option Parts) (parts : Parts) →
    IsRead text before rest → rest ≢ [] → IsSplitOnceResult 10 rest cut → cut ≡ Some parts → IsEntry entry → parts.0.now ≡ line_of entry →
    ((other : RecordEntry) → IsEntry other → parts.0.now ≡ line_of other → entry ≡ other) →
    IsRead text (before ++ entry ∷ []) parts.1.now
read_more text before rest entry cut parts so_far more is_cut found held is only =
    record { held = All-push IsEntry before entry so_far.held held; split = so_far.split ∙ ap (λ rest. text_of before ++ rest) pieces ∙ sym (text_of-push before entry parts.1.now); goes_on = next } where
      pieces : rest ≡ line_of entry ++ 10 ∷ parts.1.now
      pieces = (MatchOption-at_some _ _ parts found (split_parts 10 rest cut is_cut (lit< tt))).0 ∙ ap (λ line. line ++ 10 ∷ parts.1.now) is

      next : GoesOn text (before ++ entry ∷ []) parts.1.now
      next all held all_is =
          let left = so_far.goes_on all held all_is in
          let begins = begins_with left.0 rest left.1 left.3 more in
          let same = MatchOption-at_some _ _ parts found (line_in_front rest cut begins.first (text_of begins.others) is_cut begins.held begins.split) in
          let entry_is = begins.is ∙ ap (λ first. first ∷ begins.others) (sym (only begins.first begins.held same.0)) in
          let all_are = left.2 ∙ ap (λ more. before ++ more) entry_is ∙ sym (append_assoc before (entry ∷ []) begins.others) in
          (begins.others, begins.others_held, all_are, same.1)

-- where no line is in front, the text is none of entries
pub not_written : (text : List ℕ) (before : List RecordEntry) (rest : List ℕ) → IsRead text before rest → rest ≢ [] →
    HasNoLine rest → (all : List RecordEntry) → All IsEntry all → text ≢ text_of all
not_written text before rest so_far more bad all held is =
    let left = so_far.goes_on all held is in
    let begins = begins_with left.0 rest left.1 left.3 more in
    bad begins.first (text_of begins.others) begins.held begins.split

none_left : (more : List RecordEntry) → text_of more ≡ [] → more ≡ []
none_left [] is = refl
none_left (entry ∷ more) is =
    absurd (omega (arith, sym (length-append (ended_line entry) (text_of more)) ∙ ap length is, length-append (line_of entry) (10 ∷ [])))

-- where all is read, these are the entries
pub all_read : (text : List ℕ) (before : List RecordEntry) (rest : List ℕ) → IsRead text before rest → rest ≡ [] → (all : List RecordEntry) →
    All IsEntry all → text ≡ text_of all → before ≡ all
all_read text before rest so_far done all held is =
    let left = so_far.goes_on all held is in
    sym (left.2 ∙ ap (λ more. before ++ more) (none_left left.0 (sym left.3 ∙ done)) ∙ append-nil before)

-- a fault names this line, unless memory was refused
pub named : (text : List ℕ) (number : ℕ) (fault : RecordFault) → IfSome (bad_line fault) (λ bad. bad ≡ number) →
    (fault ≢ OutOfMemory → IsFirstBad text number) → IfSome (bad_line fault) (λ bad. IsFirstBad text bad)
named text number (BadLine bad why) is first = subst (λ n. IsFirstBad text n) (sym is) (first (λ same. cc))
named text number OutOfMemory is first = tt

-- where it names none, memory was refused
pub is_memory : (fault : RecordFault) → (fault ≢ OutOfMemory → ⊥) → fault ≡ OutOfMemory
is_memory (BadLine bad why) not_named = absurd (not_named (λ same. cc))
is_memory OutOfMemory not_named = refl
