-- A text has one first bad line at most.
use Rattle.std.proofs.Common.{ℕ, suc, ◌≡◌, ◌≢◌, ◌+◌, ◌<◌, ◌==◌, false, cond, List, [], ◌∷◌, ◌++◌, length, get_or, refl, sym, ap, ◌∙◌, arith, append_assoc}
use Rattle.std.specs.List.{All}
use Rattle.std.proofs.lemmas.Bool.{false_from_ne_true}
use Rattle.std.proofs.lemmas.Bool.Decides.{Decides-eqb}
use Rattle.std.proofs.lemmas.List.Elements.{All-head, All-tail}
use Rattle.poller_records.specs.declared.record.RecordEntry.{RecordEntry}
use Rattle.poller_records.specs.BadLine.{IsFirstBad}
use Rattle.poller_records.specs.Held.{IsEntry}
use Rattle.poller_records.specs.Lines.{line_of, text_of}
use Rattle.poller_records.proofs.Fields.{no_newline}
use Rattle.poller_records.proofs.Reading.{HasNoLine}

-- what stands behind the first newline
abbrev behind_newline : List ℕ → List ℕ
behind_newline [] = []
behind_newline (byte ∷ bytes) = cond (byte == 10) bytes (behind_newline bytes)

behind_line : (line rest : List ℕ) → ((i : ℕ) → i < length line → get_or line i 0 ≢ 10) → behind_newline (line ++ 10 ∷ rest) ≡ rest
behind_line [] rest none = refl
behind_line (byte ∷ line) rest none =
    let other : (byte == 10) ≡ false = false_from_ne_true (byte == 10) (λ same. none 0 (omega arith) ((Decides-eqb byte 10).0 same)) in
    rw other (behind_line line rest (λ i within. none (suc i) (omega (arith, within))))

front : (entry : RecordEntry) (entries : List RecordEntry) (rest : List ℕ) → text_of (entry ∷ entries) ++ rest ≡ line_of entry ++ 10 ∷ (text_of entries ++ rest)
front entry entries rest = append_assoc (line_of entry ++ 10 ∷ []) (text_of entries) rest ∙ append_assoc (line_of entry) (10 ∷ []) (text_of entries ++ rest)

as_many : (before others : List RecordEntry) (rest more : List ℕ) → All IsEntry before → All IsEntry others → text_of before ++ rest ≡ text_of others ++ more →
    HasNoLine rest → HasNoLine more → length before ≡ length others
as_many [] [] rest more held others_held same bad worse = refl
as_many [] (other ∷ others) rest more held others_held same bad worse =
    absurd (bad other (text_of others ++ more) (All-head IsEntry other others others_held) (same ∙ front other others more))
as_many (entry ∷ before) [] rest more held others_held same bad worse =
    absurd (worse entry (text_of before ++ rest) (All-head IsEntry entry before held) (sym same ∙ front entry before rest))
as_many (entry ∷ before) (other ∷ others) rest more held others_held same bad worse =
    let lines = sym (front entry before rest) ∙ same ∙ front other others more in
    let behind = sym (behind_line (line_of entry) (text_of before ++ rest) (no_newline entry (All-head IsEntry entry before held)))
    ∙ ap behind_newline lines ∙ behind_line (line_of other) (text_of others ++ more) (no_newline other (All-head IsEntry other others others_held)) in
    ap suc (as_many before others rest more (All-tail IsEntry entry before held) (All-tail IsEntry other others others_held) behind bad worse)

pub one_first_bad : (text : List ℕ) (one other : ℕ) → IsFirstBad text one → IsFirstBad text other → one ≡ other
one_first_bad text one other h k =
    sym h.count ∙ ap (λ n. n + 1) (as_many h.before k.before h.rest k.rest h.held k.held (sym h.split ∙ k.split) h.bad k.bad) ∙ k.count
