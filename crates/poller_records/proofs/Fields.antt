-- The fields of a line: no space and no newline is in one.
use Rattle.std.proofs.Common.{ℕ, ℤ, pos, negsuc, suc, ◌≡◌, ◌≢◌, ◌<◌, ◌^◌, ◌==◌, nat_lt, true, false, List}
use Rattle.std.proofs.Common.{[], ◌∷◌, length, get_or, Result, Ok, Err, IfOk, FitsSigned, ap, arith, refl, ◌∙◌, lit<, codes}
use Rattle.std.specs.Fmt.{decimal, signed_decimal}
use Rattle.std.specs.Int.{w32}
use Rattle.std.specs.List.{All, AllByRecursion, list_all, slice_split, join_with_byte}
use Rattle.std.specs.Str.Parse.{AllDigits}
use Rattle.std.proofs.lemmas.List.Elements.{All-append, All-cons, All-nil, All-weaker}
use Rattle.std.proofs.lemmas.List.Splits.{slice_split_at, slice_split_none}
use Rattle.std.proofs.lemmas.List.Sums.{AllPass-from_list_all}
use Rattle.std.proofs.lemmas.Str.Parse.{digit_from_value}
use Rattle.std.proofs.lemmas.Fmt.{decimal_is_IsNumeral}
use Rattle.std.proofs.lemmas.Bool.Decides.{Decides-ltb, Decides-eqb}
use Rattle.std.proofs.lemmas.Bool.{false_from_ne_true}
use Rattle.vmm_sys.specs.declared.entries.ControlOperation.{ControlOperation}
use Rattle.vmm_sys.specs.declared.entries.ControlOperation.TheVariants.{Add, Modify, Delete}
use Rattle.vmm_sys.specs.declared.errno.Errno.{Errno}
use Rattle.poller_records.specs.declared.record.RecordEntry.{RecordEntry}
use Rattle.poller_records.specs.declared.record.RecordEntry.TheVariants.{Control, Wait, Reported}
use Rattle.poller_records.specs.Held.{IsEntry, HasErrno}
use Rattle.poller_records.specs.Lines.{operation_word, control_answer, wait_answer, fields_of, line_of}

-- above the space
abbrev IsVisible : ℕ → Type 0
IsVisible byte = 32 < byte

abbrev IsField : List ℕ → Type 0
IsField bytes = All IsVisible bytes

abbrev AreFields : List (List ℕ) → Type 0
AreFields fields = AllByRecursion IsField fields

word : (bytes : List ℕ) → list_all (nat_lt 32) bytes ≡ true → IsField bytes
word bytes passes = All-weaker _ IsVisible (λ byte above. (Decides-ltb 32 byte).0 above) bytes (AllPass-from_list_all (nat_lt 32) bytes passes)

digits : (bytes : List ℕ) → AllDigits 10 bytes → IsField bytes
digits [] all = All-nil IsVisible
digits (c ∷ cs) all = All-cons IsVisible c cs (omega (arith, (digit_from_value c all.0).0)) (digits cs all.1)

natural : (n : ℕ) → n < 2 ^ 64 → IsField (decimal n)
natural n small = digits (decimal n) (decimal_is_IsNumeral n small).0.1

integer : (z : ℤ) → FitsSigned w32 z → IsField (signed_decimal z)
integer (pos n) fits = natural n (omega (arith, fits))
integer (negsuc n) fits = All-cons IsVisible 45 (decimal (suc n)) (lit< tt) (natural (suc n) (omega (arith, fits)))

operation : (op : ControlOperation) → IsField (operation_word op)
operation Add = word (operation_word Add) refl
operation Modify = word (operation_word Modify) refl
operation Delete = word (operation_word Delete) refl

of_control_answer : (answer : Result (Unit {0}) Errno) → HasErrno answer → AreFields (control_answer answer)
of_control_answer (Ok nothing) held = (word (codes "ok") refl, tt)
of_control_answer (Err error) held = (word (codes "error") refl, (integer error.0 held, tt))

of_wait_answer : (answer : Result ℕ Errno) → IfOk answer (λ count. count < 2 ^ 64) → HasErrno answer → AreFields (wait_answer answer)
of_wait_answer (Ok count) small held = (word (codes "ok") refl, (natural count small, tt))
of_wait_answer (Err error) small held = (word (codes "error") refl, (integer error.0 held, tt))

of_entry : (entry : RecordEntry) → IsEntry entry → AreFields (fields_of entry)
of_entry (Control op fd event answer) held =
    (operation op, (integer fd held.0, (natural _ (omega (arith, held.1.0)), (natural _ held.1.1, of_control_answer answer held.2))))
of_entry (Wait ms room answer) held =
    (word (codes "wait") refl, (integer ms held.0, (natural room held.1, of_wait_answer answer held.2 held.3)))
of_entry (Reported event) held = (word (codes "event") refl, (natural _ (omega (arith, held.0)), (natural _ held.1, tt)))

without_space : (bytes : List ℕ) → IsField bytes → All (λ byte. (byte == 32) ≡ false) bytes
without_space bytes all =
    let no_space = λ (byte : ℕ) (above : IsVisible byte).
    false_from_ne_true (byte == 32) (λ (same : (byte == 32) ≡ true). omega (arith, above, (Decides-eqb byte 32).0 same)) in
    All-weaker IsVisible (λ byte. (byte == 32) ≡ false) no_space bytes all

-- fields that are joined by spaces are cut there again
cut : (field : List ℕ) (fields : List (List ℕ)) → AreFields (field ∷ fields) →
    slice_split (λ byte. byte == 32) (join_with_byte 32 (field ∷ fields)) ≡ field ∷ fields
cut field [] all = slice_split_none _ field (without_space field all.0)
cut field (next ∷ fields) all =
    slice_split_at _ field 32 _ (without_space field all.0) refl ∙ ap (λ rest. field ∷ rest) (cut next fields all.1)

pub slice_split-line_of : (entry : RecordEntry) → IsEntry entry → slice_split (λ byte. byte == 32) (line_of entry) ≡ fields_of entry
slice_split-line_of (Control op fd event answer) held = cut _ _ (of_entry (Control op fd event answer) held)
slice_split-line_of (Wait ms room answer) held = cut _ _ (of_entry (Wait ms room answer) held)
slice_split-line_of (Reported event) held = cut _ _ (of_entry (Reported event) held)

-- none of a line's bytes is below the space
abbrev IsInLine : ℕ → Type 0
IsInLine byte = 31 < byte

in_line : (bytes : List ℕ) → IsField bytes → All IsInLine bytes
in_line bytes all = All-weaker IsVisible IsInLine (λ byte above. omega (arith, above)) bytes all

bytes_of : (fields : List (List ℕ)) → AreFields fields → All IsInLine (join_with_byte 32 fields)
bytes_of [] all = All-nil IsInLine
bytes_of (field ∷ []) all = in_line field all.0
bytes_of (field ∷ next ∷ fields) all =
    All-append IsInLine field _ (in_line field all.0) (All-cons IsInLine 32 _ (lit< tt) (bytes_of (next ∷ fields) all.1))

-- so there is no newline in it
pub no_newline : (entry : RecordEntry) → IsEntry entry → (i : ℕ) → i < length (line_of entry) → get_or (line_of entry) i 0 ≢ 10
no_newline entry held i within newline = omega (arith, bytes_of (fields_of entry) (of_entry entry held) i 0 within, newline)
