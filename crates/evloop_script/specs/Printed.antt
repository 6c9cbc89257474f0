-- What lines print.
use Rattle.std.specs.Prelude.{◌≡◌, ℕ, List, [], ◌∷◌, ◌++◌, take, codes, Option, Some, None, MatchOption, Result, Ok, Err}
use Rattle.std.specs.Option.{IfSome}
use Rattle.std.specs.Fmt.{decimal}
use Rattle.std.specs.Io.KnownBytes.{Appends}
use Rattle.event_loop.specs.ErrorText.{error_text}
use Rattle.event_loop.specs.Exchange.{Answer, Exchanges, event_of}
use Rattle.event_loop.specs.declared.error.Error.{Error}
use Rattle.event_loop.specs.declared.events.Request.{Request}
use Rattle.event_loop.specs.declared.events.Request.TheVariants.{Add, AddWithPriority, Modify, Remove}
use Rattle.evloop_script.specs.declared.output.OutputLine.{OutputLine}
use Rattle.evloop_script.specs.declared.output.OutputLine.TheVariants.{Deliver, Reply, Joined, AskRefused, Left, Ran}
use Rattle.evloop_script.specs.declared.output.Printer.{Printer}

-- an id or a count, or the refusal
abbrev pub number_text : Result ℕ Error → List ℕ
number_text (Ok n) = decimal n
number_text (Err error) = error_text error

-- done, or the refusal
abbrev pub done_text : Result (Unit {0}) Error → List ℕ
done_text (Ok done) = codes "ok"
done_text (Err error) = error_text error

-- the word of a request, as a script has it
abbrev pub operation_text : Request → List ℕ
operation_text (Add event) = codes "add"
operation_text (AddWithPriority event priority) = codes "addp"
operation_text (Modify event) = codes "modify"
operation_text (Remove event) = codes "remove"

-- a request of a name, and its answer
abbrev pub reply_text : List ℕ → Request → Answer → List ℕ
reply_text name request answer =
    codes "reply " ++ (name ++ (codes " " ++ (operation_text request ++ (codes " " ++ (decimal (event_of request).fd ++ (codes ": " ++ done_text answer))))))

-- a line without its end; of a delivery nothing is said
abbrev pub line_text : OutputLine → Option (List ℕ)
line_text (Deliver name events) = None
line_text (Reply name request answer) = Some (reply_text name.now request answer)
line_text (Joined name answer) = Some (codes "sub " ++ (name.now ++ (codes ": " ++ number_text answer)))
line_text (AskRefused name error) = Some (codes "ask " ++ (name.now ++ (codes ": " ++ error_text error)))
line_text (Left name answer) = Some (codes "drop " ++ (name.now ++ (codes ": " ++ done_text answer)))
line_text (Ran answer) = Some (codes "run: " ++ number_text answer)

-- what a printer's output holds, where that is known
abbrev pub written_by : {O : Type 0} → (O → Option (List ℕ)) → Printer O → Option (List ℕ)
written_by contents printer = contents printer.out

-- what was written stays, and a first part of these bytes stands behind it
abbrev pub AppendsPart : Option (List ℕ) → Option (List ℕ) → List ℕ → Type 0
AppendsPart before after bytes = (count : ℕ) × Appends before after (take count bytes)

-- the line stands, whole and with its end, behind what was written
abbrev pub Prints : Option (List ℕ) → OutputLine → Option (List ℕ) → Type 0
Prints before line after = IfSome (line_text line) (λ text. Appends before after (text ++ 10 ∷ []))

-- what was written stays, and a first part of the line with its end stands behind it; of a delivery, some bytes
abbrev pub PrintsPart : Option (List ℕ) → OutputLine → Option (List ℕ) → Type 0
PrintsPart before line after =
    MatchOption (line_text line) ((bytes : List ℕ) × Appends before after bytes) (λ text. AppendsPart before after (text ++ 10 ∷ []))

-- the requests of a name are printed one after another, each with its answer; of a line that can't be written, a first part
abbrev pub PrintsReplies : Option (List ℕ) → List ℕ → Exchanges → Option (List ℕ) → Type 0
PrintsReplies before name [] after = after ≡ before
PrintsReplies before name (exchange ∷ exchanges) after =
    (between : Option (List ℕ)) × AppendsPart before between (reply_text name exchange.0 exchange.1 ++ 10 ∷ []) × PrintsReplies between name exchanges after
