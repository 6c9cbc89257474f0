-- What the lines of a script make of a manager.
use Rattle.std.specs.Prelude.{◌≡◌, ◌⊎◌, ℕ, ℤ, negsuc, List, [], ◌∷◌, ◌++◌, Option, Some, None, Result, Ok, Err, IsErr, MatchResult, Vec, slice_get, map}
use Rattle.std.specs.Io.KnownBytes.{Appends}
use Rattle.std.specs.List.{zip}
use Rattle.std.specs.Option.{option_flatten}
use Rattle.std.specs.Result.{result_ok}
use Rattle.std.specs.declared.alloc.Global.{Global}
use Rattle.event_manager.specs.declared.calls.Call.{Call}
use Rattle.event_manager.specs.declared.calls.Call.TheVariants as call
use Rattle.event_manager.specs.declared.calls.Reply.{Reply}
use Rattle.event_manager.specs.declared.calls.Reply.TheVariants as reply
use Rattle.event_manager.specs.Driven.{IsDriven}
use Rattle.event_manager.specs.Prelude.{Answer, LoopState, Controls, Waits, LoopStep}
use Rattle.event_manager.specs.Error.{Error}
use Rattle.event_manager.specs.Error.TheVariants.{InvalidId}
use Rattle.evloop_script.specs.Coming.{coming}
use Rattle.evloop_script.specs.Printed.{AppendsPart, Prints, PrintsReplies}
use Rattle.evloop_script.specs.Scripted.{script_begins, script_serves}
use Rattle.evloop_script.specs.declared.fault.Fault.{Fault}
use Rattle.evloop_script.specs.declared.fault.Fault.TheVariants.{OutOfMemory, CannotWrite}
use Rattle.evloop_script.specs.declared.output.OutputLine.TheVariants.{Joined, AskRefused, Left, Ran}
use Rattle.evloop_script.specs.declared.reactions.Reactions.{Reactions}
use Rattle.evloop_script.specs.declared.script.Call.TheVariants as line
use Rattle.evloop_script.specs.declared.script.Call as script
use Rattle.evloop_script.specs.declared.subscriber.Subscriber.{Subscriber}

-- how far a script has come: the ids of the joins so far, none where one was refused; the reactions of those to come; what the
-- output holds, where that is known
pub record Progress : Type 0 where
  pub ids : List (Option ℕ)
  pub reactions : List Reactions
  pub written : Option (List ℕ)

-- the next reactions are taken; none, where there are no more
abbrev pub TakesNext : List Reactions → Reactions → List Reactions → Type 0
TakesNext [] own later = ((fd : ℤ) → coming own.queues fd ≡ []) × (later ≡ [])
TakesNext (next ∷ others) own later = (own ≡ next) × (later ≡ others)

-- the joins are as before
abbrev pub KeepsJoins : Progress → Progress → Type 0
KeepsJoins at then = (then.ids ≡ at.ids) × (then.reactions ≡ at.reactions)

-- whether a call was refused, without what it gave
abbrev pub done_of : {A : Type 0} → Result A Error → Result (Unit {0}) Error
done_of (Ok value) = Ok tt
done_of (Err error) = Err error

-- of what was to be written, a first part is
abbrev pub WritesPart : Option (List ℕ) → Option (List ℕ) → Option (List ℕ) → Type 0
WritesPart before whole after = (bytes : List ℕ) × Appends before whole bytes × AppendsPart before after bytes

-- why a line is not made to its end
abbrev pub IsFaultOfLine : Fault → Type 0
IsFaultOfLine fault = (fault ≡ OutOfMemory) ⊎ (fault ≡ CannotWrite)

-- the calls that were made, each with its reply
abbrev pub Made : Type 0 → Type 0
Made O = List (Call (Subscriber O) × Reply (Subscriber O))

module _ {O : Type 0} where
  -- under the id of the join at a place one call was made; none where that join gave none
  abbrev pub IsMadeUnder : {A : Type 0} → Option ℕ → Result A Error → (ℕ → Call (Subscriber O) × Reply (Subscriber O)) → Made O → Type 0
  IsMadeUnder None answer one made = (made ≡ []) × (answer ≡ Err InvalidId)
  IsMadeUnder (Some id) answer one made = made ≡ one id ∷ []

  -- what one line makes and prints: a subscriber of the line's name, requests and reactions joins; requests, or a leave, under the id of
  -- that join; one run without a limit. Each prints its answer, or, where requests are agreed to, the answer to each of them
  abbrev pub Makes : Progress → script.Call → Made O → Progress → Type 0
  Makes at (line.Join name requests) made then =
      (subscriber : Subscriber O) × (answer : Result ℕ Error) × (made ≡ (call.Add subscriber, reply.Added answer) ∷ []) × (then.ids ≡ at.ids ++ result_ok answer ∷ [])
      × (subscriber.name.now ≡ name.now) × (subscriber.first ≡ requests) × TakesNext at.reactions subscriber.reactions then.reactions × Prints at.written (Joined name answer) then.written
  Makes at (line.Ask name place requests) made then =
      (answer : Result (Vec Answer Global) Error) × IsMadeUnder (option_flatten (slice_get at.ids place)) answer (λ id. (call.Ask id requests, reply.Asked answer)) made
      × KeepsJoins at then
      × MatchResult answer (λ answers. PrintsReplies at.written name.now (zip requests.items answers.items) then.written) (λ error. Prints at.written (AskRefused name error) then.written)
  Makes at (line.Leave name place) made then =
      (answer : Result (Subscriber O) Error) × IsMadeUnder (option_flatten (slice_get at.ids place)) answer (λ id. (call.Remove id, reply.Removed answer)) made
      × KeepsJoins at then × Prints at.written (Left name (done_of answer)) then.written
  Makes at line.Run made then =
      (answer : Result ℕ Error) × (made ≡ (call.Run (negsuc 0), reply.Ran answer) ∷ []) × KeepsJoins at then × Prints at.written (Ran answer) then.written

  -- what lines make, one after another
  abbrev pub AreMade : Progress → List script.Call → Made O → Progress → Type 0
  AreMade at [] made then = (made ≡ []) × (then ≡ at)
  AreMade at (line ∷ lines) made then =
      (first : Made O) × (others : Made O) × (between : Progress) × (made ≡ first ++ others) × Makes at line first between × AreMade between lines others then

  -- a line is made, and a first part of what it prints is written
  abbrev pub MakesInPart : Progress → script.Call → Made O → Option (List ℕ) → Type 0
  MakesInPart at line made written = (then : Progress) × Makes at line made then × WritesPart at.written then.written written

  -- How a script ends of which these lines are left: with none. Or with a fault: as memory was refused before the next line was begun, or as
  -- that line was made, and a first part of what it prints is written.
  abbrev pub EndsAt : Progress → List script.Call → Result (Unit {0}) Fault → Made O → Option (List ℕ) → Type 0
  EndsAt at [] result made written = (result ≡ Ok tt) × (made ≡ []) × (written ≡ at.written)
  EndsAt at (line ∷ lines) result made written =
      ((result ≡ Err OutOfMemory) × (made ≡ []) × (written ≡ at.written)) ⊎ (IsErr result × MakesInPart at line made written)

  module _ {J R P : Type 0} (may : J → List (LoopStep (Subscriber O)) → R → Type 0) (controls : Controls P) (waits : Waits P) where
    -- these calls, as one list, were driven with these replies
    abbrev pub AreDriven : LoopState (Subscriber O) P → Made O → LoopState (Subscriber O) P → Type 0
    AreDriven before made after = IsDriven script_begins script_serves may controls waits before (map (λ m. m.0) made) (map (λ m. m.1) made) after

    -- a line was made and printed, or a fault came: memory was refused before its call, or a first part of what it prints is written
    abbrev pub IsLineRun : Progress → script.Call → Result (Unit {0}) Fault → Progress → LoopState (Subscriber O) P → LoopState (Subscriber O) P → Type 0
    IsLineRun at line result now before after =
        ((result ≡ Err OutOfMemory) × (now.written ≡ at.written) × (after ≡ before))
        ⊎ ((made : Made O) × (then : Progress) × Makes at line made then × AreDriven before made after
        × MatchResult result (λ done. then ≡ now) (λ fault. WritesPart at.written then.written now.written))

    -- The first lines of a script were made and printed, and what is left ends it. What they made was driven as one list.
    pub record IsRun (at : Progress) (lines : List script.Call) (result : Result (Unit {0}) Fault) (written : Option (List ℕ)) (before after : LoopState (Subscriber O) P) : Type 0 where
      pub first : List script.Call
      pub left : List script.Call
      pub lines_are : lines ≡ first ++ left
      pub made : Made O
      pub then : Progress
      pub are_made : AreMade at first made then
      pub last : Made O
      pub ends : EndsAt then left result last written
      pub driven : AreDriven before (made ++ last) after
