-- Lines that were made in a row are one list.
use Rattle.std.proofs.Common.{false, true, ◌≡◌, ℕ, List, [], ◌∷◌, ◌++◌, Option, Some, None, Ok, Err, Result, MatchOption, MatchResult, OnOk, IfSome, refl, sym, ap, subst, ◌∙◌, append_assoc, inl, inr}
use Rattle.std.proofs.lemmas.List.{append-nil, map-append}
use Rattle.std.specs.Result.{IsErr, IsErrAnd}
use Rattle.event_manager.specs.declared.calls.Call.{Call}
use Rattle.event_manager.specs.declared.calls.Reply.{Reply}
use Rattle.event_manager.specs.Prelude.{LoopState, Controls, Waits, LoopStep}
use Rattle.event_manager.specs.Error.{Error}
use Rattle.event_manager.specs.Error.TheVariants.{InvalidId}
use Rattle.std.specs.Io.KnownBytes.{Appends}
use Rattle.evloop_script.specs.Printed.{line_text, AppendsPart, Prints, PrintsPart}
use Rattle.evloop_script.specs.Scripted.{script_begins, script_serves}
use Rattle.evloop_script.specs.declared.fault.Fault.TheVariants.{OutOfMemory}
use Rattle.evloop_script.specs.declared.output.OutputLine.{OutputLine}
use Rattle.evloop_script.proofs.Written.{whole_part}
use Rattle.event_manager.proofs.TraceSoFar.{lists_join}
use Rattle.evloop_script.specs.declared.fault.Fault.{Fault}
use Rattle.evloop_script.specs.declared.reactions.Reactions.{Reactions}
use Rattle.evloop_script.specs.declared.script.Call as script
use Rattle.evloop_script.specs.declared.subscriber.Subscriber.{Subscriber}
use Rattle.evloop.specs.Lines.{Progress, WritesPart, Made, IsMadeUnder, Makes, AreMade, EndsAt, AreDriven, IsLineRun, IsRun}

pub on_fault : {A E : Type 0} (P Q : Type 0) (result : Result A E) → IsErr result → Q → MatchResult result (λ done. P) (λ fault. Q)
on_fault P Q (Ok value) is q = let s : false ≡ true = is in cc
on_fault P Q (Err error) is q = q

at_ok : {A E : Type 0} (P Q : Type 0) (value : A) (result : Result A E) → MatchResult result (λ done. P) (λ fault. Q) → result ≡ Ok value → P
at_ok P Q value (Ok other) p is = p
at_ok {A} {E} P Q value (Err error) q is = let s : ◌≡◌ {A = Result A E} (Err error) (Ok value) = is in cc

at_fault : {A E : Type 0} (P Q : Type 0) (result : Result A E) → MatchResult result (λ done. P) (λ fault. Q) → IsErr result → Q
at_fault P Q (Ok value) p is = let s : false ≡ true = is in cc
at_fault P Q (Err error) q is = q

not_both : {A E : Type 0} (result : Result A E) (value : A) (error : E) → result ≡ Err error → result ≡ Ok value → ⊥
not_both {A} {E} result value error is ok = let s : ◌≡◌ {A = Result A E} (Ok value) (Err error) = sym ok ∙ is in cc

at_error : {A E : Type 0} (result : Result A E) (error : E) → result ≡ Err error → IsErr result
at_error {A} {E} (Ok value) error is = let s : ◌≡◌ {A = Result A E} (Ok value) (Err error) = is in cc
at_error (Err other) error is = refl

-- the fault that `?` passes on
pub same_fault : {A B E : Type 0} (result : Result A E) (last : Result B E) (error : E) → result ≡ Err error → IsErrAnd last (λ e. e ≡ error) → (e : E) × (result ≡ Err e) × (last ≡ Err e)
same_fault result (Ok value) error is same = absurd same
same_fault {B = B} {E} result (Err other) error is same = (error, is, ap (λ (e : E). let r : Result B E = Err e in r) same)

part_of : (before after text : Option (List ℕ)) → MatchOption text ((bytes : List ℕ) × Appends before after bytes) (λ known. AppendsPart before after (known ++ 10 ∷ []))
    → (then : Option (List ℕ)) × IfSome text (λ known. Appends before then (known ++ 10 ∷ [])) × WritesPart before then after
part_of before after None part = (after, tt, (part.0, part.1, whole_part before after part.0 part.1))
part_of None after (Some known) part = (None, tt, (known ++ 10 ∷ [], tt, part))
part_of (Some held) after (Some known) part = (Some (held ++ (known ++ 10 ∷ [])), refl, (known ++ 10 ∷ [], refl, part))

-- a line of which a first part was printed
pub part_of_line : (before : Option (List ℕ)) (line : OutputLine) (after : Option (List ℕ)) → PrintsPart before line after → (then : Option (List ℕ)) × Prints before line then × WritesPart before then after
part_of_line before line after part = part_of before after (line_text line) part

whole_of : (before after text : Option (List ℕ)) → IfSome text (λ known. Appends before after (known ++ 10 ∷ [])) → MatchOption text ((bytes : List ℕ) × Appends before after bytes) (λ known. AppendsPart before after (known ++ 10 ∷ []))
    → WritesPart before after after
whole_of before after None is part = (part.0, part.1, whole_part before after part.0 part.1)
whole_of before after (Some known) is part = (known ++ 10 ∷ [], is, part)

-- a line that was printed whole
pub whole_line : (before : Option (List ℕ)) (line : OutputLine) (after : Option (List ℕ)) → Prints before line after → PrintsPart before line after → WritesPart before after after
whole_line before line after is part = whole_of before after (line_text line) is part

-- a line was printed, or a fault came
pub line_printed : (ids : List (Option ℕ)) (reactions : List Reactions) (result : Result (Unit {0}) Fault) (before : Option (List ℕ)) (line : OutputLine) (after : Option (List ℕ)) → OnOk result (Prints before line after) → PrintsPart before line after
    → (then : Option (List ℕ)) × Prints before line then
    × MatchResult result (λ done. ◌≡◌ {A = Progress} (record { ids = ids; reactions = reactions; written = then }) (record { ids = ids; reactions = reactions; written = after })) (λ fault. WritesPart before then after)
line_printed ids reactions (Ok done) before line after is part = (after, is, refl)
line_printed ids reactions (Err fault) before line after is part = part_of_line before line after part

module _ {O : Type 0} where
  -- under the id that a join gave
  pub made_under : {A : Type 0} {got : Option ℕ} (answer : Result A Error) (id : ℕ) (one : ℕ → Call (Subscriber O) × Reply (Subscriber O)) → got ≡ Some id → IsMadeUnder got answer one (one id ∷ [])
  made_under answer id one is = rw is refl

  pub unmade_under : (A : Type 0) {got : Option ℕ} (one : ℕ → Call (Subscriber O) × Reply (Subscriber O)) → got ≡ None → IsMadeUnder {A = A} got (Err InvalidId) one []
  unmade_under A one is = rw is (refl, refl)

  made_join : (at between then : Progress) (lines more : List script.Call) (made others : Made O) → AreMade at lines made between → AreMade between more others then → AreMade at (lines ++ more) (made ++ others) then
  made_join at between then [] more made others (none, same) is = subst (λ (m : Made O). AreMade at more (m ++ others) then) (sym none) (subst (λ p. AreMade p more others then) same is)
  made_join at between then (line ∷ lines) more made others (first, rest, next, are, makes, is) more_is =
      (first, rest ++ others, next, ap (λ m. m ++ others) are ∙ append_assoc first rest others, makes, made_join next between then lines more rest others is more_is)

  module _ {J R P : Type 0} (may : J → List (LoopStep (Subscriber O)) → R → Type 0) (controls : Controls P) (waits : Waits P) where
    -- the lines so far were made, and those that are left weren't
    pub record IsRunSoFar (at : Progress) (lines : List script.Call) (before : LoopState (Subscriber O) P) (left : List script.Call) (then : Progress) (now : LoopState (Subscriber O) P) : Type 0 where
      pub first : List script.Call
      pub lines_are : lines ≡ first ++ left
      pub made : Made O
      pub are_made : AreMade at first made then
      pub driven : AreDriven may controls waits before made now

    driven_join : (before now after : LoopState (Subscriber O) P) (made more : Made O) → AreDriven may controls waits before made now → AreDriven may controls waits now more after → AreDriven may controls waits before (made ++ more) after
    driven_join before now after made more first then =
        rw (map-append (λ (m : Call (Subscriber O) × Reply (Subscriber O)). m.0) made more, map-append (λ (m : Call (Subscriber O) × Reply (Subscriber O)). m.1) made more)
        (lists_join script_begins script_serves may controls waits before now after _ _ _ _ first then)

    pub one_more_run : {at then next : Progress} {lines left : List script.Call} {line : script.Call} {before now after : LoopState (Subscriber O) P} (made : Made O) → IsRunSoFar at lines before (line ∷ left) then now → Makes then line made next → AreDriven may controls waits now made after
        → IsRunSoFar at lines before left next after
    one_more_run {at} {then} {next} {left = left} {line} {before} {now} {after} made so_far makes driven = record {
      first = so_far.first ++ line ∷ [];
      lines_are = so_far.lines_are ∙ sym (append_assoc so_far.first (line ∷ []) left);
      made = so_far.made ++ made;
      are_made = made_join at then next so_far.first (line ∷ []) so_far.made made so_far.are_made (made, [], next, sym (append-nil made), makes, (refl, refl));
      driven = driven_join before now after so_far.made made so_far.driven driven;
    }

    -- a line more, if no fault came
    pub next_run : {at then next : Progress} {lines left : List script.Call} {line : script.Call} {before now after : LoopState (Subscriber O) P} (result : Result (Unit {0}) Fault) → IsRunSoFar at lines before (line ∷ left) then now
        → IsLineRun may controls waits then line result next now after → result ≡ Ok tt → IsRunSoFar at lines before left next after
    next_run result so_far (inl stays) ok = absurd (not_both result tt OutOfMemory stays.0 ok)
    next_run {at} {next = next} {lines} {left} {before = before} {after = after} result so_far (inr ran) ok =
        subst (λ p. IsRunSoFar at lines before left p after) (at_ok (ran.1 ≡ next) _ tt result ran.4 ok) (one_more_run ran.0 so_far ran.2 ran.3)

    -- what is left ends it
    ended : {at then : Progress} {lines left : List script.Call} {before now after : LoopState (Subscriber O) P} (result : Result (Unit {0}) Fault) (written : Option (List ℕ)) (last : Made O) (so_far : IsRunSoFar at lines before left then now)
        → EndsAt then left result last written → AreDriven may controls waits before (so_far.made ++ last) after → IsRun may controls waits at lines result written before after
    ended {then = then} {left = left} result written last so_far ends driven = record {
      first = so_far.first;
      left = left;
      lines_are = so_far.lines_are;
      made = so_far.made;
      then = then;
      are_made = so_far.are_made;
      last = last;
      ends = ends;
      driven = driven;
    }

    nothing_more : (before now : LoopState (Subscriber O) P) (made : Made O) → AreDriven may controls waits before made now → AreDriven may controls waits before (made ++ []) now
    nothing_more before now made driven = rw (append-nil made) driven

    -- no line is left
    pub all_run : {at then : Progress} {lines left : List script.Call} {before now : LoopState (Subscriber O) P} → IsRunSoFar at lines before left then now → left ≡ [] → IsRun may controls waits at lines (Ok tt) then.written before now
    all_run {then = then} {before = before} {now} so_far none =
        ended (Ok tt) then.written [] so_far (subst (λ left. EndsAt {O = O} then left (Ok tt) [] then.written) (sym none) (refl, refl, refl))
        (nothing_more before now so_far.made so_far.driven)

    -- the last line, if a fault came
    pub last_run : {at then : Progress} {lines left : List script.Call} {line : script.Call} {before now after : LoopState (Subscriber O) P} (result last : Result (Unit {0}) Fault) (next : Progress) → IsRunSoFar at lines before (line ∷ left) then now
        → IsLineRun may controls waits then line result next now after → (e : Fault) × (result ≡ Err e) × (last ≡ Err e) → IsRun may controls waits at lines last next.written before after
    last_run {at} {then} {lines} {before = before} {now} {after} result last next so_far (inl stays) fault =
        ended last next.written [] so_far (inl (fault.2 ∙ sym fault.1 ∙ stays.0, refl, stays.1))
        (subst (λ s. AreDriven may controls waits before (so_far.made ++ []) s) (sym stays.2) (nothing_more before now so_far.made so_far.driven))
    last_run {at} {then} {lines} {before = before} {now} {after} result last next so_far (inr ran) fault =
        ended last next.written ran.0 so_far (inr (at_error last fault.0 fault.2, (ran.1, ran.2, at_fault (ran.1 ≡ next) _ result ran.4 (at_error result fault.0 fault.1))))
        (driven_join before now after so_far.made ran.0 so_far.driven ran.3)
