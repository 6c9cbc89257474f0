-- A run of devices none of which was refused a request had memory.
use Rattle.std.proofs.Common.{◌≡◌, ◌⊎◌, ℕ, ◌==◌, Bool, true, false, List, [], ◌∷◌, Option, Some, None, Ok, Err, refl, sym, ap, subst, ◌∙◌, map, length, inl, inr, arith, pos, nat_cmp, bit_and, if◌then◌else◌}
use Rattle.std.proofs.lemmas.List.{length-map}
use Rattle.std.specs.Bool.{MatchBool}
use Rattle.std.specs.Option.{MatchOption}
use Rattle.std.specs.List.{AllZip}
use Rattle.std.specs.FinMap.{get-empty}
use Rattle.std.proofs.Math.ListN.{replicate}
use Rattle.std.proofs.lemmas.List.Elements.{Contains-push_cases}
use Rattle.event_manager.specs.Prelude.{Event, Controls, Waits, Exchanges, Answer, answers_of, HasId, new_registry, LoopContents, LoopState, new_loop, no_descriptor, contents_of}
use Rattle.event_manager.specs.Request.TheVariants.{Remove}
use Rattle.event_manager.specs.Request.TheVariants as request
use Rattle.recorded_runs.specs.Determinism.{HaveMemory, answers_in}
use Rattle.event_manager.specs.Error.TheVariants.{OutOfMemory}
use Rattle.event_manager.specs.declared.calls.Call.TheVariants.{Run}
use Rattle.event_manager.specs.declared.calls.Reply.{Reply}
use Rattle.event_manager.specs.declared.calls.Reply.TheVariants.{Ran}
use Rattle.recorder.specs.Devices.{kept, next_count, with_answer, counted, device_begins, device_serves}
use Rattle.recorder.specs.Run.{IsRun}
use Rattle.recorder.specs.declared.device.Device.{Device}
use Rattle.recorder.specs.declared.run.Told.{Told}
use Rattle.recorded_runs.proofs.KeptRefusals.{IsCalm, same_held, AreCalm, AreWithin, AllAgree, trace_within, trace_agrees}

-- no request of it was refused
abbrev IsAnswered : Device → Type 0
IsAnswered v = v.answer ≡ Ok tt

kept_agreed : (old answer : Answer) → kept old answer ≡ Ok tt → (old ≡ Ok tt) × (answer ≡ Ok tt)
kept_agreed (Ok done) answer is = (refl, is)
kept_agreed (Err error) answer is = let s : ◌≡◌ {A = Answer} (Err error) (Ok tt) = is in cc

one_agreed : (answer : Answer) → answer ≡ Ok tt → HaveMemory (answer ∷ [])
one_agreed answer is within = elim (Contains-push_cases [] answer (Err OutOfMemory) within) [
  | inl none ↦ omega (arith, none.1)
  | inr same ↦ let s : ◌≡◌ {A = Answer} (Ok tt) (Err OutOfMemory) = sym is ∙ same in cc
]

begun : (v : Device) (exchanges : Exchanges) (w : Device) → device_begins v exchanges w → IsAnswered w → HaveMemory (answers_of exchanges)
begun v exchanges w (answer, asked, is) answered = rw asked (one_agreed answer (kept_agreed v.answer answer (ap (λ (x : Device). x.answer) (sym is) ∙ answered)).1)

counted_by : (first : Bool) (v : Device) →
    (if first then record v { of_first = next_count v.of_first } else record v { of_second = next_count v.of_second }).answer ≡ v.answer
counted_by true v = refl
counted_by false v = refl

counted_answer : (v : Device) (event : Event) → (counted v event).answer ≡ v.answer
counted_answer v event = counted_by (event.payload == 0) v

none_asked : HaveMemory []
none_asked h = omega (arith, h.1)

served_by : (hangs_up : Bool) (second : Option Event) (v : Device) (event : Event) (exchanges : Exchanges) (w : Device) →
    MatchBool hangs_up
    ((answer : Answer) × (exchanges ≡ (Remove event, answer) ∷ []) × (w ≡ with_answer (record v { hung_up = true }) answer))
    (MatchOption second
    ((exchanges ≡ []) × (w ≡ counted v event))
    (λ second. (answer : Answer) × (exchanges ≡ (request.Add second, answer) ∷ []) × (w ≡ with_answer (record (counted v event) { second = None }) answer)))
    → IsAnswered w → IsAnswered v × HaveMemory (answers_of exchanges)
served_by true second v event exchanges w (answer, asked, is) answered =
    let kept_so = kept_agreed v.answer answer (ap (λ (x : Device). x.answer) (sym is) ∙ answered) in
    (kept_so.0, rw asked (one_agreed answer kept_so.1))
served_by false None v event exchanges w (asked, is) answered =
    (sym (counted_answer v event) ∙ ap (λ (x : Device). x.answer) (sym is) ∙ answered, rw asked none_asked)
served_by false (Some second) v event exchanges w (answer, asked, is) answered =
    let kept_so = kept_agreed (counted v event).answer answer (ap (λ (x : Device). x.answer) (sym is) ∙ answered) in
    (sym (counted_answer v event) ∙ kept_so.0, rw asked (one_agreed answer kept_so.1))

served : (v : Device) (event : Event) (exchanges : Exchanges) (w : Device) → device_serves v event exchanges w → IsAnswered w → IsAnswered v × HaveMemory (answers_of exchanges)
served v event exchanges w so answered = served_by (bit_and event.set 0x10 == 0x10) v.second v event exchanges w so answered

runs_are_calm : (ids : ℕ → Type 0) (replies : List (Reply Device)) → AllZip (IsCalm ids) (replicate (length replies) (Run (pos 0))) replies
runs_are_calm ids [] = tt
runs_are_calm ids (r ∷ replies) = (tt, runs_are_calm ids replies)

nobody : (endpoint id : ℕ) (v : Device) → HasId (new_registry endpoint) id v → ⊥
nobody endpoint id v has = let s : ◌≡◌ {A = Option Device} None (Some v) = sym (get-empty nat_cmp id) ∙ has in cc

module _ {P : Type 0} (controls : Controls P) (waits : Waits P) where
  pub had_memory : (poller : P) (devices : Device × Device) (told : Told) (after : LoopState Device P) → (run : IsRun controls waits (new_loop no_descriptor poller 256) devices told after) → HaveMemory (answers_in run.trace)
  had_memory poller devices told after run = (trace_agrees device_begins device_serves ids IsAnswered begun served start run.trace (contents_of after) run.is_trace_of.is_trace calm (λ id v has. absurd (nobody no_descriptor id v has)) all).1 where
    ids : ℕ → Type 0
    ids i = (i ≡ run.queue) ⊎ (i ≡ run.console)

    start : LoopContents Device
    start = contents_of (new_loop {S = Device} {P = P} no_descriptor poller 256)

    counts : List (Reply Device)
    counts = map (λ count. Ran (Ok count)) told.events

    five : length counts ≡ 5
    five = let calls = ap length (sym run.is_trace_of.calls_are) ∙ length-map run.trace (λ e. e.call) in
        let replies = ap length (sym run.is_trace_of.replies_are) ∙ length-map run.trace (λ e. e.reply) in
        omega (arith, calls, replies)

    calm : AreCalm device_begins device_serves ids run.trace
    calm = rw (run.is_trace_of.calls_are, run.is_trace_of.replies_are)
        (inl refl, (inr refl, subst (λ n. AllZip (IsCalm ids) (replicate n (Run (pos 0))) counts) five (runs_are_calm ids counts)))

    within : AreWithin device_begins device_serves ids after.registry
    within = trace_within device_begins device_serves ids start run.trace (contents_of after) run.is_trace_of.is_trace calm (λ i v has. absurd (nobody no_descriptor i v has))

    all : AllAgree device_begins device_serves ids IsAnswered begun served after.registry
    all i v has = elim (within i v has) [
      | inl p ↦ subst IsAnswered (sym (same_held after.registry i run.queue v told.queue p has run.queue_is)) run.queue_answered
      | inr p ↦ subst IsAnswered (sym (same_held after.registry i run.console v told.console p has run.console_is)) run.console_answered
    ]
