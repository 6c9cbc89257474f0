-- A device is a function.
use Rattle.std.proofs.Common.{◌≡◌, ◌==◌, Bool, true, false, [], ◌∷◌, Option, Some, None, refl, sym, ap, ◌∙◌, bit_and}
use Rattle.std.specs.Bool.{MatchBool}
use Rattle.std.specs.Option.{MatchOption}
use Rattle.event_manager.specs.Prelude.{Event, Answer, Exchanges}
use Rattle.event_manager.specs.Request.{Request}
use Rattle.event_manager.specs.Request.TheVariants.{Add, Remove}
use Rattle.recorded_runs.specs.Determinism.{AskAlike, IsFunction}
use Rattle.recorder.specs.Devices.{with_answer, counted, device_begins, device_serves}
use Rattle.recorder.specs.declared.device.Device.{Device}

-- no request, and a value after that is decided; one request, and a value after that its answer decides
asks_nothing : (exchanges others : Exchanges) (after onto made : Device) → (exchanges ≡ []) × (after ≡ made) → (others ≡ []) × (onto ≡ made)
    → AskAlike exchanges others × (exchanges ≡ others → after ≡ onto)
asks_nothing exchanges others after onto made h k = (rw (h.0, k.0) tt, λ same. h.1 ∙ sym k.1)

asks_once : (request : Request) (exchanges others : Exchanges) (after onto : Device) (made : Answer → Device)
    → (answer : Answer) × (exchanges ≡ (request, answer) ∷ []) × (after ≡ made answer)
    → (answer : Answer) × (others ≡ (request, answer) ∷ []) × (onto ≡ made answer)
    → AskAlike exchanges others × (exchanges ≡ others → after ≡ onto)
asks_once request exchanges others after onto made (a, e, h) (b, f, k) = (
  rw (e, f) (refl, λ same. tt),
  λ same. let s : ◌≡◌ {A = Exchanges} ((request, a) ∷ []) ((request, b) ∷ []) = sym e ∙ same ∙ f in
      let first : ◌≡◌ {A = Request × Answer} (request, a) (request, b) = cc in
      h ∙ ap (λ (x : Request × Answer). made x.1) first ∙ sym k,
)

pub begins_once : IsFunction device_begins
begins_once v exchanges others after onto h k = asks_once (Add v.own) exchanges others after onto (λ a. with_answer v a) h k

-- at a hang-up or not, with a second descriptor or without one
abbrev Serves : Bool → Option Event → Device → Event → Exchanges → Device → Type 0
Serves hangs_up second v event exchanges w = MatchBool hangs_up
    ((answer : Answer) × (exchanges ≡ (Remove event, answer) ∷ []) × (w ≡ with_answer (record v { hung_up = true }) answer))
    (MatchOption second
    ((exchanges ≡ []) × (w ≡ counted v event))
    (λ second. (answer : Answer) × (exchanges ≡ (Add second, answer) ∷ []) × (w ≡ with_answer (record (counted v event) { second = None }) answer)))

serves_alike : (hangs_up : Bool) (second : Option Event) (event : Event) → IsFunction (λ v exchanges w. Serves hangs_up second v event exchanges w)
serves_alike true second event v exchanges others after onto h k =
    asks_once (Remove event) exchanges others after onto (λ a. with_answer (record v { hung_up = true }) a) h k
serves_alike false None event v exchanges others after onto h k = asks_nothing exchanges others after onto (counted v event) h k
serves_alike false (Some second) event v exchanges others after onto h k =
    asks_once (Add second) exchanges others after onto (λ a. with_answer (record (counted v event) { second = None }) a) h k

pub serves_once : (event : Event) → IsFunction (λ v exchanges w. device_serves v event exchanges w)
serves_once event v exchanges others after onto h k = serves_alike (bit_and event.set 0x10 == 0x10) v.second event v exchanges others after onto h k
