use Rattle.std.proofs.Common.{◌≡◌, refl, sym, ap, ◌∙◌, [], ◌∷◌, inl, inr}
use Rattle.std.proofs.lemmas.Bool.Decides.{eqb_tells}
use Rattle.event_loop.specs.Prelude.{Event, Exchanges, Answer}
use Rattle.event_loop.specs.declared.events.Request.{Request}
use Rattle.event_loop.specs.declared.events.Request.TheVariants.{Add, Remove}
use Rattle.dispatch_tables.proofs.DispatchOrders.{head_is}
use Rattle.event_loop.specs.CounterEvents.{event_on, one_more, with_error, with_spurious, with_fault, with_hang_up}
use Rattle.event_loop.specs.CounterSubscribers.{counter_begins, counter_serves}
use Rattle.recorded_runs.specs.Determinism.{AskAlike, IsFunction}
use Rattle.recorded_runs.proofs.laws.counters_are_functions.Goals as goal

-- no request, and a value after that is decided; one request, and a value after that its answer decides
asks_nothing : {V : Type 0} (exchanges others : Exchanges) (after onto made : V) → (exchanges ≡ []) × (after ≡ made) → (others ≡ []) × (onto ≡ made)
    → AskAlike exchanges others × (exchanges ≡ others → after ≡ onto)
asks_nothing exchanges others after onto made h k = (rw (h.0, k.0) tt, λ same. h.1 ∙ sym k.1)

asks_once : {V : Type 0} (request : Request) (exchanges others : Exchanges) (after onto : V) (made : Answer → V)
    → (answer : Answer) × (exchanges ≡ (request, answer) ∷ []) × (after ≡ made answer)
    → (answer : Answer) × (others ≡ (request, answer) ∷ []) × (onto ≡ made answer)
    → AskAlike exchanges others × (exchanges ≡ others → after ≡ onto)
asks_once request exchanges others after onto made (a, e, h) (b, f, k) = (
  rw (e, f) (refl, λ same. tt),
  λ same. h ∙ ap (λ (x : Request × Answer). made x.1) (head_is (request, a) (request, b) [] [] (sym e ∙ same ∙ f)) ∙ sym k,
)

begins : IsFunction counter_begins
begins v exchanges others after onto h k =
    asks_once (Add (event_on v.counter 0)) exchanges others after onto (λ a. record v { observations = with_fault a v.observations }) h k

serves : (event : Event) → IsFunction (λ v exchanges w. counter_serves v event exchanges w)
serves event v exchanges others after onto h k = elim (eqb_tells event.set 1) [
  | inl input ↦ asks_nothing exchanges others after onto (record v { counter = one_more v.counter }) (rw input.0 at h) (rw input.0 at k)
  | inr a ↦ elim (eqb_tells event.set 8) [
    | inl error ↦
        asks_nothing exchanges others after onto (record v { observations = with_error v.observations }) (rw (a.0, error.0) at h) (rw (a.0, error.0) at k)
    | inr b ↦ elim (eqb_tells event.set 16) [
      | inl hang_up ↦
          asks_once (Remove event) exchanges others after onto (λ x. record v { observations = with_hang_up x v.observations })
          (rw (a.0, b.0, hang_up.0) at h) (rw (a.0, b.0, hang_up.0) at k)
      | inr c ↦
          asks_nothing exchanges others after onto (record v { observations = with_spurious v.observations })
          (rw (a.0, b.0, c.0) at h) (rw (a.0, b.0, c.0) at k)
    ]
  ]
]

pub returns : goal.returns
returns c = record {
  init = begins;
  process = serves;
  jobs = λ job steps others r q h k. (rw (h, k) tt, λ same. refl);
}
