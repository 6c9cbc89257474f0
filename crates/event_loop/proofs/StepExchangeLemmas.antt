-- Exchanges of a subscriber in a box.
use Rattle.std.proofs.Common.{◌≡◌, List, [], ◌∷◌, ◌++◌, Option, Some, subst}
use Rattle.std.specs.declared.alloc.Global.{Global}
use Rattle.std.specs.declared.dyn_box.DynBox.{DynBox}
use Rattle.event_loop.specs.Prelude.{Exchanges, Answer as RequestAnswer, PollerCall, AreMadeThrough, Controls, Waits}
use Rattle.event_loop.specs.declared.events.Request.{Request}
use Rattle.event_loop.specs.StepExchanges.{HoldsNow, Reaches}
use Rattle.event_loop.specs.declared.boxed_subscriber.StepSubscriber.{Ghosts}
use Rattle.event_loop.specs.declared.boxed_subscriber.StepInput.{StepInput}
use Rattle.event_loop.specs.declared.boxed_subscriber.StepInput.TheVariants.{Answer}
use Rattle.event_loop.specs.declared.ops.EventOps.{EventOps}
use Rattle.event_loop.proofs.ExchangeLemmas.{exchanges_join, none_made}

reaches_more : {V : Type 0} (requests : V → StepInput → Option Request → V → Type 0) (v : V) (first : StepInput) (exchanges : Exchanges) (request : Request) (m : V) (answer : RequestAnswer) (wanted : Option Request) (w : V)
    → Reaches requests v first exchanges (Some request) m → requests m (Answer answer) wanted w → Reaches requests v first (exchanges ++ (request, answer) ∷ []) wanted w
reaches_more requests v first [] request m answer wanted w f g = (m, f, g)
reaches_more requests v first (x ∷ exchanges) request m answer wanted w f g = (f.0, f.1, reaches_more requests f.0 (Answer x.1) exchanges request m answer wanted w f.2 g)

module _ {I : Type 0} {F : I → Type 0} (kinds : (i : I) → Ghosts (F i)) where
  abbrev pub HasStepped : DynBox I Global F → StepInput → Option Request → DynBox I Global F → Type 0
  HasStepped before first wanted after = (y : F before.vtable) × HoldsNow before after y × (kinds before.vtable).requests before.value first wanted y

  abbrev pub HasReached : DynBox I Global F → StepInput → Exchanges → Option Request → DynBox I Global F → Type 0
  HasReached before first exchanges wanted after = (y : F before.vtable) × HoldsNow before after y × Reaches (kinds before.vtable).requests before.value first exchanges wanted y

  pub reached_more : (start now next : DynBox I Global F) (first : StepInput) (exchanges : Exchanges) (request : Request) (answer : RequestAnswer) (wanted : Option Request)
      → HasReached start first exchanges (Some request) now → HasStepped now (Answer answer) wanted next → HasReached start first (exchanges ++ (request, answer) ∷ []) wanted next
  reached_more start now next first exchanges request answer wanted f g =
      let h = subst (λ (p : (i : I) × F i). (z : F p.0) × ◌≡◌ {A = (i : I) × F i} (next.vtable, next.value) (p.0, z) × (kinds p.0).requests p.1 (Answer answer) wanted z) f.1 g in
      (h.0, h.1, reaches_more (kinds start.vtable).requests start.value first exchanges request f.0 answer wanted h.0 f.2 h.2)

  module _ {P : Type 0} (controls : Controls P) (waits : Waits P) where
    pub record ExchangedSoFar (first : StepInput) (start now : DynBox I Global F) (before after : EventOps P) (wanted : Option Request) : Type 0 where
      pub exchanges : Exchanges
      pub calls : List PollerCall
      pub reached : HasReached start first exchanges wanted now
      pub exchanged : AreMadeThrough controls waits before after exchanges calls

    pub so_far_start : (first : StepInput) (start now : DynBox I Global F) (ops : EventOps P) (wanted : Option Request) → HasStepped start first wanted now → ExchangedSoFar first start now ops ops wanted
    so_far_start first start now ops wanted h = record { exchanges = []; calls = []; reached = h; exchanged = none_made ops }

    pub so_far_more : (first : StepInput) (start now next : DynBox I Global F) (before mid after : EventOps P) (request : Request) (answer : RequestAnswer) (wanted : Option Request) (calls : List PollerCall)
        → ExchangedSoFar first start now before mid (Some request) → AreMadeThrough controls waits mid after ((request, answer) ∷ []) calls → HasStepped now (Answer answer) wanted next → ExchangedSoFar first start next before after wanted
    so_far_more first start now next before mid after request answer wanted calls f input stepped = record {
      exchanges = f.exchanges ++ (request, answer) ∷ [];
      calls = f.calls ++ calls;
      reached = reached_more start now next first f.exchanges request answer wanted f.reached stepped;
      exchanged = exchanges_join f.exchanged input;
    }
