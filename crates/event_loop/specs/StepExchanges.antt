-- A subscriber in a box, which wants one request at a time.
use Rattle.std.specs.Prelude.{◌≡◌, ℕ, ◌+◌, ◌<◌, [], ◌∷◌, Option, Some, None}
use Rattle.std.specs.declared.alloc.Global.{Global}
use Rattle.std.specs.declared.dyn_box.DynBox.{DynBox}
use Rattle.event_loop.specs.Exchange.{Exchanges}
use Rattle.event_loop.specs.declared.events.Request.{Request}
use Rattle.event_loop.specs.declared.boxed_subscriber.StepInput.{StepInput}
use Rattle.event_loop.specs.declared.boxed_subscriber.StepInput.TheVariants.{Init, Event, Answer}

-- the box holds y, at the vtable that it had before
abbrev pub HoldsNow : {I : Type 0} {F : I → Type 0} (before after : DynBox I Global F) → F before.vtable → Type 0
HoldsNow {I} {F} before after y = ◌≡◌ {A = (i : I) × F i} (after.vtable, after.value) (before.vtable, y)

module _ {V : Type 0} (requests : V → StepInput → Option Request → V → Type 0) where
  -- from v, with this first input, the exchanges lead to w, which then wants a request or nothing more
  abbrev pub Reaches : V → StepInput → Exchanges → Option Request → V → Type 0
  Reaches v first [] wanted w = requests v first wanted w
  Reaches v first (exchange ∷ exchanges) wanted w = (m : V) × requests v first (Some exchange.0) m × Reaches m (Answer exchange.1) exchanges wanted w

-- after an answer a further request leaves fewer to come
abbrev pub LeavesFewer : StepInput → Option Request → ℕ → ℕ → Type 0
LeavesFewer Init wanted before after = Unit {0}
LeavesFewer (Event e) wanted before after = Unit {0}
LeavesFewer (Answer answer) None before after = Unit {0}
LeavesFewer (Answer answer) (Some request) before after = after < before

-- how many requests can still come, the wanted one included
abbrev pub at_most_left : Option Request → ℕ → ℕ
at_most_left None n = 0
at_most_left (Some request) n = n + 1
