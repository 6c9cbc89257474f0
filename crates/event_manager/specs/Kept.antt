-- What goes on over a run, by a relation between a value before and a value after that a user chooses.
use Rattle.std.specs.Prelude.{◌≡◌, ℕ, List, All, Some}
use Rattle.std.specs.FinMap.{FinMap, get}
use Rattle.std.specs.Ordering.{nat_cmp}
use Rattle.event_loop.specs.Prelude.{Registry, HasId, LoopStep, Replaced, May}

-- each id that is held before is held after, and its value has gone on
abbrev pub AllGoOn : {V : Type 0} → (V → V → Type 0) → Registry V → Registry V → Type 0
AllGoOn {V} goes before after = (id : ℕ) (v : V) → HasId before id v → (w : V) × HasId after id w × goes v w

-- the value of each id that is held before and after has gone on
abbrev pub HeldGoOn : {V : Type 0} → (V → V → Type 0) → Registry V → Registry V → Type 0
HeldGoOn {V} goes before after = (id : ℕ) (v w : V) → HasId before id v → HasId after id w → goes v w

-- a value that a job puts in another's place goes on from it
abbrev pub StepGoesOn : {V : Type 0} → (V → V → Type 0) → LoopStep V → Type 0
StepGoesOn goes (Replaced id old new) = goes old new
StepGoesOn goes step = Unit {0}

abbrev pub JobsGoOn : {V J R : Type 0} → (V → V → Type 0) → May V J R → Type 0
JobsGoOn {V} {J} {R} goes may = (job : J) (steps : List (LoopStep V)) (reply : R) → may job steps reply → All (StepGoesOn goes) steps

-- each value that is held has the property
abbrev pub AllHeld : {V : Type 0} → (V → Type 0) → FinMap nat_cmp V → Type 0
AllHeld {V} good values = (id : ℕ) (v : V) → get values id ≡ Some v → good v

-- what takes the place of a value that has the property has it too
abbrev pub keeps : {V : Type 0} → (V → Type 0) → V → V → Type 0
keeps good v w = good v → good w
