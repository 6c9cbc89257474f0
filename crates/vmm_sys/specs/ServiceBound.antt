-- How long an interest that is ready may have to wait for its report.
use Rattle.std.specs.Prelude.{ℕ, ℤ, pos, suc, ◌+◌, ◌/◌, ◌≤◌, ◌<◌, ◌≡◌, ◌≢◌, ◌⊎◌, List, [], ◌∷◌, Some, find, Result, Ok, Err, true, Any}
use Rattle.vmm_sys.specs.declared.entries.EpollEvent.{EpollEvent}
use Rattle.vmm_sys.specs.declared.entries.ControlOperation.{ControlOperation}
use Rattle.vmm_sys.specs.declared.entries.ControlOperation.TheVariants.{Delete}
use Rattle.vmm_sys.specs.declared.event_set.EventSet.{EventSet}
use Rattle.vmm_sys.specs.declared.errno.Errno.{Errno}
use Rattle.vmm_sys.specs.declared.table.interests.Interest.{Interest}
use Rattle.vmm_sys.specs.Table.{TableState, is_ready, is_of, place_of, chosen, ctl_of, wait_of, write_of, read_of, set_line_of, add_counter_of, add_line_of, close_of}

-- a step of a table: one of its calls, or a call to which memory was refused
pub data TableStep : Type 0 where
  Ctl : ControlOperation → ℤ → EpollEvent → TableStep
  Wait : ℕ → TableStep
  Write : ℤ → ℕ → TableStep
  Read : ℤ → TableStep
  SetLine : ℤ → EventSet → TableStep
  AddCounter : ℕ → TableStep
  AddLine : TableStep
  Close : ℤ → TableStep
  WithoutMemory : TableStep

-- the table that a call leaves: a refused one leaves it as it was
abbrev pub left_by : {A : Type 0} → TableState → Result (A × TableState) Errno → TableState
left_by t (Ok (answer, after)) = after
left_by t (Err errno) = t

-- the table after a step
abbrev pub after : TableState → TableStep → TableState
after t (Ctl op fd event) = left_by t (ctl_of t op fd event)
after t (Wait room) = left_by t (wait_of t room)
after t (Write fd value) = left_by t (write_of t fd value)
after t (Read fd) = left_by t (read_of t fd)
after t (SetLine fd set) = left_by t (set_line_of t fd set)
after t (AddCounter value) = left_by t (add_counter_of t value)
after t AddLine = left_by t (add_line_of t)
after t (Close fd) = left_by t (close_of t fd)
after t WithoutMemory = t

-- how many interests a step may report
abbrev pub room : TableStep → ℕ
room (Wait c) = c
room _ = 0

-- the step reports the interest of descriptor n
abbrev pub Reports : ℕ → TableState → TableStep → Type 0
Reports n t (Wait c) = Any (λ i. is_of n i ≡ true) (chosen t c)
Reports n t _ = ⊥

-- the step doesn't take the interest of n out
abbrev pub Keeps : ℕ → TableStep → Type 0
Keeps n (Ctl Delete fd event) = fd ≢ pos n
Keeps n (Close fd) = fd ≢ pos n
Keeps n _ = Unit {0}

-- where the step is a wait, the interest of n is ready
abbrev pub IsReadyFor : ℕ → TableState → TableStep → Type 0
IsReadyFor n t (Wait c) = (i : Interest) × (find (is_of n) t.interests ≡ Some i) × (is_ready t.sources i ≡ true)
IsReadyFor n t _ = Unit {0}

-- from the table t the step leaves u, in which no interest has a later place than before, unless it was taken out or reported; a ready one that a wait doesn't report is further in front by the wait's room
abbrev pub MovesForward : TableState → TableStep → TableState → Type 0
MovesForward t s u =
    (n a : ℕ) → place_of t n ≡ Some a → Keeps n s →
    Reports n t s ⊎ ((b : ℕ) × (place_of u n ≡ Some b) × (b ≤ a) × (IsReadyFor n t s → b + room s ≤ a))

-- along a list of steps the interest of n isn't taken out, and is ready at each wait
abbrev pub StaysReady : ℕ → TableState → List TableStep → Type 0
StaysReady n t [] = Unit {0}
StaysReady n t (s ∷ steps) = Keeps n s × IsReadyFor n t s × StaysReady n (after t s) steps

-- one of the steps reports the interest of n
abbrev pub IsReported : ℕ → TableState → List TableStep → Type 0
IsReported n t [] = ⊥
IsReported n t (s ∷ steps) = Reports n t s ⊎ IsReported n (after t s) steps

-- the rooms of the waits, added up
abbrev pub rooms : List TableStep → ℕ
rooms [] = 0
rooms (s ∷ steps) = room s + rooms steps

-- the number of the waits
abbrev pub waits : List TableStep → ℕ
waits [] = 0
waits (Wait c ∷ steps) = suc (waits steps)
waits (_ ∷ steps) = waits steps

-- each wait has this room
abbrev pub EachWaitHas : ℕ → List TableStep → Type 0
EachWaitHas c [] = Unit {0}
EachWaitHas c (Wait d ∷ steps) = (d ≡ c) × EachWaitHas c steps
EachWaitHas c (_ ∷ steps) = EachWaitHas c steps

-- no step moves an interest back
abbrev pub EachStepMovesForward : Type 0
EachStepMovesForward = (t : TableState) (s : TableStep) → MovesForward t s (after t s)

-- an interest with a others before it that stays ready is reported by the time the rooms of the waits add up to more than a
abbrev pub ReportedWithinRooms : Type 0
ReportedWithinRooms =
    (n a : ℕ) (t : TableState) (steps : List TableStep) →
    place_of t n ≡ Some a → StaysReady n t steps → a < rooms steps → IsReported n t steps

-- with room c in each wait it is reported in one of the first a / c, rounded down, plus 1
abbrev pub ReportedWithinWaits : Type 0
ReportedWithinWaits =
    (n a c : ℕ) (t : TableState) (steps : List TableStep) →
    place_of t n ≡ Some a → StaysReady n t steps → 0 < c → EachWaitHas c steps → a / c + 1 ≤ waits steps → IsReported n t steps
