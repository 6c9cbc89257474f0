-- The interests of a table: a row of slots, each of which holds an interest or is empty, and a mark at each slot whose interest is ready.
use Rattle.std.specs.Prelude.{ℕ, ◌≡◌, ◌≢◌, ◌*◌, ◌<◌, ◌≤◌, ◌^◌, Bool, false, List, length, slice_index_or, Option, Some, None}
use Rattle.vmm_sys.specs.declared.entries.EpollEvent.{EpollEvent}
use Rattle.vmm_sys.specs.declared.table.interests.Interest.{Interest}

-- how many descriptors may have an interest: those below it; the slots that are in use, some of them empty; the marks
pub record InterestsState : Type 0 where
  pub room : ℕ
  pub slots : List (Option Interest)
  pub marks : List Bool

-- what a slot holds
abbrev pub slot_at : List (Option Interest) → ℕ → Option Interest
slot_at slots s = slice_index_or slots s None

-- the slot of a descriptor's interest
abbrev pub place_at : List (Option ℕ) → ℕ → Option ℕ
place_at places n = slice_index_or places n None

-- slot s holds the interest of descriptor n
abbrev pub Holds : List (Option Interest) → ℕ → ℕ → Type 0
Holds slots s n = (e : EpollEvent) × (slot_at slots s ≡ Some (record { descriptor = n; event = e }))

-- no slot holds an interest of n
abbrev pub NoneHolds : List (Option Interest) → ℕ → Type 0
NoneHolds slots n = (s : ℕ) → Holds slots s n → ⊥

-- slot s and no other holds an interest of n
pub record AloneHolds (slots : List (Option Interest)) (s : ℕ) (n : ℕ) : Type 0 where
  pub it : Holds slots s n
  pub alone : (t : ℕ) → Holds slots t n → t ≡ s

-- whether a slot holds an interest that passes a test
abbrev pub passes : (Interest → Bool) → Option Interest → Bool
passes p None = false
passes p (Some i) = p i

-- a slot is marked exactly where its interest passes a test
abbrev pub IsMarkedBy : (Interest → Bool) → InterestsState → ℕ → Type 0
IsMarkedBy p state s = slice_index_or state.marks s false ≡ passes p (slot_at state.slots s)

-- each slot in use is; what is marked behind them says nothing
abbrev pub AreMarked : (Interest → Bool) → InterestsState → Type 0
AreMarked p state = (s : ℕ) → s < length state.slots → IsMarkedBy p state s

-- each but one is
abbrev pub AreMarkedBut : ℕ → (Interest → Bool) → InterestsState → Type 0
AreMarkedBut n p state = (s : ℕ) → s < length state.slots → s ≢ n → IsMarkedBy p state s

-- two tests say the same of the interests of other descriptors than n
abbrev pub AgreeBut : ℕ → (Interest → Bool) → (Interest → Bool) → Type 0
AgreeBut n p q = (i : Interest) → i.descriptor ≢ n → p i ≡ q i

-- each descriptor that has an interest is known with its slot
pub record AreInSlots (places : List (Option ℕ)) (slots : List (Option Interest)) : Type 0 where
  pub placed : (s n : ℕ) → Holds slots s n → place_at places n ≡ Some s
  pub there : (n s : ℕ) → place_at places n ≡ Some s → Holds slots s n

-- there are three slots for each descriptor, and a mark for each slot
pub record HasRoom (room capacity : ℕ) (state : InterestsState) : Type 0 where
  pub descriptors : room ≤ 2 ^ 31
  pub slots : 3 * room ≤ capacity
  pub marks : 3 * room ≤ length state.marks
  pub used : length state.slots ≤ 3 * room
