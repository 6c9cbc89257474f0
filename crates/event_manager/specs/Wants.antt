-- Which descriptors subscribers want, and which id may have which: who knows that beforehand knows that nobody meets another.
use Rattle.std.specs.Prelude.{◌≡◌, ℕ, Bool, IsTrue, List, [], ◌∷◌, All, IfSome, ◌⊎◌}
use Rattle.event_loop.specs.Prelude.{Event, Owns, priority_asked, event_of, Exchanges, requests_of, Begins, Serves, Registry, HasId, LoopStep, Joined, Replaced, Requested, May}
use Rattle.event_loop.specs.declared.events.Request.{Request}
use Rattle.event_manager.specs.History.{Turn, Made, Waited, IsHistory}
use Rattle.event_manager.specs.Projection.{IsAsIfAlone}

-- a relation by a test, as laws take it
abbrev pub by_test : {A : Type 0} → (A → ℕ → Bool) → A → ℕ → Type 0
by_test test a fd = IsTrue (test a fd)

-- the requests ask to add only such descriptors
abbrev pub AskWithin : (ℕ → Type 0) → List Request → Type 0
AskWithin may [] = Unit {0}
AskWithin may (request ∷ requests) = IfSome (priority_asked request) (λ priority. may (event_of request).fd) × AskWithin may requests

-- which id may have which descriptor: no two ids the same
abbrev pub AreDisjoint : (ℕ → ℕ → Type 0) → Type 0
AreDisjoint claims = (i j fd : ℕ) → claims i fd → claims j fd → i ≡ j

module _ {V : Type 0} (wants : V → ℕ → Type 0) where
  -- it comes to want nothing more, and asks to add only what it wants
  abbrev pub GoesWithin : V → Exchanges → V → Type 0
  GoesWithin v exchanges w = ((fd : ℕ) → wants w fd → wants v fd) × AskWithin (wants v) (requests_of exchanges)

  abbrev pub BeginsWithin : Begins V → Type 0
  BeginsWithin begins = (v : V) (exchanges : Exchanges) (w : V) → begins v exchanges w → GoesWithin v exchanges w

  abbrev pub ServesWithin : Serves V → Type 0
  ServesWithin serves = (v : V) (event : Event) (exchanges : Exchanges) (w : V) → serves v event exchanges w → GoesWithin v exchanges w

  -- none of these values wants the descriptor; no two of them want the same
  abbrev pub NoneWants : ℕ → List V → Type 0
  NoneWants fd [] = Unit {0}
  NoneWants fd (value ∷ values) = ¬ wants value fd × NoneWants fd values

  abbrev pub WantApart : List V → Type 0
  WantApart [] = Unit {0}
  WantApart (value ∷ values) = ((fd : ℕ) → wants value fd → NoneWants fd values) × WantApart values

  -- what those claim who join with these values: each id what its value wants
  abbrev pub claimed_by : List (ℕ × V) → ℕ → ℕ → Type 0
  claimed_by [] i fd = ⊥
  claimed_by (one ∷ joined) i fd = ((i ≡ one.0) × wants one.1 fd) ⊎ claimed_by joined i fd

  module _ (claims : ℕ → ℕ → Type 0) where
    -- who owns a descriptor claims it, and who is held wants only what its id claims
    pub record IsWithin (registry : Registry V) : Type 0 where
      pub owned : (i fd : ℕ) → Owns i registry.registrations fd → claims i fd
      pub held : (i : ℕ) (v : V) → HasId registry i v → (fd : ℕ) → wants v fd → claims i fd

    -- Who joins wants only what its id claims, and who takes another's place only that, or what that one wanted;
    -- requests for an id ask to add only what it claims.
    abbrev pub StepIsWithin : LoopStep V → Type 0
    StepIsWithin (Joined value id exchanges calls held) = (fd : ℕ) → wants value fd → claims id fd
    StepIsWithin (Replaced id old new) = (fd : ℕ) → wants new fd → wants old fd ⊎ claims id fd
    StepIsWithin (Requested id exchanges calls) = AskWithin (claims id) (requests_of exchanges)
    StepIsWithin step = Unit {0}

    abbrev pub TurnIsWithin : Turn V → Type 0
    TurnIsWithin (Made step) = StepIsWithin step
    TurnIsWithin (Waited ms waited positions) = Unit {0}

    abbrev pub JobsAreWithin : {J R : Type 0} → May V J R → Type 0
    JobsAreWithin {J} {R} may = (job : J) (steps : List (LoopStep V)) (reply : R) → may job steps reply → All StepIsWithin steps

    module _ (begins : Begins V) (serves : Serves V) where
      -- a history leads from the one to the other, whose calls and jobs are within what is claimed
      pub record GetsWithin (before after : Registry V) : Type 0 where
        pub history : List (Turn V)
        pub is_history : IsHistory begins serves before history after
        pub turns : All TurnIsWithin history

      -- such a history, of subscribers that stay within what they want, from a registry that is within what is claimed
      pub record StaysWithin (before : Registry V) (history : List (Turn V)) (after : Registry V) : Type 0 where
        pub is_history : IsHistory begins serves before history after
        pub begins_within : BeginsWithin begins
        pub serves_within : ServesWithin serves
        pub starts : IsWithin before
        pub turns : All TurnIsWithin history

-- there is a history from the one to the other in which each id is as if the others were not there
abbrev pub AllAsIfAlone : {V : Type 0} → Begins V → Serves V → Registry V → Registry V → Type 0
AllAsIfAlone {V} begins serves before after = (history : List (Turn V)) × IsHistory begins serves before history after × ((i : ℕ) → IsAsIfAlone begins serves i before history after)
