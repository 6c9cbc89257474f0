-- The lists of requests that are still to be made on events of a descriptor.
use Rattle.std.specs.Prelude.{◌≡◌, ◌≢◌, ℕ, ℤ, pos, List, [], ◌∷◌, Option, Some, None, map, Vec}
use Rattle.std.specs.Ordering.{int_eq}
use Rattle.std.specs.declared.alloc.Global.{Global}
use Rattle.std.specs.declared.hash.FoldHasher.{FoldHasher}
use Rattle.std.specs.declared.hash.BuildHasherDefault.{BuildHasherDefault}
use Rattle.std.specs.declared.collections.VecDeque.{VecDeque}
use Rattle.std.specs.HashMap.{get, HashMap}
use Rattle.event_loop.specs.Exchange.{Exchanges, requests_of}
use Rattle.event_loop.specs.declared.events.Request.{Request}

-- a queue for each descriptor
abbrev pub Queues : Type 0
Queues = HashMap ℤ (VecDeque (Vec Request Global) Global) (BuildHasherDefault FoldHasher)

-- the lists of one queue
abbrev pub lists_of : Option (VecDeque (Vec Request Global) Global) → List (List Request)
lists_of None = []
lists_of (Some queue) = map (λ requests. requests.items) queue.items

-- the lists of a descriptor, the next one first
abbrev pub coming : Queues → ℤ → List (List Request)
coming queues fd = lists_of (get int_eq queues fd)

-- the lists of each other descriptor stay
abbrev pub KeepsOthers : Queues → ℤ → Queues → Type 0
KeepsOthers before fd after = (other : ℤ) → other ≢ fd → coming after other ≡ coming before other

-- the next list of a descriptor is taken, if there is one
abbrev pub TakesNext : Queues → ℤ → Option (Vec Request Global) → Queues → Type 0
TakesNext before fd None after = (coming before fd ≡ []) × (coming after fd ≡ []) × KeepsOthers before fd after
TakesNext before fd (Some requests) after = (coming before fd ≡ requests.items ∷ coming after fd) × KeepsOthers before fd after

-- these are the first list, if there is one, and the lists after it stay
abbrev pub AreFirst : List (List Request) → List Request → List (List Request) → Type 0
AreFirst [] asked after = (asked ≡ []) × (after ≡ [])
AreFirst (first ∷ later) asked after = (asked ≡ first) × (after ≡ later)

-- on an event of a descriptor, the next list of this descriptor is asked for, and taken
abbrev pub Reacts : Queues → ℕ → Exchanges → Queues → Type 0
Reacts before fd exchanges after =
    AreFirst (coming before (pos fd)) (requests_of exchanges) (coming after (pos fd)) × KeepsOthers before (pos fd) after
