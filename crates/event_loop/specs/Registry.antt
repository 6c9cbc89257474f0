-- Subscribers by id, and the steps: a join, a leave, another value, a list of requests.
use Rattle.std.specs.Prelude.{◌≡◌, ℕ, ◌+◌, ◌-◌, ◌^◌, ◌<◌, not, List, [], ◌⊎◌, ◌↔◌, Option, Some, None, Result, Contains, AllPairs}
use Rattle.std.specs.List.{AllZip}
use Rattle.std.specs.FinMap as map
use Rattle.std.specs.Ordering.{nat_cmp}
use Rattle.dispatch_tables.specs.Ownership.{OwnerMap, owner_of}
use Rattle.event_loop.specs.Registrations.{Registrations, Owns, is_id}
use Rattle.event_loop.specs.PollerCall.{PollerCall, Control}
use Rattle.event_loop.specs.Exchange.{Exchanges, ExchangesFit, Begins}
use Rattle.vmm_sys.specs.declared.errno.Errno.{Errno}
use Rattle.event_loop.specs.declared.error.Error.{Error}
use Rattle.event_loop.specs.declared.error.Error.TheVariants.{IdsUsedUp, OutOfMemory}
use Rattle.vmm_sys.specs.declared.entries.ControlOperation.TheVariants as operation

-- the subscribers' values by id, the id that is given next, the registrations
pub record Registry (V : Type 0) : Type 0 where
  pub values : map.FinMap nat_cmp V
  pub next : ℕ
  pub registrations : Registrations

-- One step, with what was answered; one for an id that nobody has is refused. V is the type of the subscribers.
pub data LoopStep (V : Type 0) : Type 0 where
  Joined : (value : V) (id : ℕ) (exchanges : Exchanges) (calls : List PollerCall) (after : V) → LoopStep V
  NotJoined : V → Error → LoopStep V
  Left : (id : ℕ) (value : V) (calls : List PollerCall) → LoopStep V
  Replaced : (id : ℕ) (old new : V) → LoopStep V
  Requested : (id : ℕ) (exchanges : Exchanges) (calls : List PollerCall) → LoopStep V
  Refused : ℕ → LoopStep V

-- may: which steps, with their answers, a job may take in a manager, and which reply it then gives
abbrev pub May : Type 0 → Type 0 → Type 0 → Type 1
May V J R = J → List (LoopStep V) → R → Type 0

-- the owners without id i
abbrev pub without_owner : ℕ → OwnerMap → OwnerMap
without_owner i owners = map.retain_keys owners (λ fd. not (is_id i (owner_of owners fd)))

-- one Delete for each of the descriptors, in this order, whatever it answers
abbrev pub AreDeletes : List ℕ → List PollerCall → Type 0
AreDeletes fds calls = AllZip (λ fd call. (answer : Result (Unit {0}) Errno) × (call ≡ Control operation.Delete fd (record { fd = 0; payload = 0; set = 0 }) answer)) fds calls

-- the descriptors of id i, in ascending order
abbrev pub AreOwnedBy : ℕ → Registrations → List ℕ → Type 0
AreOwnedBy i registrations fds = AllPairs (λ a b. a < b) fds × ((fd : ℕ) → Contains fds fd ↔ Owns i registrations fd)

abbrev pub HasId : {V : Type 0} → Registry V → ℕ → V → Type 0
HasId registry i value = map.get registry.values i ≡ Some value

abbrev pub LacksId : {V : Type 0} → Registry V → ℕ → Type 0
LacksId registry i = map.get registry.values i ≡ None

-- with no subscriber, by the endpoint's descriptor
abbrev pub new_registry : {V : Type 0} → ℕ → Registry V
new_registry endpoint = record { values = map.empty; next = 1; registrations = record { owners = map.empty; endpoint = endpoint; pending = [] } }

-- each id that is held is below this one
abbrev pub AreBelow : {V : Type 0} → ℕ → map.FinMap nat_cmp V → Type 0
AreBelow {V} next values = (id : ℕ) (value : V) → map.get values id ≡ Some value → id < next

-- where this is the next id, the ids are used up
abbrev pub ids_end : ℕ
ids_end = 2 ^ 64 - 1

module _ {V : Type 0} (begins : Begins V) where
  abbrev pub Steps : Registry V → LoopStep V → Registry V → Type 0
  Steps before (Joined value id exchanges calls held) after =
      (registrations : Registrations) × (before.next < ids_end) × (id ≡ before.next) × ExchangesFit id before.registrations exchanges calls registrations × begins value exchanges held
      × (after ≡ record { values = map.insert before.values id held; next = before.next + 1; registrations = registrations })
  Steps before (NotJoined value error) after =
      (((before.next ≡ ids_end) × (error ≡ IdsUsedUp)) ⊎ ((before.next < ids_end) × (error ≡ OutOfMemory))) × (after ≡ before)
  Steps before (Left id value calls) after =
      (fds : List ℕ) × HasId before id value × AreOwnedBy id before.registrations fds × AreDeletes fds calls
      × (after ≡ record before { values = map.remove before.values id; registrations = record before.registrations { owners = without_owner id before.registrations.owners } })
  Steps before (Replaced id old new) after = HasId before id old × (after ≡ record before { values = map.insert before.values id new })
  Steps before (Requested id exchanges calls) after =
      (value : V) × (registrations : Registrations) × HasId before id value × ExchangesFit id before.registrations exchanges calls registrations
      × (after ≡ record before { registrations = registrations })
  Steps before (Refused id) after = LacksId before id × (after ≡ before)

-- the poller calls that a step made
abbrev pub calls_of : {V : Type 0} → LoopStep V → List PollerCall
calls_of (Joined value id exchanges calls held) = calls
calls_of (Left id value calls) = calls
calls_of (Requested id exchanges calls) = calls
calls_of step = []

-- the id that a step is of: the one it was asked for, or gave
abbrev pub id_of : {V : Type 0} → LoopStep V → Option ℕ
id_of (Joined value id exchanges calls held) = Some id
id_of (Left id value calls) = Some id
id_of (Replaced id old new) = Some id
id_of (Requested id exchanges calls) = Some id
id_of (Refused id) = Some id
id_of (NotJoined value error) = None
