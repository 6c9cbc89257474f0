-- What users rely on, of every trace.
use Rattle.std.specs.Prelude.{◌≡◌, ◌≢◌, ℕ, ◌+◌, List, [], ◌∷◌, filter, None, IfSome, if◌then◌else◌, Ok, Err}
use Rattle.std.specs.List.{AllZip}
use Rattle.std.specs.FinMap as map
use Rattle.event_loop.specs.Prelude.{Event, owner_of, Registrations, Owns, IsFree, Registry, Joined, Left, Refused, HasId, is_id, id_of}
use Rattle.event_loop.specs.declared.error.Error.TheVariants.{InvalidId}
use Rattle.event_manager.specs.History.{Turn, Made, Waited}
use Rattle.event_manager.specs.Projection.{owned_by}
use Rattle.event_manager.specs.declared.calls.Call.{Call}
use Rattle.event_manager.specs.declared.calls.Call.TheVariants as call
use Rattle.event_manager.specs.declared.calls.Reply.{Reply}
use Rattle.event_manager.specs.declared.calls.Reply.TheVariants as reply

-- the pending events of id j: those on its descriptors
abbrev pub pending_of : ℕ → Registrations → List Event
pending_of j registrations = filter (λ e. is_id j (owner_of registrations.owners e.fd)) registrations.pending

-- id j has the value, the descriptors at their priorities, and the pending events that it had
abbrev pub IsUntouched : {V : Type 0} → ℕ → Registry V → Registry V → Type 0
IsUntouched j before after =
    (map.get after.values j ≡ map.get before.values j)
    × (owned_by j after.registrations.owners ≡ owned_by j before.registrations.owners)
    × (pending_of j after.registrations ≡ pending_of j before.registrations)

-- Each owner is in the map, and the endpoint's descriptor is never owned.
pub record IsSound {V : Type 0} (registry : Registry V) : Type 0 where
  pub owners : (fd : ℕ) (i : ℕ) → Owns i registry.registrations fd → (value : V) × HasId registry i value
  pub endpoint_free : IsFree registry.registrations registry.registrations.endpoint

-- the ids that joins gave are the numbers from the first up to the last, in order, each once
abbrev pub AreGiven : {V : Type 0} → ℕ → List (Turn V) → ℕ → Type 0
AreGiven first [] last = last ≡ first
AreGiven first (Made (Joined value id exchanges calls held) ∷ history) last = (id ≡ first) × AreGiven (first + 1) history last
AreGiven first (turn ∷ history) last = AreGiven first history last

-- the steps name i only where they are refused
abbrev pub AreRefusedTo : {V : Type 0} → ℕ → List (Turn V) → Type 0
AreRefusedTo i [] = Unit {0}
AreRefusedTo i (Made (Refused id) ∷ history) = AreRefusedTo i history
AreRefusedTo i (Made step ∷ history) = IfSome (id_of step) (λ id. id ≢ i) × AreRefusedTo i history
AreRefusedTo i (Waited ms waited positions ∷ history) = AreRefusedTo i history

-- who left is refused in the steps that follow
abbrev pub RemovedStayGone : {V : Type 0} → List (Turn V) → Type 0
RemovedStayGone [] = Unit {0}
RemovedStayGone (Made (Left id value calls) ∷ history) = AreRefusedTo id history × RemovedStayGone history
RemovedStayGone (turn ∷ history) = RemovedStayGone history

-- By its reply id i is unknown at the call: one of that id is refused with InvalidId, and no join is given it.
abbrev pub IsUnknown : {V : Type 0} → ℕ → Call V → Reply V → Type 0
IsUnknown i (call.Add value) r = r ≢ reply.Added (Ok i)
IsUnknown i (call.Remove id) r = id ≡ i → r ≡ reply.Removed (Err InvalidId)
IsUnknown i (call.Set id value) r = id ≡ i → r ≡ reply.Set (Err InvalidId)
IsUnknown i (call.Ask id requests) r = id ≡ i → r ≡ reply.Asked (Err InvalidId)
IsUnknown i (call.Run ms) r = Unit {0}

-- there is a reply to each call, and an id that a call removed is unknown at each later one
abbrev pub RemovedStayUnknown : {V : Type 0} → List (Call V) → List (Reply V) → Type 0
RemovedStayUnknown [] replies = replies ≡ []
RemovedStayUnknown (c ∷ calls) [] = ⊥
RemovedStayUnknown {V} (c ∷ calls) (r ∷ replies) =
    ((id : ℕ) (value : V) → c ≡ call.Remove id → r ≡ reply.Removed (Ok value) → AllZip (IsUnknown id) calls replies) × RemovedStayUnknown calls replies

-- exactly the descriptors of id i became free: the others have the owner and the priority that they had
abbrev pub FreesExactly : ℕ → Registrations → Registrations → Type 0
FreesExactly i before after = (fd : ℕ) → map.get after.owners fd ≡ (if is_id i (owner_of before.owners fd) then None else map.get before.owners fd)
