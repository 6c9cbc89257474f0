-- Requests of a subscriber, their answers, and what they do to the registrations.
use Rattle.std.specs.Prelude.{◌≡◌, ℕ, ◌+◌, ◌==◌, ℤ, Bool, false, not, List, [], ◌∷◌, ◌++◌, map, filter, Option, Some, None, unwrap_or, is_some, IsSome, if◌then◌else◌, Result, Ok, Err}
use Rattle.std.specs.List.{list_any}
use Rattle.std.specs.Result.{result_and}
use Rattle.std.specs.FinMap as finite
use Rattle.dispatch_tables.specs.Event.{Event}
use Rattle.event_loop.specs.PollerCall.{PollerCall, Control}
use Rattle.event_loop.specs.Registrations.{Registrations, is_id}
use Rattle.dispatch_tables.specs.Ownership.{owner_of}
use Rattle.dispatch_tables.specs.declared.priority.Priority.{Priority}
use Rattle.dispatch_tables.specs.declared.priority.Priority.TheVariants.{Lowest}
use Rattle.vmm_sys.specs.declared.errno.Errno.{Errno}
use Rattle.vmm_sys.specs.declared.errno.TheConstants.Errno.{ENOENT, EEXIST}
use Rattle.vmm_sys.specs.declared.entries.ControlOperation.{ControlOperation}
use Rattle.vmm_sys.specs.declared.entries.ControlOperation.TheVariants as operation
use Rattle.event_loop.specs.declared.error.Error.{Error}
use Rattle.event_loop.specs.declared.error.Error.TheVariants.{Epoll, FdAlreadyRegistered, OutOfMemory}
use Rattle.event_loop.specs.declared.events.RefusedRequest.{RefusedRequest}
use Rattle.event_loop.specs.declared.events.Request.{Request}
use Rattle.event_loop.specs.declared.events.Request.TheVariants.{Add, AddWithPriority, Modify, Remove}

-- the answer to a request
abbrev pub Answer : Type 0
Answer = Result (Unit {0}) Error

-- refused by the number n, as a poller refuses
abbrev pub epoll_error : ℤ → Answer
epoll_error n = Err (Epoll (record { 0 = n }))

abbrev pub event_of : Request → Event
event_of (Add e) = e
event_of (AddWithPriority e priority) = e
event_of (Modify e) = e
event_of (Remove e) = e

-- the priority at which a request adds its descriptor, if it adds one: the lowest where it names none
abbrev pub priority_asked : Request → Option Priority
priority_asked (Add e) = Some Lowest
priority_asked (AddWithPriority e priority) = Some priority
priority_asked request = None

abbrev pub operation_of : Request → ControlOperation
operation_of (Modify e) = operation.Modify
operation_of (Remove e) = operation.Delete
operation_of request = operation.Add

-- the call of the poller for a request
abbrev pub call_for : Request → Result (Unit {0}) Errno → PollerCall
call_for request answer = Control (operation_of request) (event_of request).fd (event_of request) answer

-- the first reason to refuse an addition without asking the poller: someone owns the descriptor; it is the endpoint's
abbrev pub addition_refusal : Registrations → ℕ → Option Error
addition_refusal registrations fd =
    if is_some (finite.get registrations.owners fd) then Some FdAlreadyRegistered
    else if fd == registrations.endpoint then Some (Epoll EEXIST)
    else None

-- the first reason to refuse id i a request without asking the poller: as said of an addition; else i isn't the owner
abbrev pub refusal_of : ℕ → Registrations → Request → Option Error
refusal_of i registrations request =
    if is_some (priority_asked request) then addition_refusal registrations (event_of request).fd
    else if is_id i (owner_of registrations.owners (event_of request).fd) then None
    else Some (Epoll ENOENT)

-- the registrations once the poller agreed: id i owns what it added; what it removed is free, and its events are pending no more
abbrev pub registrations_after : ℕ → Request → Registrations → Registrations
registrations_after i (Modify e) registrations = registrations
registrations_after i (Remove e) registrations =
    record registrations { owners = finite.remove registrations.owners e.fd; pending = filter (λ pending. not (pending.fd == e.fd)) registrations.pending }
registrations_after i request registrations =
    record registrations { owners = finite.insert registrations.owners (event_of request).fd (record { id = i; priority = unwrap_or (priority_asked request) Lowest }) }

-- From these registrations, id i may get this answer to the request after these poller calls, and leave the registrations after.
pub data Fits (i : ℕ) (registrations : Registrations) (request : Request) (answer : Answer) (calls : List PollerCall) (after : Registrations) : Type 0 where
  by_manager : (error : Error) → refusal_of i registrations request ≡ Some error → calls ≡ [] → answer ≡ Err error
      → after ≡ registrations → Fits i registrations request answer calls after
  without_memory : IsSome (priority_asked request) → refusal_of i registrations request ≡ None → calls ≡ []
      → answer ≡ Err OutOfMemory → after ≡ registrations → Fits i registrations request answer calls after
  by_poller : (number : ℤ) → refusal_of i registrations request ≡ None
      → calls ≡ call_for request (Err (record { 0 = number })) ∷ [] → answer ≡ epoll_error number
      → after ≡ registrations → Fits i registrations request answer calls after
  by_agreement : refusal_of i registrations request ≡ None → calls ≡ call_for request (Ok tt) ∷ [] → answer ≡ Ok tt
      → after ≡ registrations_after i request registrations → Fits i registrations request answer calls after

-- a list of requests with their answers
abbrev pub Exchanges : Type 0
Exchanges = List (Request × Answer)

-- begins: which exchanges a subscriber may have in its init, from its value before to its value after; serves: which on an event
abbrev pub Begins : Type 0 → Type 1
Begins V = V → Exchanges → V → Type 0

abbrev pub Serves : Type 0 → Type 1
Serves V = V → Event → Exchanges → V → Type 0

-- just this request was made, whatever its answer
abbrev pub Asks : Request → Exchanges → Type 0
Asks request exchanges = (answer : Answer) × (exchanges ≡ (request, answer) ∷ [])

-- just an addition was asked for; just a change of the set; just a removal
abbrev pub AsksToAdd : Event → Exchanges → Type 0
AsksToAdd event exchanges = Asks (Add event) exchanges

abbrev pub AsksToModify : Event → Exchanges → Type 0
AsksToModify event exchanges = Asks (Modify event) exchanges

abbrev pub AsksToRemove : Event → Exchanges → Type 0
AsksToRemove event exchanges = Asks (Remove event) exchanges

-- no request was made
abbrev pub AsksNothing : Exchanges → Type 0
AsksNothing exchanges = exchanges ≡ []

abbrev pub requests_of : Exchanges → List Request
requests_of exchanges = map (λ exchange. exchange.0) exchanges

abbrev pub answers_of : Exchanges → List Answer
answers_of exchanges = map (λ exchange. exchange.1) exchanges

-- an answer to the request at an index
abbrev pub answered_at : ℕ → Answer → Result (Unit {0}) RefusedRequest
answered_at index (Ok entry) = Ok tt
answered_at index (Err error) = Err (record { index = index; error = error })

-- the first of the answers from an index on that is a refusal, with its index
abbrev pub first_refusal_from : ℕ → List Answer → Result (Unit {0}) RefusedRequest
first_refusal_from index [] = Ok tt
first_refusal_from index (answer ∷ answers) = result_and (answered_at index answer) (first_refusal_from (index + 1) answers)

-- the first answer that is a refusal, with its index from 0
abbrev pub first_refusal : List Answer → Result (Unit {0}) RefusedRequest
first_refusal answers = first_refusal_from 0 answers

-- just this request was made, and its answer is the one kept
abbrev pub AsksAndKeeps : Request → Answer → Exchanges → Type 0
AsksAndKeeps request kept exchanges = exchanges ≡ (request, kept) ∷ []

-- just these requests were made, in this order; all were agreed to, or their first refusal is the one kept
abbrev pub AsksAllAndKeeps : List Request → Result (Unit {0}) RefusedRequest → Exchanges → Type 0
AsksAllAndKeeps requests kept exchanges = (requests_of exchanges ≡ requests) × (kept ≡ first_refusal (answers_of exchanges))

-- the exchanges of id i fit, each request from the registrations that the one before it left
abbrev pub ExchangesFit : ℕ → Registrations → Exchanges → List PollerCall → Registrations → Type 0
ExchangesFit i registrations [] calls after = (calls ≡ []) × (after ≡ registrations)
ExchangesFit i registrations (exchange ∷ exchanges) calls after =
    (first : List PollerCall) × (rest : List PollerCall) × (mid : Registrations) × (calls ≡ first ++ rest)
    × Fits i registrations exchange.0 exchange.1 first mid × ExchangesFit i mid exchanges rest after

-- whether the exchange is an agreed Remove of the descriptor; whether the exchanges hold one
abbrev pub is_removal : ℕ → Request → Answer → Bool
is_removal fd (Remove e) (Ok entry) = e.fd == fd
is_removal fd request answer = false

abbrev pub has_removal : ℕ → Exchanges → Bool
has_removal fd exchanges = list_any (λ exchange. is_removal fd exchange.0 exchange.1) exchanges
