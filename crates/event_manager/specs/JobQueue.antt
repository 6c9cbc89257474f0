-- The queue of jobs: how many were taken and how many tickets issued, whether it is closed, and what waits.
use Rattle.std.specs.Prelude.{◌≡◌, ℕ, ◌+◌, ◌<◌, ◌≤◌, Bool, true, false, List, [], ◌∷◌, ◌++◌, length, Option, Result, Ok, Err}
use Rattle.event_manager.specs.declared.jobs.queue.Entry.{Entry}
use Rattle.event_manager.specs.declared.jobs.queue.Refused.{Refused}
use Rattle.vmm_sys.specs.declared.errno.Errno.{Errno}
use Rattle.event_loop.specs.declared.error.Error.{Error}
use Rattle.event_loop.specs.declared.error.Error.TheVariants.{ChannelSend, ChannelRecv, EventFd, Epoll, FdAlreadyRegistered, InvalidId, InvalidCapacity, OutOfMemory, IdsUsedUp, TicketsUsedUp}

pub record QueueState (J Q : Type 0) : Type 0 where
  pub taken : ℕ
  pub issued : ℕ
  pub closed : Bool
  pub waiting : List (Entry J Q)

-- the tickets of the entries follow this number
abbrev pub TicketsFollow : {J Q : Type 0} → ℕ → List (Entry J Q) → Type 0
TicketsFollow n [] = Unit {0}
TicketsFollow n (e ∷ es) = (e.ticket ≡ n + 1) × TicketsFollow (n + 1) es

-- what holds of every queue
pub record IsQueueState {J Q : Type 0} (taken issued : ℕ) (closed : Bool) (waiting : List (Entry J Q)) : Type 0 where
  pub most : issued ≤ 9223372036854775807
  pub while_open : closed ≡ false → taken + length waiting ≡ issued
  pub when_closed : closed ≡ true → waiting ≡ []
  pub some : taken ≤ issued
  pub follow : TicketsFollow taken waiting

abbrev pub new_queue : {J Q : Type 0} → QueueState J Q
new_queue = record { taken = 0; issued = 0; closed = false; waiting = [] }

-- how many tickets there can be
abbrev pub most : ℕ
most = 9223372036854775807

-- with one more job, last
abbrev pub with_job : {J Q : Type 0} → QueueState J Q → J → Option Q → QueueState J Q
with_job q job slot = record { taken = q.taken; issued = q.issued + 1; closed = q.closed; waiting = q.waiting ++ (record { ticket = q.issued + 1; job = job; slot = slot } ∷ []) }

-- with what waits handed out
abbrev pub after_take : {J Q : Type 0} → QueueState J Q → QueueState J Q
after_take q = record { taken = q.taken + length q.waiting; issued = q.issued; closed = q.closed; waiting = [] }

-- with what waits handed out, and no job taken in from then on
abbrev pub after_close : {J Q : Type 0} → QueueState J Q → QueueState J Q
after_close q = record { taken = q.taken; issued = q.issued; closed = true; waiting = [] }

-- it is open, and has a ticket left
abbrev pub CanIssue : {J Q : Type 0} → QueueState J Q → Type 0
CanIssue q = (q.closed ≡ false) × (q.issued < most)

-- from the queue q, with a bell that may answer so, a send may answer this and leave the queue r; a refusal leaves it as it was
abbrev pub IsSend : {J Q : Type 0} → (Result (Unit {0}) Errno → Type 0) → QueueState J Q → J → Option Q → Result ℕ Error → QueueState J Q → Type 0
IsSend rings q job slot (Ok n) r = CanIssue q × rings (Ok tt) × (n ≡ q.issued + 1) × (r ≡ with_job q job slot)
IsSend rings q job slot (Err ChannelSend) r = (q.closed ≡ true) × (r ≡ q)
IsSend rings q job slot (Err TicketsUsedUp) r = (q.closed ≡ false) × (q.issued ≡ most) × (r ≡ q)
IsSend rings q job slot (Err OutOfMemory) r = CanIssue q × (r ≡ q)
IsSend rings q job slot (Err (EventFd e)) r = CanIssue q × rings (Err e) × (r ≡ q)
IsSend rings q job slot (Err ChannelRecv) r = ⊥
IsSend rings q job slot (Err (Epoll e)) r = ⊥
IsSend rings q job slot (Err FdAlreadyRegistered) r = ⊥
IsSend rings q job slot (Err InvalidId) r = ⊥
IsSend rings q job slot (Err InvalidCapacity) r = ⊥
IsSend rings q job slot (Err IdsUsedUp) r = ⊥

-- what a send answers that hands back what it refuses
abbrev pub send_answer : {T J Q : Type 0} → Result T (Refused J Q) → Result T Error
send_answer (Ok ticket) = Ok ticket
send_answer (Err refused) = Err refused.error

-- the tickets and the jobs of entries
abbrev pub tickets_and_jobs : {J Q : Type 0} → List (Entry J Q) → List (ℕ × J)
tickets_and_jobs [] = []
tickets_and_jobs (e ∷ es) = (e.ticket, e.job) ∷ tickets_and_jobs es
