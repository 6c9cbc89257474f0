-- The messages of a channel, and what each call does to them and to the receiver's signal.
use Rattle.std.specs.Prelude.{◌≡◌, ◌<◌, ◌+◌, ◌-◌, ◌++◌, ◌∷◌, [], ℕ, Bool, true, false, not, ◌&&◌, ◌||◌, ◌⊎◌, ◌==◌, nat_lt, List, length, Option, None, Some, MatchBool, Result, Ok, Err}
use Rattle.std.specs.declared.alloc.AllocError.{AllocError}
use Rattle.vmm_sys.specs.declared.errno.Errno.{Errno}
use Rattle.channels.specs.declared.errors.Refusal.{Refusal}
use Rattle.channels.specs.declared.errors.Refusal.TheVariants.{Closed, Full, OutOfMemory, EventFd}
use Rattle.channels.specs.declared.errors.SendError.{SendError}

-- what waits, in the order in which it was sent; how many messages can, if there is a bound; how many senders haven't closed; and
-- whether the receiver hasn't
pub record Messages (M : Type 0) : Type 0 where
  pub waiting : List M
  pub most : Option ℕ
  pub senders : ℕ
  pub is_open : Bool

-- one more can wait beside this many
abbrev pub has_room : Option ℕ → ℕ → Bool
has_room None count = true
has_room (Some most) count = nat_lt count most

module _ {M : Type 0} where
  -- an open queue of one sender in which nothing waits
  abbrev pub new_messages : Option ℕ → Messages M
  new_messages most = record { waiting = []; most = most; senders = 1; is_open = true }

  -- the receiver has something to do: messages wait, or all senders have closed
  abbrev pub is_ready : Messages M → Bool
  is_ready q = q.is_open && (not (length q.waiting == 0) || (q.senders == 0))

  -- nothing waits, and nothing will come any more
  abbrev pub is_over : Messages M → Bool
  is_over q = (length q.waiting == 0) && (q.senders == 0)

  abbrev pub with_message : Messages M → M → Messages M
  with_message q message = record q { waiting = q.waiting ++ message ∷ [] }

  -- all that waits is moved behind what a list has; or nothing is moved
  abbrev pub IsTaken : Messages M → List M → Result (Unit {0}) AllocError → Messages M → List M → Type 0
  IsTaken q before (Ok _) r after = (after ≡ before ++ q.waiting) × (r ≡ record q { waiting = [] })
  IsTaken q before (Err _) r after = (after ≡ before) × (r ≡ q)

  -- the message that waited longest waits no more; or none waits
  abbrev pub IsReceived : Messages M → Option M → Messages M → Type 0
  IsReceived q (Some message) r = (q.waiting ≡ message ∷ r.waiting) × (r ≡ record q { waiting = r.waiting })
  IsReceived q None r = (q.waiting ≡ []) × (r ≡ q)

  -- all that waits is handed out, and no message is taken in from now on
  abbrev pub IsClosed : Messages M → List M → Messages M → Type 0
  IsClosed q all r = (all ≡ q.waiting) × (r ≡ record q { waiting = []; is_open = false })

  -- one sender more beside at least one; or none is left, or they can't be counted further
  abbrev pub IsJoined : Messages M → Result (Unit {0}) AllocError → Messages M → Type 0
  IsJoined q (Ok _) r = (0 < q.senders) × (r ≡ record q { senders = q.senders + 1 })
  IsJoined q (Err _) r = (r ≡ q) × ((q.senders ≡ 0) ⊎ (q.senders ≡ 18446744073709551615))

module _ {M S : Type 0} (raises : S → Result (Unit {0}) Errno → S → Type 0) where
  -- the signal is raised where the queue is not ready yet, and else left alone
  abbrev pub IsRaised : Messages M → S → Result (Unit {0}) Errno → S → Type 0
  IsRaised q before answer after = MatchBool (is_ready q) ((answer ≡ Ok tt) × (after ≡ before)) (raises before answer after)

  -- why a message may be refused; but for a raise that is refused the signal is left alone
  abbrev pub IsRefused : Messages M → S → Refusal → S → Type 0
  IsRefused q before Closed after = (q.is_open ≡ false) × (after ≡ before)
  IsRefused q before Full after = (q.is_open ≡ true) × (has_room q.most (length q.waiting) ≡ false) × (after ≡ before)
  IsRefused q before OutOfMemory after = (q.is_open ≡ true) × (q.most ≡ None) × (after ≡ before)
  IsRefused q before (EventFd errno) after = (q.is_open ≡ true) × (has_room q.most (length q.waiting) ≡ true) × IsRaised q before (Err errno) after

  -- a send puts the message last, once the signal is raised; or the message comes back, and nothing changed
  abbrev pub IsSend : Messages M → S → M → Result (Unit {0}) (SendError M) → Messages M → S → Type 0
  IsSend q before message (Ok _) r after = (q.is_open ≡ true) × (has_room q.most (length q.waiting) ≡ true) × IsRaised q before (Ok tt) after × (r ≡ with_message q message)
  IsSend q before message (Err e) r after = (e.message ≡ message) × IsRefused q before e.why after × (r ≡ q)

  -- one sender less, once the signal is raised where that was the last one; or the sender counts as before
  abbrev pub IsLeave : Messages M → S → Result (Unit {0}) Errno → Messages M → S → Type 0
  IsLeave q before (Ok _) r after = (r ≡ record q { senders = q.senders - 1 }) × MatchBool (is_ready r) (IsRaised q before (Ok tt) after) (after ≡ before)
  IsLeave q before (Err errno) r after = (r ≡ q) × IsRaised q before (Err errno) after

-- the signal is lowered where the queue was ready and isn't now, and else left alone
abbrev pub IsLowered : {M S : Type 0} → (S → S → Type 0) → Messages M → S → Messages M → S → Type 0
IsLowered lowers q before r after = MatchBool (is_ready q && not (is_ready r)) (lowers before after) (after ≡ before)
