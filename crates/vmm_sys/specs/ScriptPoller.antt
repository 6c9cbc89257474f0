-- A poller that follows a script: what it holds, what each call answers, and what it leaves.
use Rattle.std.specs.Prelude.{ℕ, ℤ, zero, suc, ◌≡◌, Bool, true, false, ◌&&◌, nat_le, if◌then◌else◌, List, [], ◌∷◌, ◌++◌, length, take, drop, find, Vec, Option, Some, None, Result, Ok, Err, refl}
use Rattle.std.specs.declared.alloc.Global.{Global}
use Rattle.std.specs.Ordering.{int_eq}
use Rattle.std.specs.Coded.{Coded, code_by, coded_ℤ, coded_list, coded×, coded_result}
use base.Stored.{Gv}
use Rattle.vmm_sys.specs.declared.entries.EpollEvent.{EpollEvent}
use Rattle.vmm_sys.specs.declared.entries.ControlOperation.{ControlOperation}
use Rattle.vmm_sys.specs.declared.entries.ControlOperation.TheVariants.{Add, Modify, Delete}
use Rattle.vmm_sys.specs.declared.errno.Errno.{Errno}
use Rattle.vmm_sys.specs.declared.errno.TheConstants.Errno.{EINVAL}
use Rattle.vmm_sys.specs.declared.script_poller.Refusal.{Refusal}
use Rattle.vmm_sys.specs.Lists.{without_first}
use Rattle.vmm_sys.specs.Codes.{event_code, errno_code, operation_code}

-- what a wait is to answer: a report, or an error
abbrev pub Answer : Type 0
Answer = Result (List EpollEvent) Errno

-- the answers of the waits to come, and the refusals that are kept
pub record Script : Type 0 where
  pub answers : List Answer
  pub refusals : List Refusal

-- the script with one more answer
abbrev pub with_answer : Script → Answer → Script
with_answer s answer = record s { answers = s.answers ++ answer ∷ [] }

-- the script with one more refusal
abbrev pub with_refusal : Script → ControlOperation → ℤ → Errno → Script
with_refusal s op fd errno = record s { refusals = s.refusals ++ (record { op = op; fd = fd; errno = errno }) ∷ [] }

-- an answer, as the code holds it
abbrev pub scripted_answer : Result (Vec EpollEvent Global) Errno → Answer
scripted_answer (Ok events) = Ok events.items
scripted_answer (Err errno) = Err errno

abbrev pub same_operation : ControlOperation → ControlOperation → Bool
same_operation Add Add = true
same_operation Modify Modify = true
same_operation Delete Delete = true
same_operation _ _ = false

-- whether a refusal is of this operation and descriptor
abbrev pub refuses : ControlOperation → ℤ → Refusal → Bool
refuses op fd r = same_operation r.op op && int_eq r.fd fd

-- what a refusal answers, or Ok where there is none
abbrev pub error_of : Option Refusal → Result (Unit {0}) Errno
error_of None = Ok tt
error_of (Some r) = Err r.errno

-- the first refusal of the operation and descriptor is answered
abbrev pub ctl_answer : Script → ControlOperation → ℤ → Result (Unit {0}) Errno
ctl_answer s op fd = error_of (find (refuses op fd) s.refusals)

-- and struck out
abbrev pub after_ctl : Script → ControlOperation → ℤ → Script
after_ctl s op fd = record s { refusals = without_first (refuses op fd) s.refusals 1 }

-- what a wait answers that has this room and these answers before it: of a longer report the first events
abbrev pub next_answer : List Answer → ℕ → Answer
next_answer answers zero = Err EINVAL
next_answer [] (suc c) = Ok []
next_answer (Err errno ∷ rest) (suc c) = Err errno
next_answer (Ok events ∷ rest) (suc c) = Ok (take (suc c) events)

-- the answers that stay: of a longer report the other events
abbrev pub later_answers : List Answer → ℕ → List Answer
later_answers answers zero = answers
later_answers [] (suc c) = []
later_answers (Err errno ∷ rest) (suc c) = rest
later_answers (Ok events ∷ rest) (suc c) = if nat_le (length events) (suc c) then rest else Ok (drop (suc c) events) ∷ rest

abbrev pub after_wait : Script → ℕ → Script
after_wait s room = record s { answers = later_answers s.answers room }

-- the entries of an answer
abbrev pub answered_entries : Answer → List EpollEvent
answered_entries (Ok events) = events
answered_entries (Err errno) = []

-- the number of the entries, as a wait answers it
abbrev pub answered_count : Answer → Result ℕ Errno
answered_count (Ok events) = Ok (length events)
answered_count (Err errno) = Err errno

abbrev refusal_code : Coded Refusal
refusal_code =
    code_by (ControlOperation × (ℤ × Errno)) (coded× operation_code (coded× coded_ℤ errno_code))
    (λ r. (r.op, (r.fd, r.errno))) (λ p. record { op = p.0; fd = p.1.0; errno = p.1.1 }) (λ _. refl)

-- a script as a tree of numbers: different scripts have different codes
abbrev pub script_code : Coded Script
script_code =
    code_by (List Answer × List Refusal) (coded× (coded_list (coded_result (coded_list event_code) errno_code)) (coded_list refusal_code))
    (λ s. (s.answers, s.refusals)) (λ p. record { answers = p.0; refusals = p.1 }) (λ _. refl)

-- the one answer of `ctl`, and the one state after it
abbrev pub MayCtl : Gv → ControlOperation → ℤ → EpollEvent → Result (Unit {0}) Errno → Gv → Type 0
MayCtl before op fd event answer after =
    (s : Script) × (before ≡ script_code.code s) × (answer ≡ ctl_answer s op fd) × (after ≡ script_code.code (after_ctl s op fd))

-- the one answer of `wait` with its entries, and the one state after it
abbrev pub MayWait : Gv → ℤ → ℕ → Result ℕ Errno → List EpollEvent → Gv → Type 0
MayWait before ms room answer entries after =
    (s : Script) × (before ≡ script_code.code s) × (answer ≡ answered_count (next_answer s.answers room))
    × (entries ≡ answered_entries (next_answer s.answers room)) × (after ≡ script_code.code (after_wait s room))
