-- A poller with timers beside it: its state, and its two relations.
use Rattle.std.specs.Prelude.{ℕ, ℤ, pos, negsuc, ◌-◌, ◌≡◌, ◌<◌, ◌⊎◌, ◌==◌, ◌||◌, ◌&&◌, Bool, true, false, not, nat_lt, if◌then◌else◌, List, [], ◌∷◌, ◌++◌, length, filter, Result, Ok, Err, Option, Some, None, IfSome, MatchBool, refl}
use Rattle.std.specs.Ordering.{int_eq}
use Rattle.std.specs.Coded.{Coded, code_by, coded_ℤ, coded_bool, coded×}
use base.Stored.{Gv}
use denote.Struct.Codes.{itself}
use Rattle.vmm_sys.specs.declared.entries.EpollEvent.{EpollEvent}
use Rattle.vmm_sys.specs.declared.entries.ControlOperation.{ControlOperation}
use Rattle.vmm_sys.specs.declared.entries.ControlOperation.TheVariants.{Add, Modify, Delete}
use Rattle.vmm_sys.specs.declared.errno.Errno.{Errno}
use Rattle.vmm_sys.specs.declared.errno.TheConstants.Errno.{EINVAL, ENOMEM}
use Rattle.vmm_sys.specs.EventSet.{with_bits}
use Rattle.vmm_sys.specs.EpollEvent.{event, word_of}
use Rattle.vmm_sys.specs.Poller.{CtlRelation, WaitRelation}
use Rattle.vmm_sys.specs.Table.{ctl_of, wait_of, filled, reported_entries}
use Rattle.timerfd.specs.TimerTable.{TimerTableState, table_of, with_told, AreReached, Changes}
use Rattle.timerfd.specs.Timers.{told}
use Rattle.timerfd.specs.Limits.{IsLimit}

-- the poller below, the descriptor of the timers' own counter, and whether the poller below comes first in the next wait
pub record Timed (P : Type 0) : Type 0 where
  pub poller : P
  pub counter : ℤ
  pub others_first : Bool

-- the same beside another value of the poller
abbrev pub with_poller : {P Q : Type 0} → Timed P → Q → Timed Q
with_poller t poller = record { poller = poller; counter = t.counter; others_first = t.others_first }

-- the meaning of the poller below and the rest as a tree of numbers: different ones have different codes
abbrev pub timed_code : Coded (Timed Gv)
timed_code =
    code_by (Gv × (ℤ × Bool)) (coded× itself (coded× coded_ℤ coded_bool)) (λ t. (t.poller, (t.counter, t.others_first)))
    (λ p. record { poller = p.0; counter = p.1.0; others_first = p.1.1 }) (λ _. refl)

-- The timers' own counter

-- its event's word is 18446744073709551615
abbrev pub is_alarm : EpollEvent → Bool
is_alarm e = word_of e == 18446744073709551615

-- what the poller below is asked to report of it: IN (0x1)
abbrev pub alarm : EpollEvent
alarm = event (with_bits 0x1) 18446744073709551615

-- the other entries
abbrev pub others_of : List EpollEvent → List EpollEvent
others_of entries = filter (λ e. not (is_alarm e)) entries

-- a poller is made by adding that counter
abbrev pub IsMadeOf : {P : Type 0} → (P → Gv) → CtlRelation → P → ℤ → Result (Timed P) Errno → Type 0
IsMadeOf meaning may_ctl poller counter (Ok t) = may_ctl (meaning poller) Add counter alarm (Ok tt) (meaning t.poller) × (t.counter ≡ counter) × (t.others_first ≡ false)
IsMadeOf meaning may_ctl poller counter (Err errno) = (errno ≡ ENOMEM) ⊎ ((after : Gv) × may_ctl (meaning poller) Add counter alarm (Err errno) after)

-- Changes of the interest list

-- the index of the timer with this descriptor, where there are this many timers: they count down from the highest one
abbrev pub timer_of : ℤ → ℕ → Option ℕ
timer_of (pos n) count = if nat_lt n 2147483648 && nat_lt (2147483647 - n) count then Some (2147483647 - n) else None
timer_of (negsuc n) count = None

-- a change is refused of that counter, and where an event would have its word
abbrev pub is_refused : ℤ → ControlOperation → ℤ → EpollEvent → Bool
is_refused counter Delete fd e = int_eq fd counter
is_refused counter Add fd e = int_eq fd counter || is_alarm e
is_refused counter Modify fd e = int_eq fd counter || is_alarm e

-- what these timers answer to a change, and are then: nothing where none has this descriptor
abbrev pub ChangesTimer : ControlOperation → ℤ → EpollEvent → TimerTableState → Option (Result (Unit {0}) Errno) → TimerTableState → Type 0
ChangesTimer op fd e s None u = (timer_of fd (length s.told.timers) ≡ None) × (u ≡ s)
ChangesTimer op fd e s (Some answer) u = (index : ℕ) × (timer_of fd (length s.told.timers) ≡ Some index) × Changes (ctl_of (table_of s) op (pos index) e) s answer u

-- some timers, to which calls lead, answer so
abbrev pub AnswersOfTimer : ControlOperation → ℤ → EpollEvent → Option (Result (Unit {0}) Errno) → Type 0
AnswersOfTimer op fd e answer = (s u : TimerTableState) × ChangesTimer op fd e s answer u × IfSome answer (λ _. AreReached s)

-- a change is that of a timer or of the poller below, by the descriptor
abbrev pub MayCtl : CtlRelation → CtlRelation
MayCtl may_ctl before op fd e answer after =
    (t : Timed Gv) × (before ≡ timed_code.code t)
    × MatchBool (is_refused t.counter op fd e)
    ((answer ≡ Err EINVAL) × (after ≡ before))
    (((after ≡ before) × AnswersOfTimer op fd e (Some answer))
    ⊎ (AnswersOfTimer op fd e None × (poller : Gv) × may_ctl t.poller op fd e answer poller × (after ≡ timed_code.code (with_poller t poller))))

-- Waits

-- the entries that timers report with this room
abbrev pub report_of : TimerTableState → ℕ → List EpollEvent
report_of s room = reported_entries (wait_of (table_of s) room)

-- some timers, to which calls lead, have reported in front of the buffer
abbrev pub Reports : List EpollEvent → ℕ → List EpollEvent → Type 0
Reports before count after = (s : TimerTableState) × (count ≡ length (report_of s (length before))) × (after ≡ filled (wait_of (table_of s) (length before)) before) × AreReached s

-- told what is known of the time
abbrev pub told_of : Option ℕ → TimerTableState → TimerTableState
told_of None s = s
told_of (Some now) s = with_told s (told now s.told)

-- a wait with this limit has begun: some timers, to which calls lead, have reported in front of the buffer, and limit it
abbrev pub Begins : ℤ → List EpollEvent → ℕ → ℤ → List EpollEvent → Type 0
Begins ms before front limit after =
    (s : TimerTableState) × (is_known : Bool) × IsLimit s is_known ms limit
    × (front ≡ length (report_of s (length before))) × (after ≡ filled (wait_of (table_of s) (length before)) before) × AreReached s

-- the number of these entries in place of that of the poller below
abbrev pub counted_by : List EpollEvent → Result ℕ Errno → Result ℕ Errno
counted_by entries (Ok _) = Ok (length entries)
counted_by entries (Err errno) = Err errno

-- these entries, unless the poller below answers an error
abbrev pub unless_refused : Result ℕ Errno → List EpollEvent → List EpollEvent
unless_refused (Ok _) entries = entries
unless_refused (Err _) entries = []

-- a wait of the poller below, less the entry of the timers' own counter
abbrev pub FromBelow : WaitRelation → WaitRelation
FromBelow may_wait before limit room answer entries after =
    (inner : Result ℕ Errno) × (all : List EpollEvent) × may_wait before limit room inner all after
    × (entries ≡ others_of all) × (answer ≡ counted_by entries inner)

-- timers fill the room: the poller below isn't asked, and comes first in the next wait
abbrev pub FromTimers : Timed Gv → ℕ → Result ℕ Errno → List EpollEvent → Gv → Type 0
FromTimers t room answer entries after =
    (s : TimerTableState) × (entries ≡ report_of s room) × (length entries ≡ room) × (answer ≡ Ok room)
    × (after ≡ timed_code.code (record t { others_first = true })) × AreReached s

-- where these entries are none, the late ones
abbrev pub or_late : List EpollEvent → List EpollEvent → List EpollEvent
or_late late [] = late
or_late late (e ∷ entries) = e ∷ entries

-- timers come first, and the poller below has the room that is left; its error is the answer. Where neither has an entry, timers that are
-- due by then have the room
abbrev pub TimersFirst : WaitRelation → Timed Gv → ℤ → ℕ → Result ℕ Errno → List EpollEvent → Gv → Type 0
TimersFirst may_wait t ms room answer entries after =
    (s later : TimerTableState) × (is_known : Bool) × (limit : ℤ) × IsLimit s is_known ms limit × (length (report_of s room) < room)
    × (inner : Result ℕ Errno) × (others : List EpollEvent) × (poller : Gv)
    × FromBelow may_wait t.poller limit (room - length (report_of s room)) inner others poller
    × (entries ≡ unless_refused inner (or_late (report_of later room) (report_of s room ++ others))) × (answer ≡ counted_by entries inner)
    × (after ≡ timed_code.code (record { poller = poller; counter = t.counter; others_first = false })) × AreReached s × AreReached later

-- the poller below comes first, and timers have the room that is left; its error is the answer
abbrev pub OthersFirst : WaitRelation → Timed Gv → ℤ → ℕ → Result ℕ Errno → List EpollEvent → Gv → Type 0
OthersFirst may_wait t ms room answer entries after =
    (s later : TimerTableState) × (is_known : Bool) × (limit : ℤ) × IsLimit s is_known ms limit
    × (inner : Result ℕ Errno) × (others : List EpollEvent) × (poller : Gv) × FromBelow may_wait t.poller limit room inner others poller
    × (entries ≡ unless_refused inner (others ++ report_of later (room - length others))) × (answer ≡ counted_by entries inner)
    × (after ≡ timed_code.code (record { poller = poller; counter = t.counter; others_first = false })) × AreReached s × AreReached later

-- a wait without room is refused; else it is one of the three
abbrev pub MayWait : WaitRelation → WaitRelation
MayWait may_wait before ms room answer entries after =
    (t : Timed Gv) × (before ≡ timed_code.code t)
    × MatchBool (room == 0)
    ((answer ≡ Err EINVAL) × (entries ≡ []) × (after ≡ before))
    (MatchBool t.others_first
    (OthersFirst may_wait t ms room answer entries after)
    (FromTimers t room answer entries after ⊎ TimersFirst may_wait t ms room answer entries after))
