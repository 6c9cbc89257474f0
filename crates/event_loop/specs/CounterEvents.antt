-- Counters of events, and what is observed beside them.
use Rattle.std.specs.Prelude.{ℕ, ℤ, ◌+◌, ◌==◌, min, false, true, List, ◌++◌, codes, decimal, Option, Some, None, Result, Ok, Err, unsigned_abs, if◌then◌else◌}
use Rattle.std.specs.Fmt.{signed_decimal}
use Rattle.dispatch_tables.specs.Event.{Event}
use Rattle.event_loop.specs.Exchange.{Answer}
use Rattle.event_loop.specs.declared.error.Error.{Error}
use Rattle.event_loop.specs.declared.events.RefusedRequest.{RefusedRequest}
use Rattle.event_loop.specs.declared.utilities.subscribers.counter.Counter.{Counter}
use Rattle.event_loop.specs.declared.utilities.subscribers.event_kind.EventKind.{EventKind}
use Rattle.event_loop.specs.declared.utilities.subscribers.event_kind.EventKind.TheVariants as kind
use Rattle.event_loop.specs.declared.utilities.subscribers.observations.Observations.{Observations}
use Rattle.vmm_sys.specs.declared.eventfd.EventFd.{EventFd}
use Rattle.vmm_sys.specs.EventFd.{descriptor_of as descriptor_of_event_fd}

-- what an event is, by exactly its set: IN is 1, ERROR 8, HANG_UP 16
abbrev pub kind_of : ℕ → EventKind
kind_of set = if set == 1 then kind.Input else (if set == 8 then kind.Error else (if set == 16 then kind.HangUp else kind.Other))

-- one more, up to 2^64 - 1
abbrev pub next_count : ℕ → ℕ
next_count n = min (n + 1) 18446744073709551615

-- a counter: its descriptor, how many events it had, one event more
abbrev pub descriptor_of : Counter → ℤ
descriptor_of counter = descriptor_of_event_fd counter.event_fd

abbrev pub count_of : Counter → ℕ
count_of counter = counter.counter

abbrev pub new_counter : EventFd → Counter
new_counter event_fd = record { event_fd = event_fd; counter = 0 }

abbrev pub one_more : Counter → Counter
one_more counter = record counter { counter = next_count counter.counter }

-- IN of its descriptor, with this data
abbrev pub event_on : Counter → ℕ → Event
event_on counter payload = record { fd = unsigned_abs (descriptor_of counter); payload = payload; set = 1 }

-- what it prints
abbrev pub counter_text : Counter → List ℕ
counter_text counter = codes "(event_fd = " ++ (signed_decimal (descriptor_of counter) ++ (codes ", counter = " ++ (decimal (count_of counter) ++ codes ")")))

-- what is observed: nothing so far; one error more; one spurious event more; the first refusal; a hang-up
abbrev pub nothing_observed : Observations
nothing_observed = record { errors = 0; spurious = 0; hung_up = false; fault = None }

abbrev pub with_error : Observations → Observations
with_error observed = record observed { errors = next_count observed.errors }

abbrev pub with_spurious : Observations → Observations
with_spurious observed = record observed { spurious = next_count observed.spurious }

abbrev pub first_fault : Answer → Option Error → Option Error
first_fault (Ok entry) fault = fault
first_fault (Err error) None = Some error
first_fault (Err error) (Some first) = Some first

abbrev pub with_fault : Answer → Observations → Observations
with_fault answer observed = record observed { fault = first_fault answer observed.fault }

-- of a list of requests
abbrev pub with_first_fault : Result (Unit {0}) RefusedRequest → Observations → Observations
with_first_fault (Ok entry) observed = observed
with_first_fault (Err refused) observed = with_fault (Err refused.error) observed

abbrev pub with_hang_up : Answer → Observations → Observations
with_hang_up answer observed = with_fault answer (record observed { hung_up = true })
