-- The ready list: the part of the buffer that is still to come.
use Rattle.std.specs.Prelude.{ℕ, Bool, List, take, drop, map, Result, Ok, Err}
use Rattle.vmm_sys.specs.declared.errno.Errno.{Errno}
use Rattle.vmm_sys.specs.declared.entries.EpollEvent.{EpollEvent}
use Rattle.dispatch_tables.specs.Event.{Event, event_of_entry}
use Rattle.dispatch_tables.specs.Cancelled.{is_among}

-- whether the entry's descriptor stands in the list
abbrev pub is_cancelled : List ℕ → EpollEvent → Bool
is_cancelled cancelled e = is_among (event_of_entry e).fd cancelled

-- the positions from i up to n, each with a mark where its descriptor stands in the list
abbrev pub ready_of : List EpollEvent → List ℕ → ℕ → ℕ → List (Event × Bool)
ready_of buffer cancelled i n = map (λ e. (event_of_entry e, is_cancelled cancelled e)) (drop i (take n buffer))

-- what a wait reported
abbrev pub report_of : Result ℕ Errno → List EpollEvent → Result (List Event) Errno
report_of (Ok n) buffer = Ok (map event_of_entry (take n buffer))
report_of (Err e) buffer = Err e
