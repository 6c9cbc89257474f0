-- What the types of an entry's numbers can hold.
use Rattle.std.specs.Prelude.{◌<◌, ◌^◌, Result, IfOk, IfErr, FitsSigned}
use Rattle.std.specs.Int.{w32}
use Rattle.vmm_sys.specs.EpollEvent.{set_of, word_of}
use Rattle.vmm_sys.specs.EventSet.{bits_of}
use Rattle.vmm_sys.specs.declared.entries.EpollEvent.{EpollEvent}
use Rattle.vmm_sys.specs.declared.errno.Errno.{Errno}
use Rattle.poller_records.specs.declared.record.RecordEntry.{RecordEntry}
use Rattle.poller_records.specs.declared.record.RecordEntry.TheVariants.{Control, Wait, Reported}

-- a set of 32 bits and a word of 64
abbrev pub IsEvent : EpollEvent → Type 0
IsEvent event = (bits_of (set_of event) < 2 ^ 32) × (word_of event < 2 ^ 64)

-- an error number of 32 bits
abbrev pub HasErrno : {T : Type 0} → Result T Errno → Type 0
HasErrno answer = IfErr answer (λ error. FitsSigned w32 error.0)

-- an entry of such numbers
abbrev pub IsEntry : RecordEntry → Type 0
IsEntry (Control op fd event answer) = FitsSigned w32 fd × IsEvent event × HasErrno answer
IsEntry (Wait ms room answer) = FitsSigned w32 ms × (room < 2 ^ 64) × IfOk answer (λ count. count < 2 ^ 64) × HasErrno answer
IsEntry (Reported event) = IsEvent event
