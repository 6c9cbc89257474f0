-- A poller that refuses one of its calls, and else follows a script.
use Rattle.std.specs.Prelude.{ℕ, ℤ, Bool, ◌+◌, ◌-◌, ◌^◌, ◌≡◌, ◌==◌, min, if◌then◌else◌, List, Result, Err, refl}
use Rattle.std.specs.Coded.{Coded, code_by, coded_ℕ, coded×}
use base.Stored.{Gv}
use Rattle.vmm_sys.specs.declared.entries.EpollEvent.{EpollEvent}
use Rattle.vmm_sys.specs.declared.entries.ControlOperation.{ControlOperation}
use Rattle.vmm_sys.specs.declared.errno.Errno.{Errno}
use Rattle.vmm_sys.specs.Codes.{errno_code}
use Rattle.vmm_sys.specs.ScriptPoller.{Answer, Script, script_code, ctl_answer, after_ctl, next_answer, after_wait, answered_entries, answered_count}

-- the script, the number of the call that is refused, with which error, and how many calls there were
pub record Faulty : Type 0 where
  pub script : Script
  pub at : ℕ
  pub errno : Errno
  pub calls : ℕ

-- one more call; the count stops at its highest value
abbrev pub counted : Faulty → Faulty
counted f = record f { calls = min (f.calls + 1) (2 ^ 64 - 1) }

-- whether the next call is the one that is refused
abbrev pub is_refused : Faulty → Bool
is_refused f = (counted f).calls == f.at

-- what the next call answers, where it is `ctl`, and what it leaves: a refused call leaves the script
abbrev pub answer_to_ctl : Faulty → ControlOperation → ℤ → Result (Unit {0}) Errno
answer_to_ctl f op fd = if is_refused f then Err f.errno else ctl_answer f.script op fd

abbrev pub faulty_after_ctl : Faulty → ControlOperation → ℤ → Faulty
faulty_after_ctl f op fd = if is_refused f then counted f else record (counted f) { script = after_ctl f.script op fd }

-- the same where it is a wait with this room
abbrev pub answer_to_wait : Faulty → ℕ → Answer
answer_to_wait f room = if is_refused f then Err f.errno else next_answer f.script.answers room

abbrev pub faulty_after_wait : Faulty → ℕ → Faulty
faulty_after_wait f room = if is_refused f then counted f else record (counted f) { script = after_wait f.script room }

-- its state as a tree of numbers: different states have different codes
abbrev pub faulty_code : Coded Faulty
faulty_code =
    code_by (Script × (ℕ × (Errno × ℕ))) (coded× script_code (coded× coded_ℕ (coded× errno_code coded_ℕ)))
    (λ f. (f.script, (f.at, (f.errno, f.calls)))) (λ p. record { script = p.0; at = p.1.0; errno = p.1.1.0; calls = p.1.1.1 }) (λ _. refl)

-- the one answer of `ctl`, and the one state after it
abbrev pub MayCtl : Gv → ControlOperation → ℤ → EpollEvent → Result (Unit {0}) Errno → Gv → Type 0
MayCtl before op fd event answer after =
    (f : Faulty) × (before ≡ faulty_code.code f) × (answer ≡ answer_to_ctl f op fd) × (after ≡ faulty_code.code (faulty_after_ctl f op fd))

-- the one answer of `wait` with its entries, and the one state after it
abbrev pub MayWait : Gv → ℤ → ℕ → Result ℕ Errno → List EpollEvent → Gv → Type 0
MayWait before ms room answer entries after =
    (f : Faulty) × (before ≡ faulty_code.code f) × (answer ≡ answered_count (answer_to_wait f room))
    × (entries ≡ answered_entries (answer_to_wait f room)) × (after ≡ faulty_code.code (faulty_after_wait f room))
