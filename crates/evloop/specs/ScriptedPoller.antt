-- A poller that is to follow a script.
use Rattle.std.specs.Prelude.{List, [], ◌∷◌, Ok, Err}
use Rattle.vmm_sys.specs.ScriptPoller.{Script, Answer, with_answer, with_refusal}
use Rattle.vmm_sys.specs.declared.errno.TheConstants.Errno.{EINTR}
use Rattle.evloop_script.specs.declared.script.Wait.{Wait}
use Rattle.evloop_script.specs.declared.script.Wait.TheVariants.{Report, Interrupted}
use Rattle.evloop_script.specs.declared.script.Refusal.{Refusal}

-- a poller with nothing to say
abbrev pub empty : Script
empty = record { answers = []; refusals = [] }

-- what a wait answers
abbrev pub wait_answer : Wait → Answer
wait_answer (Report events) = Ok events.items
wait_answer Interrupted = Err EINTR

-- the poller with these waits after its own
abbrev pub with_waits : Script → List Wait → Script
with_waits poller [] = poller
with_waits poller (wait ∷ waits) = with_waits (with_answer poller (wait_answer wait)) waits

-- the poller with these refusals after its own
abbrev pub with_refusals : Script → List Refusal → Script
with_refusals poller [] = poller
with_refusals poller (refusal ∷ refusals) = with_refusals (with_refusal poller refusal.operation refusal.fd refusal.errno) refusals
