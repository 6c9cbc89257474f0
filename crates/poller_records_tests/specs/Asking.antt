-- What is asked of a poller, as calls.
use Rattle.std.specs.Prelude.{ℕ, List, [], ◌∷◌}
use Rattle.vmm_sys.specs.declared.entries.EpollEvent.{EpollEvent}
use Rattle.vmm_sys.specs.declared.entries.ControlOperation.TheVariants.{Add}
use Rattle.poller_records.specs.PollerRun.{Call, Ctl, Wait}
use Rattle.poller_records_tests.specs.declared.asked_again.Asked.{Asked}
use Rattle.poller_records_tests.specs.declared.asked_again.Answers.{Answers}

-- the two calls with these answers, the second with a buffer of this length and what was reported in it
abbrev pub calls_of : Asked → Answers → ℕ → List EpollEvent → List Call
calls_of asked answers room events = Ctl Add asked.fd asked.event answers.added ∷ Wait asked.ms room answers.waited events ∷ []
