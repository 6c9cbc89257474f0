-- The account of sends, takes and closes, without a queue.
use Rattle.std.specs.Prelude.{◌≡◌, ℕ, ◌+◌, Bool, true, false, nat_lt, if◌then◌else◌, List, [], ◌∷◌, ◌++◌, length, take, None, Result, Ok, Err}
use Rattle.vmm_sys.specs.declared.errno.Errno.{Errno}
use Rattle.event_loop.specs.declared.error.Error.{Error}
use Rattle.event_loop.specs.declared.error.Error.TheVariants.{ChannelSend, EventFd, TicketsUsedUp, OutOfMemory}
use Rattle.event_manager.specs.declared.jobs.account.Step.{Step}
use Rattle.event_manager.specs.declared.jobs.account.Step.TheVariants.{Send, Take, Close}
use Rattle.event_manager.specs.JobQueue.{QueueState, IsSend, after_take, after_close, most, tickets_and_jobs}

-- after n accepted jobs, where the bell answers so
abbrev pub answer_of_bell : ℕ → Result (Unit {0}) Errno → Result ℕ Error
answer_of_bell n (Ok u) = Ok (n + 1)
answer_of_bell n (Err errno) = Err (EventFd errno)

module _ {J : Type 0} where
  abbrev pub has_close : List (Step J) → Bool
  has_close [] = false
  has_close (Send job bell ∷ steps) = has_close steps
  has_close (Take ∷ steps) = has_close steps
  has_close (Close ∷ steps) = true

  abbrev pub has_take : List (Step J) → Bool
  has_take [] = false
  has_take (Send job bell ∷ steps) = has_take steps
  has_take (Take ∷ steps) = true
  has_take (Close ∷ steps) = has_take steps

  -- all before the first close
  abbrev pub open_part : List (Step J) → List (Step J)
  open_part [] = []
  open_part (Send job bell ∷ steps) = Send job bell ∷ open_part steps
  open_part (Take ∷ steps) = Take ∷ open_part steps
  open_part (Close ∷ steps) = []

  -- the jobs of the sends whose bell answers Ok
  abbrev pub jobs_offered : List (Step J) → List J
  jobs_offered [] = []
  jobs_offered (Send job (Ok u) ∷ steps) = job ∷ jobs_offered steps
  jobs_offered (Send job (Err errno) ∷ steps) = jobs_offered steps
  jobs_offered (Take ∷ steps) = jobs_offered steps
  jobs_offered (Close ∷ steps) = jobs_offered steps

  -- all before the last take, and nothing where there is none
  abbrev pub before_last_take : List (Step J) → List (Step J)
  before_last_take [] = []
  before_last_take (step ∷ steps) = if has_take steps then step ∷ before_last_take steps else []

  -- the n-th has ticket n
  abbrev pub with_tickets : ℕ → List J → List (ℕ × J)
  with_tickets n [] = []
  with_tickets n (job ∷ jobs) = (n + 1, job) ∷ with_tickets (n + 1) jobs

  abbrev pub jobs_accepted : List (Step J) → List J
  jobs_accepted steps = take most (jobs_offered (open_part steps))

  -- what the takes hand out, put together
  abbrev pub jobs_handed_out : List (Step J) → List (ℕ × J)
  jobs_handed_out steps = with_tickets 0 (take most (jobs_offered (before_last_take (open_part steps))))

  -- what a send answers after these steps, where its bell answers so
  abbrev pub answer : List (Step J) → Result (Unit {0}) Errno → Result ℕ Error
  answer before bell = if has_close before then Err ChannelSend else if nat_lt (length (jobs_accepted before)) most then answer_of_bell (length (jobs_accepted before)) bell else Err TicketsUsedUp

  -- what the sends of the second list answer after the steps of the first
  abbrev pub answers_after : List (Step J) → List (Step J) → List (Result ℕ Error)
  answers_after before [] = []
  answers_after before (Send job bell ∷ steps) = answer before bell ∷ answers_after (before ++ (Send job bell ∷ [])) steps
  answers_after before (Take ∷ steps) = answers_after (before ++ (Take ∷ [])) steps
  answers_after before (Close ∷ steps) = answers_after (before ++ (Close ∷ [])) steps

  abbrev pub answers_to_sends : List (Step J) → List (Result ℕ Error)
  answers_to_sends steps = answers_after [] steps

  -- one step of the replay: the answers, what was handed out, and the queue
  abbrev pub IsReplayed : Step J → QueueState J (Unit {0}) → List (Result ℕ Error) → List (ℕ × J)
      → QueueState J (Unit {0}) → List (Result ℕ Error) → List (ℕ × J) → Type 0
  IsReplayed (Send job bell) queue answers handed queue_after answers_now handed_now =
      (answer : Result ℕ Error) × IsSend (λ (answered : Result (Unit {0}) Errno). answered ≡ bell) queue job None answer queue_after × (answer ≡ Err OutOfMemory → ⊥)
      × (answers_now ≡ answers ++ (answer ∷ [])) × (handed_now ≡ handed)
  IsReplayed Take queue answers handed queue_after answers_now handed_now =
      (queue_after ≡ after_take queue) × (answers_now ≡ answers) × (handed_now ≡ handed ++ tickets_and_jobs queue.waiting)
      × (queue.closed ≡ true → queue.waiting ≡ [])
  IsReplayed Close queue answers handed queue_after answers_now handed_now =
      (queue_after ≡ after_close queue) × (answers_now ≡ answers) × (handed_now ≡ handed)
