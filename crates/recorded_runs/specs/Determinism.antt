-- A replay is the run: of subscribers and jobs that are functions, the calls, the jobs and the poller decide all that happens.
use Rattle.std.specs.Prelude.{◌≡◌, ℕ, List, [], ◌∷◌, ◌++◌, ◌⊎◌, map, Contains, Ok, Err}
use Rattle.std.specs.List.{AllZip, flat_map}
use Rattle.event_loop.specs.Prelude.{Event, Exchanges, Answer, answers_of, Begins, Serves, LoopStep, Joined, NotJoined, Left, Replaced, Requested, Refused, May, Position, exchanges_of, LoopContents, JobRun}
use Rattle.event_loop.specs.declared.error.Error.TheVariants.{OutOfMemory}
use Rattle.event_manager.specs.Trace.{Effect, Stepped, Iterated, TraceEntry, calls_of_trace}
use Rattle.event_manager.specs.declared.calls.Call.{Call}
use Rattle.event_manager.specs.declared.calls.Call.TheVariants as call
use Rattle.event_manager.specs.declared.calls.Reply.{Reply}
use Rattle.event_manager.specs.declared.calls.Reply.TheVariants as reply

-- both ask the same for as long as they are answered the same
abbrev pub AskAlike : Exchanges → Exchanges → Type 0
AskAlike [] [] = Unit {0}
AskAlike (exchange ∷ exchanges) (other ∷ others) = (exchange.0 ≡ other.0) × (exchange.1 ≡ other.1 → AskAlike exchanges others)
AskAlike [] (other ∷ others) = ⊥
AskAlike (exchange ∷ exchanges) [] = ⊥

-- from each value the answers so far decide what is asked next, and all of them the value after
abbrev pub IsFunction : {V : Type 0} → Begins V → Type 0
IsFunction {V} relates =
    (before : V) (exchanges others : Exchanges) (after onto : V) → relates before exchanges after → relates before others onto
    → AskAlike exchanges others × (exchanges ≡ others → after ≡ onto)

-- what a step is asked for, whatever is answered: a value joins; an id leaves, holds another value, makes requests
pub data Asked (V : Type 0) : Type 0 where
  ToJoin : V → Asked V
  ToLeave : ℕ → Asked V
  ToHold : ℕ → Asked V
  ToRequest : ℕ → Asked V

module _ {V : Type 0} where
  -- the step is an answer to what was asked for
  abbrev pub Answers : Asked V → LoopStep V → Type 0
  Answers asked (Joined value id exchanges calls held) = asked ≡ ToJoin value
  Answers asked (NotJoined value error) = asked ≡ ToJoin value
  Answers asked (Left id value calls) = asked ≡ ToLeave id
  Answers asked (Replaced id old new) = asked ≡ ToHold id
  Answers asked (Requested id exchanges calls) = asked ≡ ToRequest id
  Answers asked (Refused id) = (asked ≡ ToLeave id) ⊎ (asked ≡ ToHold id) ⊎ (asked ≡ ToRequest id)

  -- the old value decides the new one; the requests ask alike
  abbrev pub GoAlike : LoopStep V → LoopStep V → Type 0
  GoAlike (Replaced id old new) (Replaced other older newer) = old ≡ older → new ≡ newer
  GoAlike (Requested id exchanges calls) (Requested other others more) = AskAlike exchanges others
  GoAlike step other = Unit {0}

  -- two steps that differ by their answers alone
  abbrev pub AreAlike : LoopStep V → LoopStep V → Type 0
  AreAlike step other = (asked : Asked V) × Answers asked step × Answers asked other × GoAlike step other

  -- both take the same steps for as long as they are answered the same
  abbrev pub StepsAlike : List (LoopStep V) → List (LoopStep V) → Type 0
  StepsAlike [] [] = Unit {0}
  StepsAlike (step ∷ steps) (other ∷ others) = AreAlike step other × (step ≡ other → StepsAlike steps others)
  StepsAlike [] (other ∷ others) = ⊥
  StepsAlike (step ∷ steps) [] = ⊥

-- of each job the steps so far decide what it asks for next, and all of them its reply
abbrev pub IsJobFunction : {V J R : Type 0} → (J → List (LoopStep V) → R → Type 0) → Type 0
IsJobFunction {V} {J} {R} may =
    (job : J) (steps others : List (LoopStep V)) (r q : R) → may job steps r → may job others q → StepsAlike steps others × (steps ≡ others → r ≡ q)

module _ {V J R : Type 0} (begins : Begins V) (serves : Serves V) (may : May V J R) where
  -- a subscriber's `init`, its `process` of each event, and its jobs
  pub record AreFunctions : Type 0 where
    pub init : IsFunction begins
    pub process : (event : Event) → IsFunction (λ before exchanges after. serves before event exchanges after)
    pub jobs : IsJobFunction may

-- the same call; the same reply; wherever the vectors in them lie
abbrev pub IsSameCall : {V : Type 0} → Call V → Call V → Type 0
IsSameCall (call.Ask id requests) (call.Ask other others) = (id ≡ other) × (requests.items ≡ others.items)
IsSameCall c other = c ≡ other

abbrev pub IsSameReply : {V : Type 0} → Reply V → Reply V → Type 0
IsSameReply (reply.Asked (Ok answers)) (reply.Asked (Ok others)) = answers.items ≡ others.items
IsSameReply r other = r ≡ other

-- all answers in a trace: those to requests, and the refusals of joins
abbrev pub answers_of_step : {V : Type 0} → LoopStep V → List Answer
answers_of_step (Joined value id exchanges calls held) = answers_of exchanges
answers_of_step (NotJoined value error) = Err error ∷ []
answers_of_step (Requested id exchanges calls) = answers_of exchanges
answers_of_step step = []

abbrev pub answers_of_positions : {V : Type 0} → List (Position V) → List Answer
answers_of_positions positions = flat_map (λ position. answers_of (exchanges_of position.delivery)) positions

abbrev pub answers_of_jobs : {V J R : Type 0} → List (JobRun V J R) → List Answer
answers_of_jobs jobs = flat_map (λ job_run. flat_map answers_of_step job_run.steps) jobs

abbrev pub answers_of_effect : {V J R : Type 0} → Effect V J R → List Answer
answers_of_effect (Stepped step) = answers_of_step step
answers_of_effect (Iterated iteration) = answers_of_positions iteration.positions ++ answers_of_jobs iteration.jobs

abbrev pub answers_in : {V J R : Type 0} → List (TraceEntry V J R) → List Answer
answers_in trace = flat_map (λ entry. answers_of_effect entry.effect) trace

-- nothing was refused for want of memory, which beside the poller is the one thing that decides an answer
abbrev pub HaveMemory : List Answer → Type 0
HaveMemory answers = ¬ Contains answers (Err OutOfMemory)

-- of each call the jobs that ran in it
abbrev pub jobs_of_effect : {V J R : Type 0} → Effect V J R → List J
jobs_of_effect (Stepped step) = []
jobs_of_effect (Iterated iteration) = map (λ job_run. job_run.job) iteration.jobs

abbrev pub jobs_in : {V J R : Type 0} → List (TraceEntry V J R) → List (List J)
jobs_in trace = map (λ entry. jobs_of_effect entry.effect) trace

-- A replay of a trace: the same calls, with the same poller calls, and the same jobs in each call; neither lacks memory.
pub record IsReplay {V J R : Type 0} (capacity : ℕ) (trace replay : List (TraceEntry V J R)) : Type 0 where
  pub same_calls : AllZip IsSameCall (map (λ entry. entry.call) trace) (map (λ entry. entry.call) replay)
  pub same_poller_calls : calls_of_trace capacity trace ≡ calls_of_trace capacity replay
  pub same_jobs : jobs_in trace ≡ jobs_in replay
  pub memory : HaveMemory (answers_in trace)
  pub memory_again : HaveMemory (answers_in replay)

-- Each call does the same and, wherever its vector lies, is replied the same; and all ends in the same state.
pub record IsTheRun {V J R : Type 0} (trace replay : List (TraceEntry V J R)) (after replayed : LoopContents V) : Type 0 where
  pub same_effects : map (λ entry. entry.effect) trace ≡ map (λ entry. entry.effect) replay
  pub same_replies : AllZip IsSameReply (map (λ entry. entry.reply) trace) (map (λ entry. entry.reply) replay)
  pub same_state : after ≡ replayed
