-- How the state of a manager came about: by calls and jobs, from a new one.
use Rattle.std.specs.Prelude.{◌≡◌, ℕ, List, [], ◌∷◌, All, refl}
use Rattle.std.specs.Ordering.{nat_cmp}
use Rattle.std.specs.FinMap as map
use Rattle.std.specs.Coded.{Coded, code_by, coded×, coded_ℕ, coded_list}
use Rattle.dispatch_tables.specs.Event.{Event, event_code}
use Rattle.dispatch_tables.specs.Ownership.{OwnerMap, owner_map_code}
use Rattle.event_loop.specs.Prelude.{Begins, Serves, Replaced, May, LoopContents, LoopState}
use Rattle.event_manager.specs.Trace.{Effect, Stepped, TraceEntry, IsTrace, new_state}

-- a call that puts another value in a subscriber's place does what a job may do
abbrev pub IsLikeJobs : {V J R : Type 0} → May V J R → Effect V J R → Type 0
IsLikeJobs {V} {J} {R} may (Stepped (Replaced id old new)) = (job : J) × (reply : R) × may job (Replaced id old new ∷ []) reply
IsLikeJobs may effect = Unit {0}

module _ {V J R : Type 0} (begins : Begins V) (serves : Serves V) (may : May V J R) where
  -- a trace leads to it from a new manager, and what its calls do to subscribers jobs may do too
  pub record IsReached (state : LoopContents V) : Type 0 where
    pub endpoint : ℕ
    pub trace : List (TraceEntry V J R)
    pub is_trace : IsTrace begins serves may (new_state endpoint) trace state
    pub like_jobs : All (λ entry. IsLikeJobs may entry.effect) trace

  -- these are the subscribers, and this many jobs were taken, of a manager that was reached so
  pub record HasEnded (subscribers : map.FinMap nat_cmp V) (taken : ℕ) : Type 0 where
    pub state : LoopContents V
    pub reached : IsReached state
    pub has : state.registry.values ≡ subscribers
    pub took : state.taken ≡ taken

module _ {S P : Type 0} where
  -- a loop's state is stored as the tuple of its parts
  abbrev pub loop_state_code : Coded S → Coded P → Coded (LoopState S P)
  loop_state_code s p = code_by
      ((map.FinMap nat_cmp S × ℕ) × ((OwnerMap × (ℕ × List Event)) × (ℕ × (P × ℕ))))
      (coded× (coded× (map.code coded_ℕ s) coded_ℕ) (coded× (coded× owner_map_code (coded× coded_ℕ (coded_list event_code))) (coded× coded_ℕ (coded× p coded_ℕ))))
      (λ l. ((l.registry.values, l.registry.next), ((l.registry.registrations.owners, (l.registry.registrations.endpoint, l.registry.registrations.pending)), (l.taken, (l.poller, l.capacity)))))
      (λ c. record { registry = record { values = c.0.0; next = c.0.1; registrations = record { owners = c.1.0.0; endpoint = c.1.0.1.0; pending = c.1.0.1.1 } }; taken = c.1.1.0; poller = c.1.1.1.0; capacity = c.1.1.1.1 })
      (λ _. refl)
