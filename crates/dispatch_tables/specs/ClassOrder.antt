-- Events in the order of their classes.
use Rattle.std.specs.Prelude.{◌≡◌, ℕ, ◌≤◌, ◌==◌, List, filter, AllPairs}
use Rattle.dispatch_tables.specs.Event.{Event}

-- class: which class each descriptor has
module _ (class : ℕ → ℕ) where
  -- those of the events that are of class n
  abbrev pub of_class : ℕ → List Event → List Event
  of_class n events = filter (λ e. class e.fd == n) events

  -- The higher classes come first; of each class there are the events that the report has of it, in the order of the report.
  pub record IsOrdered (report ordered : List Event) : Type 0 where
    pub descending : AllPairs (λ a b. class b.fd ≤ class a.fd) ordered
    pub stable : (n : ℕ) → of_class n ordered ≡ of_class n report
