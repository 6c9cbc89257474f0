-- The table as a poller: its state as a tree of numbers, and its two relations.
use Rattle.std.specs.Prelude.{ℕ, ℤ, ◌≡◌, ◌⊎◌, List, Option, Some, None, Result, refl}
use Rattle.std.specs.Coded.{Coded, code_by, coded_ℕ, coded_list, coded_option, coded×, coded⊎}
use mathlib.Core.Logic.{inl, inr}
use base.Stored.{Gv}
use Rattle.vmm_sys.specs.declared.entries.EpollEvent.{EpollEvent}
use Rattle.vmm_sys.specs.declared.entries.ControlOperation.{ControlOperation}
use Rattle.vmm_sys.specs.declared.event_set.EventSet.{EventSet}
use Rattle.vmm_sys.specs.declared.errno.Errno.{Errno}
use Rattle.vmm_sys.specs.declared.table.source.Source.{Source}
use Rattle.vmm_sys.specs.declared.table.source.Source.TheVariants.{Counter, Line, Closed}
use Rattle.vmm_sys.specs.declared.table.interests.Interest.{Interest}
use Rattle.vmm_sys.specs.Codes.{set_code, event_code}
use Rattle.vmm_sys.specs.Table.{TableState, Answers, ctl_of, wait_of, counted, reported_entries}

abbrev interest_code : Coded Interest
interest_code = code_by (ℕ × EpollEvent) (coded× coded_ℕ event_code) (λ i. (i.descriptor, i.event)) (λ p. record { descriptor = p.0; event = p.1 }) (λ _. refl)

-- a source as a number or a set, where it is open
abbrev split : Source → Option (ℕ ⊎ EventSet)
split (Counter value) = Some (inl value)
split (Line set) = Some (inr set)
split Closed = None

-- the source of a number or a set
abbrev join : Option (ℕ ⊎ EventSet) → Source
join (Some (inl value)) = Counter value
join (Some (inr set)) = Line set
join None = Closed

pub join-split : (s : Source) → join (split s) ≡ s
join-split (Counter value) = refl
join-split (Line set) = refl
join-split Closed = refl

abbrev source_code : Coded Source
source_code = code_by (Option (ℕ ⊎ EventSet)) (coded_option (coded⊎ coded_ℕ set_code)) split join join-split

-- a table as a tree of numbers: different tables have different codes
abbrev pub table_code : Coded TableState
table_code =
    code_by (List Source × (List Interest × ℕ)) (coded× (coded_list source_code) (coded× (coded_list interest_code) coded_ℕ))
    (λ t. (t.sources, (t.interests, t.limit))) (λ p. record { sources = p.0; interests = p.1.0; limit = p.1.1 }) (λ _. refl)

-- the one answer of `ctl`, and the one state after it
abbrev pub MayCtl : Gv → ControlOperation → ℤ → EpollEvent → Result (Unit {0}) Errno → Gv → Type 0
MayCtl before op fd event answer after =
    (t u : TableState) × (before ≡ table_code.code t) × (after ≡ table_code.code u) × Answers (ctl_of t op fd event) t answer u

-- the one answer of `wait` with its entries, and the one state after it
abbrev pub MayWait : Gv → ℤ → ℕ → Result ℕ Errno → List EpollEvent → Gv → Type 0
MayWait before ms room answer entries after =
    (t u : TableState) × (before ≡ table_code.code t) × (after ≡ table_code.code u) × Answers (counted (wait_of t room)) t answer u × (entries ≡ reported_entries (wait_of t room))
