-- A subscriber of one of two kinds stays of its kind.
use Rattle.dispatch_tables.specs.Event.{Event}
use Rattle.event_loop.specs.Exchange.{Exchanges}
use Rattle.event_loop.specs.declared.wrappers.Either.{Either}
use Rattle.event_loop.specs.declared.wrappers.Either.TheVariants.{First, Second}

module _ {A B : Type 0} where
  abbrev pub either_begins : (A → Exchanges → A → Type 0) → (B → Exchanges → B → Type 0) → Either A B → Exchanges → Either A B → Type 0
  either_begins first second (First a) exchanges (First b) = first a exchanges b
  either_begins first second (Second a) exchanges (Second b) = second a exchanges b
  either_begins first second (First a) exchanges (Second b) = ⊥
  either_begins first second (Second a) exchanges (First b) = ⊥

  abbrev pub either_serves : (A → Event → Exchanges → A → Type 0) → (B → Event → Exchanges → B → Type 0) → Either A B → Event → Exchanges → Either A B → Type 0
  either_serves first second (First a) event exchanges (First b) = first a event exchanges b
  either_serves first second (Second a) event exchanges (Second b) = second a event exchanges b
  either_serves first second (First a) event exchanges (Second b) = ⊥
  either_serves first second (Second a) event exchanges (First b) = ⊥
