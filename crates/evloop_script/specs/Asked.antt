-- What is asked for.
use Rattle.event_loop.specs.declared.events.Request.{Request}
use Rattle.event_loop.specs.declared.events.Request.TheVariants.{Add, AddWithPriority, Modify, Remove}

-- a request to add
abbrev pub IsAddition : Request → Type 0
IsAddition (Add event) = Unit {0}
IsAddition (AddWithPriority event priority) = Unit {0}
IsAddition (Modify event) = ⊥
IsAddition (Remove event) = ⊥
