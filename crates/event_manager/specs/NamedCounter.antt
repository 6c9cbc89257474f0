-- What is seen of a counter under a name.
use Rattle.event_manager.specs.declared.named_counter.Named.{Named}

-- the counter itself
abbrev pub counter_of : {N C : Type 0} → Named N C → C
counter_of named = named.counter
