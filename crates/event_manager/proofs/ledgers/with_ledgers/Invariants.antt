use Rattle.event_manager.proofs.ledgers.with_ledgers.Given as goal

abbrev pub ghosts-run_named : goal.ghosts-run_named
ghosts-run_named g a = record { tickets = a.tickets.name; taken = a.taken.name }
