use Rattle.event_manager.proofs.senders.with_senders.Given as goal

abbrev pub ghosts-run_named : goal.ghosts-run_named
ghosts-run_named g a = record { tickets = a.tickets.name; taken = a.taken.name }
