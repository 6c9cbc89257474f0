use Rattle.thread_tests.proofs.unlocked.subscribers_are_dropped_behind_a_close.Given as goal

abbrev pub ghosts-close_beside : goal.ghosts-close_beside
ghosts-close_beside g a = record { tickets = a.tickets.name; taken = a.taken.name }
