use Rattle.manager_tests.proofs.threads.run_on_second_thread.Given as goal

abbrev pub ghosts-run_moved : goal.ghosts-run_moved
ghosts-run_moved g a = record { tickets = a.tickets.name; taken = a.taken.name }
