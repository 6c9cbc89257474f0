use Rattle.thread_tests.proofs.senders.expect_sent.Given as goal

abbrev pub ghosts-send_on : goal.ghosts-send_on
ghosts-send_on g a = record { tickets = a.tickets.name; taken = a.taken.name }
