use Rattle.device_loop.proofs.tell.Given as goal

abbrev pub ghosts-tell_named : goal.ghosts-tell_named
ghosts-tell_named g a = record { ring = a.blank.name }
