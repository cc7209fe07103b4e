use Rattle.check_crew.proofs.while_read.conquer_while_read.Given as goal

abbrev pub ghosts-read_named : goal.ghosts-read_named
ghosts-read_named g a = record { case = a.site.case.now }
