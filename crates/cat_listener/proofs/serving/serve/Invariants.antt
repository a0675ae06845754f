use Rattle.cat_listener.proofs.serving.serve.Given as goal

abbrev pub ghosts-serve_under : goal.ghosts-serve_under
ghosts-serve_under g a = record { doors = a.doors.ghost_name; faults = g.D.Doors.faults a.doors.now }
