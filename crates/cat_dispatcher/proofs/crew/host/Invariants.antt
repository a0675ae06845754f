use Rattle.cat_dispatcher.proofs.crew.host.Given as goal

abbrev pub ghosts-host_under : goal.ghosts-host_under
ghosts-host_under g a = record { settings = (g.B.TimedDesk.ledger a.desk).settings; opening = (g.B.TimedDesk.ledger a.desk).state; faults = g.B.TimedDesk.faults a.desk }
