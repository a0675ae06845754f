-- What a call that commits nothing does to a connection.
use Rattle.sqlite.specs.State.{State, HasCleanDisk, KeepsCommit}

-- As far as the disk returns what was written, it did so before, and what was committed stays while the database is open.
abbrev pub CommitsNothing : State → State → Type 0
CommitsNothing old new = HasCleanDisk new → HasCleanDisk old × KeepsCommit old new
