-- What a load reads, what it gives of that, and what it leaves on the disk.
use Rattle.std.specs.Prelude.{◌≡◌, ◌≢◌, ℕ, List, [], ◌∷◌, Bool, true, false, ⊤}
use Rattle.cat_disk.specs.Moments.{Moment, overwritten}
use Rattle.cat_disk.specs.declared.disk.DiskDone.{DiskDone}
use Rattle.cat_disk.specs.declared.disk.DiskDone.TheVariants.{Done, Failed as NotDone}
use Rattle.cat_keeper.specs.Store.{Rows}
use Rattle.cat_keeper.specs.declared.keeper.Loaded.{Loaded}
use Rattle.cat_keeper.specs.declared.keeper.Loaded.TheVariants.{Rows as Given, Failed as NotLoaded, NoMemory as NoRoom}
use Rattle.cat_journal.specs.Records.{Scans}
use Rattle.cat_journal.specs.Left.{Now, Leaves}
use Rattle.cat_journal.specs.Writes.{Seen}
use Rattle.cat_journal.specs.Keeps.{damage_rows}
use Rattle.cat_journal.specs.declared.load.Known.{Known}
use Rattle.cat_journal.specs.declared.load.Known.TheVariants.{Nothing, Closed, Doubtful}
use Rattle.cat_journal.specs.declared.load.Loading.{Loading}
use Rattle.cat_journal.specs.declared.load.Loading.TheVariants.{Found as Read, Damaged as Harmed, Failed, NoMemory}
use Rattle.cat_journal.specs.declared.records.Scanned.{Scanned}
use Rattle.cat_journal.specs.declared.records.Scanned.TheVariants.{Found, Damaged}

-- where it was done, these bytes stand at a position, over what was there
abbrev pub Overwrites : ℕ → List ℕ → Seen → Seen → DiskDone → Type 0
Overwrites at bytes old new Done = old.moments ≢ [] → new.content ≡ overwritten at bytes old.content
Overwrites at bytes old new NotDone = ⊤

-- the content that a load reads: a gate byte in doubt is made 0 before
abbrev pub content_read : Known → List ℕ → List ℕ
content_read Nothing content = content
content_read (Closed gate) content = content
content_read (Doubtful gate) content = overwritten gate (0 ∷ []) content

-- where it was done, that is what reads
abbrev pub IsToRead : Known → Seen → Seen → DiskDone → Type 0
IsToRead known old new Done = old.moments ≢ [] → new.content ≡ content_read known old.content
IsToRead known old new NotDone = ⊤

-- What was read has the rows that were found, or is damaged at the place that was named, and then it stays as it is.
abbrev pub IsScanned : List ℕ → List ℕ → Loading → Type 0
IsScanned content new (Read rows) = (gate : ℕ) × Scans content (Found rows gate)
IsScanned content new (Harmed place) = Scans content (Damaged place) × (new ≡ content)
IsScanned content new Failed = ⊤
IsScanned content new NoMemory = ⊤

-- Of content with rows those are given, and commits may follow. Of damaged content two rows that name the place are given, no commit
-- may follow, and it stays as it is.
abbrev pub IsGivenFor : Scanned → List ℕ → List ℕ → Rows → Bool → Type 0
IsGivenFor (Found found gate) content new rows ready = (rows ≡ found) × (ready ≡ true)
IsGivenFor (Damaged place) content new rows ready = (rows ≡ damage_rows place) × (ready ≡ false) × (new ≡ content)

-- What a load gives is what a scan of the content gives. Where it gives nothing, no commit may follow.
abbrev pub GivesScan : List ℕ → List ℕ → Loaded → Bool → Type 0
GivesScan content new (Given rows) ready = (s : Scanned) × Scans content s × IsGivenFor s content new rows ready
GivesScan content new NotLoaded ready = ready ≡ false
GivesScan content new NoRoom ready = ready ≡ false

-- content of which a scan finds these rows
abbrev pub HasRows : Rows → List ℕ → Type 0
HasRows rows content = (gate : ℕ) × Scans content (Found rows gate)

-- a crash now leaves only content that has the rows that were given
abbrev pub AreDurable : List Moment → List ℕ → Loaded → Type 0
AreDurable moments content (Given rows) = Now moments content (Leaves (HasRows rows))
AreDurable moments content NotLoaded = ⊤
AreDurable moments content NoRoom = ⊤
