use Rattle.std.proofs.Common.{◌≡◌, ◌≢◌, [], true, false, subst}
use Rattle.cat_keeper.specs.Answers.{Loads, Stays}
use Rattle.cat_keeper.specs.declared.keeper.Loaded.TheVariants.{Rows, Failed, NoMemory}
use Rattle.cat_journal.specs.Keeps.{JournalState, told}
use Rattle.cat_journal.proofs.Kept.{found_tables, damage_tables, damage_cause, failed_tables, room_tables, found_ready}
use Rattle.cat_journal.specs.Stands.{IsSafeLoaded}
use Rattle.cat_journal.proofs.Takes.{seen}
use Rattle.cat_journal.proofs.Standing.{stands_inside, loaded_found, loaded_damaged, loaded_failed, loaded_room}
use Rattle.cat_journal.specs.Scanning.{GivesScan, AreDurable, content_read}
use Rattle.cat_journal.proofs.Scanning.{given_scan, damage_scan, found_durable}
use Rattle.cat_journal.proofs.keeper.JournalKeeperKeeper.load.Goals as goal

pub invariant_of-self : goal.invariant_of-self
invariant_of-self g c = (
  c.load_rows-known.ensures.safe,
  λ is. found_ready c.self.inside.known c.load_rows-known.result.0 (g.D.Disk.moments c.self.inside.disk) (g.D.Disk.moments c.load_rows-known.new.disk) (g.D.Disk.content c.self.inside.disk) (g.D.Disk.content c.load_rows-known.new.disk) c.in-Found.rows c.load_rows-known.ensures.silent (rw c.in-Found.is at c.load_rows-known.ensures.first) c.load_rows-known.ensures.safe (rw c.in-Found.is at c.load_rows-known.ensures.finds),
)

pub returns-in-Found-clause-tables : goal.returns-in-Found-clause-tables
returns-in-Found-clause-tables g c =
    subst (λ (s : JournalState). Loads (told s.known s.moments s.content) (told c.load_rows-known.result.0 (g.D.Disk.moments c.load_rows-known.new.disk) (g.D.Disk.content c.load_rows-known.new.disk)) (Rows c.in-Found.rows)) c.self.view_is
    (found_tables c.self.inside.known c.load_rows-known.result.0 (g.D.Disk.moments c.self.inside.disk) (g.D.Disk.moments c.load_rows-known.new.disk) (g.D.Disk.content c.self.inside.disk) (g.D.Disk.content c.load_rows-known.new.disk) c.self.invariant.0 c.load_rows-known.ensures.silent c.in-Found.rows (rw c.in-Found.is at c.load_rows-known.ensures.again) (rw c.in-Found.is at c.load_rows-known.ensures.first))

pub returns-in-Damaged-clause-tables : goal.returns-in-Damaged-clause-tables
returns-in-Damaged-clause-tables g c =
    subst (λ (s : JournalState). Loads (told s.known s.moments s.content) (told c.load_rows-known.result.0 (g.D.Disk.moments c.load_rows-known.new.disk) (g.D.Disk.content c.load_rows-known.new.disk)) c.damaged.result) c.self.view_is
    (damage_tables c.self.inside.known c.load_rows-known.result.0 (g.D.Disk.moments c.self.inside.disk) (g.D.Disk.moments c.load_rows-known.new.disk) (g.D.Disk.content c.self.inside.disk) (g.D.Disk.content c.load_rows-known.new.disk) c.self.invariant.0 c.load_rows-known.ensures.silent c.in-Damaged.place c.damaged.result c.damaged.ensures (rw c.in-Damaged.is at c.load_rows-known.ensures.again) (rw c.in-Damaged.is at c.load_rows-known.ensures.first))

pub returns-in-Damaged-clause-cause : goal.returns-in-Damaged-clause-cause
returns-in-Damaged-clause-cause g c = damage_cause c.in-Damaged.place c.damaged.result _ c.damaged.ensures

pub returns-in-Failed-clause-tables : goal.returns-in-Failed-clause-tables
returns-in-Failed-clause-tables g c =
    subst (λ (s : JournalState). Stays (told s.known s.moments s.content) (told c.load_rows-known.result.0 (g.D.Disk.moments c.load_rows-known.new.disk) (g.D.Disk.content c.load_rows-known.new.disk))) c.self.view_is
    (failed_tables c.self.inside.known c.load_rows-known.result.0 (g.D.Disk.moments c.self.inside.disk) (g.D.Disk.moments c.load_rows-known.new.disk) (g.D.Disk.content c.self.inside.disk) (g.D.Disk.content c.load_rows-known.new.disk) c.self.invariant.0 c.load_rows-known.ensures.silent (rw c.in-Failed.is at c.load_rows-known.ensures.again))

pub returns-in-NoMemory-clause-tables : goal.returns-in-NoMemory-clause-tables
returns-in-NoMemory-clause-tables g c =
    subst (λ (s : JournalState). Stays (told s.known s.moments s.content) (told c.load_rows-known.result.0 (g.D.Disk.moments c.load_rows-known.new.disk) (g.D.Disk.content c.load_rows-known.new.disk))) c.self.view_is
    (room_tables c.self.inside.known c.load_rows-known.result.0 (g.D.Disk.moments c.self.inside.disk) (g.D.Disk.moments c.load_rows-known.new.disk) (g.D.Disk.content c.self.inside.disk) (g.D.Disk.content c.load_rows-known.new.disk) c.self.invariant.0 c.load_rows-known.ensures.silent (rw c.in-NoMemory.is at c.load_rows-known.ensures.again))

pub returns-in-Found-clause-crash : goal.returns-in-Found-clause-crash
returns-in-Found-clause-crash g c = λ base more s.
    let inside = stands_inside base more _ _ c.self.view_is s in
    subst (λ (k : JournalState). IsSafeLoaded base more (seen k.moments k.content) (seen (g.D.Disk.moments c.load_rows-known.new.disk) (g.D.Disk.content c.load_rows-known.new.disk)) c.load_rows-known.result.0 (Rows c.in-Found.rows)) c.self.view_is
    (loaded_found base more (seen (g.D.Disk.moments c.self.inside.disk) (g.D.Disk.content c.self.inside.disk)) (seen (g.D.Disk.moments c.load_rows-known.new.disk) (g.D.Disk.content c.load_rows-known.new.disk)) c.load_rows-known.result.0 c.in-Found.rows (rw c.in-Found.is at (c.load_rows-known.ensures.crash base more inside)))

pub returns-in-Damaged-clause-crash : goal.returns-in-Damaged-clause-crash
returns-in-Damaged-clause-crash g c = λ base more s.
    let inside = stands_inside base more _ _ c.self.view_is s in
    subst (λ (k : JournalState). IsSafeLoaded base more (seen k.moments k.content) (seen (g.D.Disk.moments c.load_rows-known.new.disk) (g.D.Disk.content c.load_rows-known.new.disk)) c.load_rows-known.result.0 c.damaged.result) c.self.view_is
    (loaded_damaged base more (seen (g.D.Disk.moments c.self.inside.disk) (g.D.Disk.content c.self.inside.disk)) (seen (g.D.Disk.moments c.load_rows-known.new.disk) (g.D.Disk.content c.load_rows-known.new.disk)) c.load_rows-known.result.0 c.in-Damaged.place c.damaged.result (rw c.in-Damaged.is at (c.load_rows-known.ensures.crash base more inside)))

pub returns-in-Failed-clause-crash : goal.returns-in-Failed-clause-crash
returns-in-Failed-clause-crash g c = λ base more s.
    let inside = stands_inside base more _ _ c.self.view_is s in
    subst (λ (k : JournalState). IsSafeLoaded base more (seen k.moments k.content) (seen (g.D.Disk.moments c.load_rows-known.new.disk) (g.D.Disk.content c.load_rows-known.new.disk)) c.load_rows-known.result.0 Failed) c.self.view_is
    (loaded_failed base more (seen (g.D.Disk.moments c.self.inside.disk) (g.D.Disk.content c.self.inside.disk)) (seen (g.D.Disk.moments c.load_rows-known.new.disk) (g.D.Disk.content c.load_rows-known.new.disk)) c.load_rows-known.result.0 (rw c.in-Failed.is at (c.load_rows-known.ensures.crash base more inside)))

pub returns-in-NoMemory-clause-crash : goal.returns-in-NoMemory-clause-crash
returns-in-NoMemory-clause-crash g c = λ base more s.
    let inside = stands_inside base more _ _ c.self.view_is s in
    subst (λ (k : JournalState). IsSafeLoaded base more (seen k.moments k.content) (seen (g.D.Disk.moments c.load_rows-known.new.disk) (g.D.Disk.content c.load_rows-known.new.disk)) c.load_rows-known.result.0 NoMemory) c.self.view_is
    (loaded_room base more (seen (g.D.Disk.moments c.self.inside.disk) (g.D.Disk.content c.self.inside.disk)) (seen (g.D.Disk.moments c.load_rows-known.new.disk) (g.D.Disk.content c.load_rows-known.new.disk)) c.load_rows-known.result.0 (rw c.in-NoMemory.is at (c.load_rows-known.ensures.crash base more inside)))

pub returns-in-Found-clause-scanned : goal.returns-in-Found-clause-scanned
returns-in-Found-clause-scanned g c =
    subst (λ (s : JournalState). s.moments ≢ [] → GivesScan (content_read s.known s.content) (g.D.Disk.content c.load_rows-known.new.disk) (Rows c.in-Found.rows) true) c.self.view_is
    (λ told. given_scan _ (g.D.Disk.content c.load_rows-known.new.disk) c.in-Found.rows (rw c.in-Found.is at (c.load_rows-known.ensures.scanned told)))

pub returns-in-Damaged-clause-scanned : goal.returns-in-Damaged-clause-scanned
returns-in-Damaged-clause-scanned g c =
    subst (λ (s : JournalState). s.moments ≢ [] → GivesScan (content_read s.known s.content) (g.D.Disk.content c.load_rows-known.new.disk) c.damaged.result false) c.self.view_is
    (λ told. damage_scan _ (g.D.Disk.content c.load_rows-known.new.disk) c.in-Damaged.place c.damaged.result c.damaged.ensures (rw c.in-Damaged.is at (c.load_rows-known.ensures.scanned told)))

pub returns-in-Found-clause-durable : goal.returns-in-Found-clause-durable
returns-in-Found-clause-durable g c =
    subst (λ (s : JournalState). s.moments ≢ [] → true ≡ true → AreDurable (g.D.Disk.moments c.load_rows-known.new.disk) (g.D.Disk.content c.load_rows-known.new.disk) (Rows c.in-Found.rows)) c.self.view_is
    (λ told ready. found_durable c.self.inside.known c.load_rows-known.result.0 (g.D.Disk.moments c.self.inside.disk) (g.D.Disk.moments c.load_rows-known.new.disk) (g.D.Disk.content c.self.inside.disk) (g.D.Disk.content c.load_rows-known.new.disk) c.in-Found.rows (rw c.in-Found.is at c.load_rows-known.ensures.first) told)
