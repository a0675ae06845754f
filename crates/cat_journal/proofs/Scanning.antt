-- What a load gives of the content that it read.
use Rattle.std.proofs.Common.{◌≡◌, ◌≢◌, ◌⊎◌, inl, inr, ⊎_elim, ℕ, ◌<◌, ◌≤◌, List, [], ◌∷◌, length, get_or, Bool, true, false, refl, sym, ◌∙◌, ap, subst, arith}
use Rattle.cat_disk.specs.declared.disk.DiskDone.{DiskDone}
use Rattle.cat_disk.specs.declared.disk.DiskDone.TheVariants.{Done, Failed as NotDone}
use Rattle.cat_disk.specs.Moments.{Moment, IsImage, AddsWrite}
use Rattle.cat_disk.specs.Disk.{Writes, Syncs}
use Rattle.cat_keeper.specs.Store.{Changes, Rows}
use Rattle.cat_keeper.specs.declared.keeper.Loaded.{Loaded}
use Rattle.cat_keeper.specs.declared.keeper.Loaded.TheVariants.{Rows as Given, Failed as NotLoaded, NoMemory as NoRoom}
use Rattle.cat_journal.specs.Records.{HasRecords, rows_of, gate_of, Scans}
use Rattle.cat_journal.specs.declared.records.Gate.TheVariants.{Shut}
use Rattle.cat_journal.specs.declared.records.Scanned.{Scanned}
use Rattle.cat_journal.specs.declared.records.Scanned.TheVariants.{Found, Damaged}
use Rattle.cat_journal.specs.Left.{Now, IsShut, AreRows, IsLeft}
use Rattle.cat_journal.specs.Writes.{Seen}
use Rattle.cat_journal.specs.Keeps.{IsDamage}
use Rattle.cat_journal.specs.Loads.{IsWhole, Settles, Takes, Reads, LoadsFirst}
use Rattle.cat_journal.specs.Scanning.{Overwrites, content_read, IsToRead, IsScanned, IsGivenFor, GivesScan, HasRows, AreDurable}
use Rattle.cat_journal.specs.declared.load.Known.{Known}
use Rattle.cat_journal.specs.declared.load.Known.TheVariants.{Nothing, Closed, Doubtful}
use Rattle.cat_journal.specs.declared.load.Loading.{Loading}
use Rattle.cat_journal.specs.declared.load.Loading.TheVariants.{Found as Read, Damaged as Harmed, Failed, NoMemory}
use Rattle.cat_journal.proofs.Journals.{small_or_large, no_room, shut_records}
use Rattle.cat_journal.proofs.Passing.{scans_one}
use Rattle.cat_journal.proofs.Takes.{seen, silent_now}

-- ---- what is read

pub zero_synced : (g : ℕ) (ms ms1 ms2 : List Moment) (c c1 c2 : List ℕ) → AddsWrite g 1 ms ms1 Done → Writes ms1 c c1 g (0 ∷ []) Done → (r : DiskDone) → Syncs ms1 c1 c2 r → Overwrites g (0 ∷ []) (seen ms c) (seen ms2 c2) r
zero_synced g ms ms1 ms2 c c1 c2 adds writes NotDone syncs = tt
zero_synced g [] ms1 ms2 c c1 c2 adds writes Done syncs = λ told. absurd (told refl)
zero_synced g (m ∷ past) ms1 ms2 c c1 c2 adds writes Done syncs = λ told.
    subst (λ (l : List Moment). Syncs l c1 c2 Done) adds syncs ∙ subst (λ (l : List Moment). Writes l c c1 g (0 ∷ []) Done) adds writes

pub synced_reads : (ms ms1 : List Moment) (c c1 : List ℕ) (r : DiskDone) → Syncs ms c c1 r → (known : Known) → content_read known c ≡ c → IsToRead known (seen ms c) (seen ms1 c1) r
synced_reads ms ms1 c c1 NotDone syncs known same = tt
synced_reads [] ms1 c c1 Done syncs known same = λ told. absurd (told refl)
synced_reads (m ∷ past) ms1 c c1 Done syncs known same = λ told. syncs ∙ sym same

pub doubt_reads : (known : Known) (gate : ℕ) (ms ms1 : List Moment) (c c1 : List ℕ) → known ≡ Doubtful gate → Overwrites gate (0 ∷ []) (seen ms c) (seen ms1 c1) Done → IsToRead known (seen ms c) (seen ms1 c1) Done
doubt_reads known gate ms ms1 c c1 is zero = λ told. zero told ∙ ap (λ (k : Known). content_read k c) (sym is)

pub nothing_reads : (known : Known) (c : List ℕ) → known ≡ Nothing → content_read known c ≡ c
nothing_reads known c is = ap (λ (k : Known). content_read k c) is

pub closed_reads : (known : Known) (gate : ℕ) (c : List ℕ) → known ≡ Closed gate → content_read known c ≡ c
closed_reads known gate c is = ap (λ (k : Known). content_read k c) is

-- ---- what is given of it

pub load_scanned : (known k after : Known) (ms ms1 ms2 : List Moment) (c c1 c2 : List ℕ) (o : Loading) → Settles known (seen ms c) (seen ms1 c1) k Done → IsToRead known (seen ms c) (seen ms1 c1) Done
    → Takes k (seen ms1 c1) (seen ms2 c2) after o → (ms1 ≡ []) ⊎ Reads k c1 after o → ms ≢ [] → IsScanned (content_read known c) c2 o
load_scanned known k after ms ms1 ms2 c c1 c2 o settles same takes (inl none) told = absurd (silent_now ms1 c1 IsWhole none (settles.1 told))
load_scanned known k after ms ms1 ms2 c c1 c2 (Read rows) settles same takes (inr reads) told = subst (λ (l : List ℕ). HasRows rows l) (same told) reads
load_scanned known k after ms ms1 ms2 c c1 c2 (Harmed place) settles same takes (inr reads) told = (
  subst (λ (l : List ℕ). Scans l (Damaged place)) (same told) reads,
  ap (λ (s : Seen). s.content) takes.1 ∙ same told,
)
load_scanned known k after ms ms1 ms2 c c1 c2 Failed settles same takes (inr reads) told = tt
load_scanned known k after ms ms1 ms2 c c1 c2 NoMemory settles same takes (inr reads) told = tt

pub given_scan : (content new : List ℕ) (rows : Rows) → IsScanned content new (Read rows) → GivesScan content new (Given rows) true
given_scan content new rows scanned = (Found rows scanned.0, scanned.1, (refl, refl))

pub damage_scan : (content new : List ℕ) (place : ℕ) (r : Loaded) → IsDamage place r → IsScanned content new (Harmed place) → GivesScan content new r false
damage_scan content new place (Given rows) is scanned = (Damaged place, scanned.0, (is, refl, scanned.1))
damage_scan content new place NotLoaded is scanned = refl
damage_scan content new place NoRoom is scanned = refl

-- ---- what is durable

shut_rows : (bodies : List (List ℕ)) (gate : ℕ) (m : Moment) (c : List ℕ) → IsShut bodies gate m → IsImage m c → HasRows (rows_of bodies) c
shut_rows bodies gate m c shut is = ⊎_elim few many (small_or_large (length c))
  where
    there : HasRecords c bodies gate × (gate_of c gate ≡ Shut) × (get_or c gate 0 ≡ 0) × (gate < length c)
    there = shut_records bodies gate m c shut is

    few : length c ≤ 9 → HasRows (rows_of bodies) c
    few short = (8, inl (short, ap rows_of (no_room bodies c gate there.0.passes (omega (arith, there.3, short))), refl))

    many : 9 < length c → HasRows (rows_of bodies) c
    many long = (gate, inr (long, bodies, there.0, there.1, refl))

pub found_durable : (known after : Known) (ms ms1 : List Moment) (c c1 : List ℕ) (rows : Rows) → LoadsFirst known (seen ms c) (seen ms1 c1) after (Read rows) → ms ≢ [] → AreDurable ms1 c1 (Given rows)
found_durable known after ms ms1 c c1 rows first told =
    let p = first told in
    subst (λ (x : Rows). AreDurable ms1 c1 (Given x)) (sym p.1) (durable ms1 p.4)
  where
    durable : (l : List Moment) → Now l c1 (IsShut (first told).0 (first told).2) → AreDurable l c1 (Given (rows_of (first told).0))
    durable [] now = absurd now
    durable (m ∷ past) now = (now.0, λ d is. shut_rows (first told).0 (first told).2 m d now.1 is)

-- ---- what a crash left

pub left_given : (base : Rows) (more : List Changes) (c new : List ℕ) (rows : Rows) (ready : Bool) → IsLeft base more c → GivesScan c new (Given rows) ready → AreRows base more rows × (ready ≡ true)
left_given base more c new rows ready left given = by_case given.0 given.1 given.2
  where
    by_case : (s : Scanned) → Scans c s → IsGivenFor s c new rows ready → AreRows base more rows × (ready ≡ true)
    by_case (Found found gate) scans is =
        let one = scans_one c (Found left.1.0 left.1.1) (Found found gate) left.1.2 scans in
        let same : left.1.0 ≡ found = cc in
        (subst (AreRows base more) (same ∙ sym is.0) left.1.3, is.1)
    by_case (Damaged place) scans is = let one = scans_one c (Found left.1.0 left.1.1) (Damaged place) left.1.2 scans in cc
