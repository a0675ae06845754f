-- What the kept outputs emit, what an event changes of that, and the references whose parts it may change.
use Rattle.std.specs.Prelude.{◌≡◌, ◌≢◌, Bool, true, false, T, not, ◌&&◌, ◌||◌, List, [], ◌∷◌, ◌++◌, map, is_some, is_none}
use Rattle.std.specs.declared.option.Option.{Option}
use Rattle.std.specs.declared.option.Option.TheVariants.{None, Some}
use Rattle.std.specs.Bool.{beq}
use Rattle.std.specs.List.{Contains, filter, list_any}
use Rattle.std.specs.FinMap.Entries.{is_sorted}
use Rattle.cat_collections.specs.Table.{Text, get, keys, same_text, text_cmp}
use Rattle.cat_types.specs.declared.parts.Parts.{Parts}
use Rattle.cat_types.specs.declared.work.Output.{Output}
use Rattle.cat_links.specs.Links.{Emitted, emitted_by, relations_of}
use Rattle.cat_links.specs.declared.links.EmitChange.{EmitChange}
use Rattle.cat_model.specs.declared.types.Orphan.{Orphan}
use Rattle.cat_model.specs.declared.types.Record.{Record}
use Rattle.cat_model.specs.declared.types.State.{State}
use Rattle.cat_model.specs.Catalogue.{Ref, Rules, emits, from_source, held, output_of, same_option}

-- the links are the relations of the kept outputs
pub record AreLinked (rules : Rules) (links : Emitted) (m : State) : Type 0 where
  pub in_order : T (is_sorted text_cmp links)
  pub each : (e : Ref) → emitted_by links e ≡ emits rules e (output_of m.records e)

-- each of these sources has other relations in the later links
abbrev pub AreApart : Emitted → Emitted → List Text → Type 0
AreApart links links' sources = (source : Text) → Contains sources source → relations_of links' source ≢ relations_of links source

-- whether this is the reference that an event is about
abbrev pub is_own : Option Ref → Ref → Bool
is_own None r = false
is_own (Some q) r = same_text q r

-- what the records that left no longer emit
abbrev pub left_changes : State → State → List EmitChange
left_changes m n = map (λ e. record { emitter = e; relations = [] }) (filter (λ e. is_none (get n.records e)) (keys m.records))

-- what the reference that an event is about emits now
abbrev pub own_changes : Rules → Option Ref → State → List EmitChange
own_changes rules None n = []
own_changes rules (Some r) n = record { emitter = r; relations = emits rules r (output_of n.records r) } ∷ []

-- what emitters emit otherwise than before
abbrev pub emit_changes : Rules → Option Ref → State → State → List EmitChange
emit_changes rules own m n = left_changes m n ++ own_changes rules own n

-- whether what is known of a reference is of the same sort in both states: it has a record in both or in none, and is an orphan in both or in none
abbrev pub same_sort : State → State → Ref → Bool
same_sort m n r = beq (is_some (get m.records r)) (is_some (get n.records r)) && beq (is_some (get m.orphans r)) (is_some (get n.orphans r))

-- whether the parts of a reference may differ: its relations changed, the event is about it, or it came or left
abbrev pub is_candidate : List Text → Option Ref → State → State → Ref → Bool
is_candidate changed own m n r = list_any (same_text r) changed || is_own own r || not (same_sort m n r)

-- what an event at most does to the references that it isn't about: a record that was there and still is keeps its output, issues and number, one that comes has no output, and an orphan that was one and still is stays as it was
pub record LeavesOthers (own : Option Ref) (m n : State) : Type 0 where
  pub records : (r : Ref) (x y : Record) → is_own own r ≡ false → get m.records r ≡ Some x → get n.records r ≡ Some y → (x.output ≡ y.output) × (x.issues ≡ y.issues) × (x.number ≡ y.number)
  pub come : (r : Ref) (y : Record) → is_own own r ≡ false → get m.records r ≡ None → get n.records r ≡ Some y → y.output ≡ None
  pub orphans : (r : Ref) (x y : Orphan) → is_own own r ≡ false → get m.records r ≡ None → get n.records r ≡ None → get m.orphans r ≡ Some x → get n.orphans r ≡ Some y → x ≡ y

-- an event's own change touches the record and the orphan of no other reference
pub record TouchesOnly (own : Option Ref) (m n : State) : Type 0 where
  pub records : (r : Ref) → is_own own r ≡ false → get n.records r ≡ get m.records r
  pub orphans : (r : Ref) → is_own own r ≡ false → get n.orphans r ≡ get m.orphans r

-- exactly the held references have records
abbrev pub AreRecorded : State → Type 0
AreRecorded m = (r : Ref) → is_some (get m.records r) ≡ held m.holders r

-- ---- the parts of a document, with the relations that the links give

-- the parts of an orphan, if it is one
abbrev pub linked_orphan : Rules → Emitted → Ref → Option Orphan → Option Parts
linked_orphan rules links r None = None
linked_orphan rules links r (Some x) =
    Some (record {
      entity = x.entity;
      number = x.number;
      orphan = true;
      relations = from_source r (relations_of links r ++ rules.relations x.entity r);
      issues = [];
    })

-- the parts of a record, if it has a kept output
abbrev pub linked_record : Emitted → Ref → Record → Option Output → Option Parts
linked_record links r x None = None
linked_record links r x (Some output) =
    Some (record {
      entity = output.entity;
      number = x.number;
      orphan = false;
      relations = relations_of links r;
      issues = x.issues;
    })

-- the parts of a record, or else of an orphan
abbrev pub linked_from : Rules → Emitted → Ref → Option Orphan → Option Record → Option Parts
linked_from rules links r orphan None = linked_orphan rules links r orphan
linked_from rules links r orphan (Some x) = linked_record links r x x.output

-- the parts of a reference's document
abbrev pub linked_parts : Rules → Emitted → State → Ref → Option Parts
linked_parts rules links m r = linked_from rules links r (get m.orphans r) (get m.records r)

-- whether a reference has parts in n that aren't those of m
abbrev pub moved : Rules → Emitted → State → Emitted → State → Ref → Bool
moved rules links m links' n r = is_some (linked_parts rules links' n r) && not (same_option rules.same_parts (linked_parts rules links m r) (linked_parts rules links' n r))
