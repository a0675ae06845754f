-- Where no end counted a fault, a command ends whole, for want of memory or at the bound, but a store may be refused.
use Rattle.std.proofs.Common.{◌≡◌, ◌⊎◌, ◌∙◌, ℕ, Bool, List, [], ◌∷◌, inl, inr, refl, sym, subst, ap, arith}
use Rattle.std.specs.Prelude.{Option, Some, None, MatchOption, unwrap_or}
use Rattle.cat_command_line.specs.declared.words.Command.{Command}
use Rattle.cat_command_line.specs.declared.words.Command.TheVariants.{Session, Wire, Serve, Mirror, Sample}
use Rattle.cat_connection.specs.Status.{HasCauses, IsOneOf, connection_status, status_of}
use Rattle.cat_connection.specs.declared.command.Status.{Status}
use Rattle.cat_connection.specs.declared.command.Status.TheVariants.{Whole, ReadFault, WriteFault, BadRow, NoMemory, Bound, DoorsFault}
use Rattle.cat_connection.specs.declared.message_loop.ConnEnd.{ConnEnd}
use Rattle.cat_connection.specs.declared.message_loop.ConnEnd.TheVariants as messages
use Rattle.cat_io.specs.Causes.{Rose}
use Rattle.cat_io.specs.declared.line_loop.SessionEnd.{SessionEnd}
use Rattle.cat_io.specs.declared.line_loop.SessionEnd.TheVariants as lines
use Rattle.cat_keeper.specs.Store.{Rows}
use Rattle.cat_keeper.specs.declared.keeper.Place.{Place}
use Rattle.cat_model.specs.declared.types.OrphanRule.{OrphanRule}
use Rattle.cat_open_errors.specs.Unopened.{IsShut}
use Rattle.cat_server.specs.Ended.{EndsAsServer, EndsAsServing, EndsAsStoredServer, HasListened}
use Rattle.cat_tool.specs.Ends.{AnswersLines, AnswersMessages, Ends, EndsAs, HasNoFault, faults_left}

abbrev pub IsComplete : Status → Type 0
IsComplete s = IsOneOf s (Whole ∷ BadRow ∷ NoMemory ∷ Bound ∷ [])

memory : (s : Status) → s ≡ NoMemory → IsComplete s
memory s is = inr (inr (inl is))

-- of a status that a session or a mirror has
five : (s : Status) (Read Written : Type 0) → IsOneOf s (Whole ∷ ReadFault ∷ WriteFault ∷ NoMemory ∷ Bound ∷ []) → (s ≡ ReadFault → Read) → (s ≡ WriteFault → Written) → (Read → ⊥) → (Written → ⊥) → IsComplete s
five s Read Written (inl is) read written no_read no_write = inl is
five s Read Written (inr (inl is)) read written no_read no_write = absurd (no_read (read is))
five s Read Written (inr (inr (inl is))) read written no_read no_write = absurd (no_write (written is))
five s Read Written (inr (inr (inr (inl is)))) read written no_read no_write = memory s is
five s Read Written (inr (inr (inr (inr is)))) read written no_read no_write = inr (inr (inr is))

module _ {S O D K : Type 0} (left : S → Option (List ℕ)) (read_faults : S → ℕ) (written : O → Option (List ℕ)) (write_faults : O → ℕ) (closed : D → Option Bool) (door_faults : D → ℕ) (tables : Place → K → Option Rows) (keeper_faults : K → ℕ)
    (s : Status) (source source' : S) (sink sink' : O) (doors doors' : D) (keeper : K) (kept : Option K) (none : HasNoFault read_faults write_faults door_faults keeper_faults source source' sink sink' doors doors' keeper kept) where
  abbrev Causes : Type 0
  Causes = HasCauses read_faults write_faults s source source' sink sink'

  of_lines : (end : SessionEnd) → s ≡ status_of end → Causes → IsComplete s
  of_lines lines.Whole is c = inl is
  of_lines lines.ReadFault is c = absurd (none.read (c.read_fault is))
  of_lines lines.WriteFault is c = absurd (none.written (c.write_fault is))
  of_lines lines.NoMemory is c = memory s is
  of_lines lines.Bound is c = inr (inr (inr is))

  of_messages : (end : ConnEnd) → s ≡ connection_status end → Causes → IsComplete s
  of_messages messages.Whole is c = inl is
  of_messages messages.ReadFault is c = absurd (none.read (c.read_fault is))
  of_messages messages.WriteFault is c = absurd (none.written (c.write_fault is))
  of_messages messages.NoMemory is c = memory s is
  of_messages messages.Bound is c = inr (inr (inr is))

  of_shut : (place : Place) (back : K) → kept ≡ Some back → IsShut written write_faults (tables place) keeper_faults s sink sink' keeper back → IsComplete s
  of_shut place back is shut = elim shut.cause [
    | inl fault ↦ absurd (none.kept_rows (subst (λ k. Rose (keeper_faults keeper) (faults_left keeper_faults k)) (sym is) fault.2))
    | inr other ↦ elim other [
      | inl row ↦ inr (inl row.0)
      | inr wanted ↦ memory s wanted.0
    ]
  ]

  of_listened : HasListened closed door_faults s doors doors' → IsComplete s
  of_listened l = elim l.statuses [
    | inl is ↦ inl is
    | inr other ↦ elim other [
      | inl is ↦ absurd (none.listened (l.doors_fault is))
      | inr is ↦ memory s is
    ]
  ]

  of_session : (orphans : Option OrphanRule) (place : Option Place) → AnswersLines left read_faults written write_faults tables keeper_faults s source source' sink sink' keeper kept (record { orphans = orphans; place = place }) → IsComplete s
  of_session orphans None h = of_lines h.1.ran.0 h.1.ran.1 h.1.causes
  of_session orphans (Some place) h = elim h.2.ran [
    | inl shut ↦ of_shut place h.0 h.1 shut.1
    | inr run ↦ of_lines run.ran.0 run.ran.1 h.2.causes
  ]

  of_connection : (orphans : Option OrphanRule) (place : Option Place) → AnswersMessages left read_faults written write_faults tables keeper_faults s source source' sink sink' keeper kept (record { orphans = orphans; place = place }) → IsComplete s
  of_connection orphans None h = of_messages h.1.served.0 h.1.served.1 h.1.causes
  of_connection orphans (Some place) h = elim h.2.ran [
    | inl shut ↦ of_shut place h.0 h.1 shut.1
    | inr run ↦ of_messages run.ran.0 run.ran.1 h.2.causes
  ]

  of_server : (place : Option Place) → EndsAsServing written write_faults closed door_faults tables keeper_faults place s sink sink' doors doors' keeper kept → IsComplete s
  of_server None h = of_listened h.2
  of_server (Some place) (inl opened) = of_listened opened.2
  of_server (Some place) (inr shut) = of_shut place shut.0 shut.1 shut.3

  of_command : (command : Command) → EndsAs left read_faults written write_faults closed door_faults tables keeper_faults s source source' sink sink' doors doors' keeper kept command → IsComplete s
  of_command (Session options) h = of_session options.orphans options.place h.1
  of_command (Wire options) h = of_connection options.orphans options.place h.1
  of_command (Serve serving) h = of_server serving.catalogue.place h.1
  of_command Mirror h = five s _ _ h.2.statuses h.2.read_fault h.2.write_fault none.read none.written
  of_command (Sample sample) h = elim h.3.statuses [
    | inl is ↦ inl is
    | inr other ↦ elim other [
      | inl is ↦ absurd (none.written (h.3.write_fault is))
      | inr is ↦ memory s is
    ]
  ]

  pub complete : (command : Option Command) → (command ≡ None → ⊥) → Ends left read_faults written write_faults closed door_faults tables keeper_faults s source source' sink sink' doors doors' keeper kept command → IsComplete s
  complete command some (inl unread) = memory s unread.0
  complete None some (inr h) = absurd (some refl)
  complete (Some command) some (inr h) = of_command command h
