-- What is asked of a state before its rows must open holds of an empty catalogue, and goes on holding over events and where a store is opened again.
use Rattle.std.proofs.Common.{◌≡◌, ℕ, Bool, true, false, cond, refl, sym, ◌∙◌}
use Rattle.std.specs.declared.option.Option.{Option}
use Rattle.std.specs.declared.option.Option.TheVariants.{None, Some}
use Rattle.std.specs.List.{list_any}
use Rattle.std.specs.Option.{option_map}
use Rattle.cat_tree.specs.Data.{Data}
use Rattle.cat_collections.specs.Table.{get, same_text, tabulate, text_cmp}
use Rattle.cat_collections.proofs.Tables.{find-tabulate, text_antisymmetric, text_total}
use Rattle.cat_types.specs.declared.parts.Parts.{Parts}
use Rattle.cat_form_laws.proofs.Stored.{Holds, IsStored, settle_holds, start_holds, step_holds}
use Rattle.cat_form_laws.specs.Real.{real_forms}
use Rattle.cat_laws.proofs.Counters.{reopened_begun, reopened_small}
use Rattle.cat_laws.proofs.Forms.{parts_form, reopened_form}
use Rattle.cat_laws.proofs.Reopened.{reopened_sound}
use Rattle.cat_layers.specs.Layered.{layered}
use Rattle.cat_model.specs.Catalogue.{Ref, known_refs, parts}
use Rattle.cat_model.specs.Formed.{IsFormedEvent}
use Rattle.cat_model.specs.Settle.{try_settle}
use Rattle.cat_model.specs.Step.{Event, reopened, start, step}
use Rattle.cat_model.specs.declared.types.OrphanRule.{OrphanRule}
use Rattle.cat_model.specs.declared.types.OrphanRule.TheVariants.{Keep}
use Rattle.cat_model.specs.declared.types.Settings.{Settings}
use Rattle.cat_model.specs.declared.types.State.{State}
use Rattle.cat_reopening_laws.proofs.Once.{IsOnce}
use Rattle.cat_reopening_laws.proofs.Opens.{Stands, settle_stands, start_stands, step_stands}
use Rattle.cat_reopening_laws.proofs.Outputs.{due_are}
use Rattle.cat_stored_rows.proofs.In.{none_some, same_some}
use Rattle.cat_session_model.specs.Program.{program_settings}

-- all that is kept is sound and has its form, each stored document is one of its reference, counters are begun, no kept output offers a reference
-- twice, and the inputs are within the program's limit
pub record Lasts (m : State) : Type 0 where
  pub holds : Holds layered real_forms m
  pub stands : Stands 67108864 m

pub start_lasts : Lasts start
start_lasts = record { holds = start_holds layered real_forms (program_settings Keep); stands = start_stands (program_settings Keep) }

-- ---- a store is opened again

module _ (m : State) (h : Lasts m) where
  made : (r : Ref) (d : Data) (v : Option Parts) → parts layered m r ≡ v → option_map layered.doc v ≡ Some d → IsStored layered real_forms r d
  made r d None is e = absurd (none_some e)
  made r d (Some p) is e = record {
    parts = p;
    are = parts_form layered real_forms (program_settings Keep) m h.holds.sound h.holds.formed h.holds.small r p is;
    document = sym (same_some e);
  }

  reopened_documents : (r : Ref) (d : Data) → get (tabulate text_cmp (known_refs m) (λ r. option_map layered.doc (parts layered m r))) r ≡ Some d → IsStored layered real_forms r d
  reopened_documents r d e = go (list_any (same_text r) (known_refs m)) (sym (find-tabulate text_total text_antisymmetric r (known_refs m) (λ r. option_map layered.doc (parts layered m r))) ∙ e)
    where
      go : (b : Bool) → cond b (option_map layered.doc (parts layered m r)) None ≡ Some d → IsStored layered real_forms r d
      go true e = made r d (parts layered m r) refl e
      go false e = absurd (none_some e)

  pub reopened_lasts : Lasts (reopened layered m)
  reopened_lasts = record {
    holds = record {
      sound = reopened_sound layered m h.holds.sound;
      small = reopened_small layered m h.holds.small;
      formed = reopened_form layered real_forms m h.holds.formed;
      documents = reopened_documents;
    };
    stands = record {
      begun = reopened_begun layered m h.stands.begun;
      once = due_are IsOnce m.records h.stands.once;
      inputs = record { within = h.stands.inputs.within; in_order = h.stands.inputs.in_order };
    };
  }

-- ---- events

module _ (rule : OrphanRule) where
  abbrev settings : Settings
  settings = program_settings rule

  pub event_lasts : (e : Event) (m : State) → IsFormedEvent real_forms e → Lasts m → Lasts (step layered settings e m)
  event_lasts e m formed h = record { holds = step_holds layered real_forms settings e m formed h.holds; stands = step_stands settings e m h.stands }

  pub settle_lasts : (now : ℕ) (limit : Option ℕ) (m : State) → Lasts m → Lasts (try_settle layered settings now limit m).state
  settle_lasts now limit m h = record { holds = settle_holds layered real_forms settings now limit m h.holds; stands = settle_stands settings now limit m h.stands }
