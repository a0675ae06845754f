-- A state that a session reaches may open.
use Rattle.std.proofs.Common.{ℕ, ◌≤◌, List, [], ◌∷◌, inr, sym, subst, arith}
use Rattle.std.specs.declared.option.Option.{Option}
use Rattle.cat_tree.specs.Data.{Data}
use Rattle.cat_collections.specs.Table.{Text}
use Rattle.cat_types.specs.declared.input.Offered.{Offered}
use Rattle.cat_model.specs.Settle.{try_settle}
use Rattle.cat_model.specs.Formed.{Formed}
use Rattle.cat_model.specs.Sound.{AreBegun, AreSmall, Sound}
use Rattle.cat_model.specs.Step.{Event, run, step}
use Rattle.cat_model.specs.declared.types.Settings.{Settings}
use Rattle.cat_model.specs.declared.types.State.{State}
use Rattle.cat_laws.proofs.Counters.{start_begun, step_begun}
use Rattle.cat_laws.proofs.Forms.{row_form}
use Rattle.cat_laws.proofs.Stands.{settle_runs}
use Rattle.cat_layers.specs.Layered.{layered}
use Rattle.cat_layers.specs.Forms.{IsOffer, IsProcessed}
use Rattle.cat_layers.proofs.Forms.{entity_is, offer_is}
use Rattle.cat_stored_rows.specs.Told.{IsTold}
use Rattle.cat_row_updates.specs.Right.{HaveForms, IsEntity, IsGivable, MayOpen}
use Rattle.cat_row_updates.specs.Told.{IsPlaced}
use Rattle.cat_io.specs.Runs.{after_lines}
use Rattle.cat_io.specs.Word.{Word}
use Rattle.cat_session_model.specs.Program.{session_start}
use Rattle.cat_session_model.specs.Session.{session_after}
use Rattle.cat_session_model.proofs.Kept.{lines_kept}
use Rattle.cat_form_laws.specs.Real.{real_forms}
use Rattle.cat_reopening_laws.proofs.Narrow.{rows_narrow}
use Rattle.cat_reopening_laws.proofs.Once.{IsOnce, result_once}
use Rattle.cat_reopening_laws.proofs.Outputs.{AreAll, none_are, step_are}
use Rattle.cat_reopening_laws.proofs.Sums.{left_bytes}
use Rattle.cat_reopening_laws.proofs.Within.{IsWithin, step_stays}

-- ---- what has a form of cat_layers has that which is asked before a store opens

givable : (x : Offered) (r : Text) → IsOffer x r → IsGivable x.tree r
givable x r h = record { named = h.named; shallow = h.within.shallow; proper = h.within.proper }

entity : (levels : ℕ) → 100 ≤ levels → (t : Data) (r : Text) → IsProcessed t r → IsEntity levels t r
entity levels more t r h = record {
  named = h.named;
  shallow = let shallow = h.within.shallow in omega arith;
  proper = h.within.proper;
  namespace = h.namespace;
  schema = h.schema;
  references = h.references;
}

-- what each event keeps: counters are begun, no kept output offers a reference twice, and the inputs are within the limit
pub record Stands (limit : ℕ) (m : State) : Type 0 where
  pub begun : AreBegun m
  pub once : AreAll IsOnce m.records
  pub inputs : IsWithin layered limit m

module _ (s : Settings) where
  abbrev StandsHere : State → Type 0
  StandsHere = Stands s.input_limit

  pub step_stands : (e : Event) (m : State) → StandsHere m → StandsHere (step layered s e m)
  step_stands e m h = record {
    begun = step_begun layered s e m h.begun;
    once = step_are IsOnce layered s result_once e m h.once;
    inputs = step_stays layered s left_bytes e m h.inputs;
  }

  run_stands : (es : List Event) (m : State) → StandsHere m → StandsHere (run layered s es m)
  run_stands [] m h = h
  run_stands (e ∷ es) m h = run_stands es (step layered s e m) (step_stands e m h)

  pub settle_stands : (now : ℕ) (limit : Option ℕ) (m : State) → StandsHere m → StandsHere (try_settle layered s now limit m).state
  settle_stands now limit m h = let runs = settle_runs layered s now limit m in subst StandsHere (sym runs.1) (run_stands runs.0 m h)

  pub start_stands : StandsHere session_start.state
  start_stands = record { begun = start_begun; once = none_are IsOnce; inputs = record { within = omega arith; in_order = tt } }

  pub lines_stand : (lines : List (List ℕ)) (words : List Word) → StandsHere (after_lines (session_after layered s) session_start lines words).state
  lines_stand lines words = lines_kept layered s StandsHere step_stands settle_stands session_start lines words start_stands

  -- ---- what is kept may open

  module _ (m : State) (sound : Sound layered m) (small : AreSmall m) (formed : Formed real_forms m) (k : StandsHere m) where
    told : IsTold m
    told = record {
      offers = sound.offers;
      records = sound.records;
      narrow = rows_narrow s m sound small formed;
      items_in_order = λ p x f. (formed.providers p x f).in_order;
      providers_in_order = formed.providers_in_order;
      shelf_in_order = formed.shelf_in_order;
      rows_in_order = sound.rows_in_order;
      holders_in_order = sound.holders_in_order;
      records_in_order = sound.in_order;
      orphans_in_order = formed.orphans_in_order;
    }

    placed : IsPlaced m
    placed = record { names = λ p x f. (formed.providers p x f).name; small = omega (arith, small.arrival); once = k.once }

    forms : HaveForms m
    forms = record {
      serials = λ p x f. inr ((formed.providers p x f).begun, (formed.providers p x f).small);
      shelf = formed.shelf;
      arrivals = formed.arrivals;
      offers = λ a row f. givable row.offered row.reference (offer_is row.offered row.reference (row_form layered real_forms s m sound formed a row f));
      outputs = λ r x output f e. entity 125 (omega arith) output.entity r (entity_is output.entity r (formed.outputs r x output f e).entity);
      orphans = λ r x f. entity 126 (omega arith) x.entity r (entity_is x.entity r (formed.orphans r x f));
    }

    pub may_open : MayOpen layered s.input_limit m
    may_open = record { sound = sound; told = told; placed = placed; begun = k.begun; small = small; formed = forms; within = k.inputs.within }
