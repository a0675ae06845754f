-- The own changes of mutations and of results.
use Rattle.std.specs.Prelude.{◌≡◌, cond, List, [], ◌++◌}
use Rattle.std.specs.declared.alloc.Global.{Global}
use Rattle.std.specs.declared.boxed.Box.{Box}
use Rattle.std.specs.declared.option.Option.{Option}
use Rattle.std.specs.declared.option.Option.TheVariants.{None, Some}
use Rattle.cat_collections.specs.Table.{Text, get, keys, put, text_cmp}
use Rattle.cat_types.specs.declared.work.Outcome.{Outcome}
use Rattle.cat_types.specs.declared.work.Outcome.TheVariants.{Good, Bad}
use Rattle.cat_model.specs.declared.types.Leaving.{Leaving}
use Rattle.cat_model.specs.declared.types.Leaving.TheVariants.{Deleted}
use Rattle.cat_model.specs.declared.types.Origin.TheVariants.{Provider}
use Rattle.cat_model.specs.declared.types.Record.{Record}
use Rattle.cat_model.specs.declared.types.State.{State}
use Rattle.cat_model.specs.Catalogue.{Offers, Ref}
use Rattle.cat_model.specs.declared.types.Given.{Given}
use Rattle.cat_model.specs.Step.{finished_rows, replaced}
use Rattle.cat_claims.specs.Claimed.{IsClaimed}
use Rattle.cat_plan.specs.declared.change.Own.{Own}
use Rattle.cat_events.specs.Again.{kept_offers}
use Rattle.cat_claims.specs.declared.types.Claimed.{Claimed}
use Rattle.cat_events.specs.declared.plan.Inputs.TheVariants.{Providers, Same}
use Rattle.cat_events.specs.declared.plan.OwnChange.{OwnChange}

-- the own change of a mutation after which a provider has these items: its inputs are put and its rows replaced, and what it gives or another row holds is touched
pub record IsMutating (p : Text) (x : Given) (items : Offers) (m : State) (own : OwnChange) : Type 0 where
  pub claimed : Box Claimed Global
  pub are : IsClaimed claimed.value m.holders (replaced (Provider p) (get items) (keys x.items) m)
  pub is : own ≡ record {
    how = Deleted;
    own = None;
    inputs = Providers (put text_cmp p (record { serial = x.serial; items = items }) m.providers);
    claims = Some claimed;
    touched = claimed.value.moved ++ keys x.items;
  }

-- the references that a result offers: those of a good one's offers
abbrev pub offered_refs : Outcome → List Ref
offered_refs (Good output issues) = keys output.offers
offered_refs (Bad issues) = []

-- the own change of a result that replaces rows: what it offers or another row holds is touched
pub record IsFinishing (how : Leaving) (own : Own) (outcome : Outcome) (m : State) (x : OwnChange) : Type 0 where
  pub claimed : Box Claimed Global
  pub are : IsClaimed claimed.value m.holders (finished_rows own.reference outcome m)
  pub is : x ≡ record { how = how; own = Some own; inputs = Same; claims = Some claimed; touched = claimed.value.moved ++ offered_refs outcome }

-- the references that a record's kept output offers, and these
abbrev pub offered_or : Option Record → List Ref → List Ref
offered_or kept order = keys (kept_offers kept) ++ order

-- the references whose item may be another one after a mutation: those that a full one takes away or else those that are removed, and those that are given
abbrev pub given_or_removed : Given → Offers → List Ref
given_or_removed x items = cond x.full (keys items) x.removed ++ keys x.items

-- the own change of a result that leaves all rows as they are
abbrev pub finishing_alone : Leaving → Own → OwnChange
finishing_alone how own = record { how = how; own = Some own; inputs = Same; claims = None; touched = [] }
