-- The documents computed afresh from the inputs under given claims.
use Rattle.std.specs.Prelude.{◌≡◌, ℕ, zero, suc, true, false, cond, List, length, is_some}
use Rattle.std.specs.declared.option.Option.{Option}
use Rattle.std.specs.declared.option.Option.TheVariants.{None, Some}
use Rattle.std.specs.Option.{option_and_then, option_map}
use Rattle.cat_collections.specs.Table.{Text, same_text, Map, get, keys, tabulate, over, text_cmp}
use Rattle.cat_model.specs.Catalogue.{Ref, Tree, Issues, Shelf, Offered, Output, Outcome, Parts, Work, Rules, Origin, Row, ProviderInputs, Record, State, holding, work, work_of, output_of, emitted, from_source, Orphan, parts}
use Rattle.cat_types.specs.declared.work.Outcome.TheVariants.{Good, Bad}
use Rattle.cat_model.specs.declared.types.Origin.TheVariants.{Provider, Entity}

-- the origin and key of the row that holds a reference
pub record Claim : Type 0 where
  pub origin : Origin
  pub key : Text

-- what documents are computed from: the inputs, the claims and numbers of references, and their last good outputs
pub record Facts : Type 0 where
  pub providers : Map ProviderInputs
  pub shelf : Shelf
  pub refs : List Ref
  pub claim : Ref → Option Claim
  pub number : Ref → ℕ
  pub last : Ref → Option Output

-- an offer's tree, where it has this key
abbrev pub with_key : Text → Offered → Option Tree
with_key key x = cond (same_text key x.key) (Some x.tree) None

-- the provider's item, or the offer in the parent's output, with the key that is claimed
abbrev pub tree_from : Facts → (Ref → Option Output) → Ref → Text → Origin → Option Tree
tree_from facts outputs r key (Provider p) = option_and_then (with_key key) (option_and_then (λ x. get x.items r) (get facts.providers p))
tree_from facts outputs r key (Entity e) = option_and_then (with_key key) (option_and_then (λ x. get x.offers r) (outputs e))

-- the tree of a claim, given the outputs
abbrev pub claimed_tree : Facts → (Ref → Option Output) → Ref → Claim → Option Tree
claimed_tree facts outputs r claim = tree_from facts outputs r claim.key claim.origin

-- the work of a reference's claim, given the outputs
abbrev pub fresh_work : Rules → Facts → (Ref → Option Output) → Ref → Option Work
fresh_work rules facts outputs r = option_map (work_of rules facts.shelf) (option_and_then (claimed_tree facts outputs r) (facts.claim r))

-- the output of a good result, or else the last one
abbrev pub good_output : Outcome → Option Output → Option Output
good_output (Good output issues) last = Some output
good_output (Bad issues) last = last

-- the issues of a result, its warnings where it is good
abbrev pub issues_of : Outcome → Issues
issues_of (Good output issues) = issues
issues_of (Bad issues) = issues

-- the output of the reference's fresh work where it is good, else its last good one; up a chain of n steps
abbrev pub fresh_output : Rules → Facts → ℕ → Ref → Option Output
fresh_output rules facts zero r = None
fresh_output rules facts (suc n) r = option_and_then (λ w. good_output (rules.result w) (facts.last r)) (fresh_work rules facts (fresh_output rules facts n) r)

-- the output of a reference computed afresh
abbrev pub fresh_outputs : Rules → Facts → Ref → Option Output
fresh_outputs rules facts r = fresh_output rules facts (length facts.refs) r

-- the parts of a reference computed afresh
abbrev pub fresh_parts : Rules → Facts → Ref → Work → Output → Parts
fresh_parts rules facts r w output =
    record {
      entity = output.entity;
      number = facts.number r;
      orphan = false;
      relations = from_source r (emitted rules facts.refs (fresh_outputs rules facts));
      issues = issues_of (rules.result w);
    }

-- the document of a reference computed afresh
abbrev pub fresh_doc : Rules → Facts → Ref → Option Tree
fresh_doc rules facts r =
    option_and_then (λ w. option_map (λ output. rules.doc (fresh_parts rules facts r w output)) (fresh_outputs rules facts r))
    (fresh_work rules facts (fresh_outputs rules facts) r)

-- the last output, where the result is bad
abbrev pub bad_output : Outcome → Option Output → Option Output
bad_output (Good output issues) last = None
bad_output (Bad issues) last = last

-- a record's number
abbrev pub number_at : Option Record → ℕ
number_at None = 0
number_at (Some x) = x.number

-- the claim of a row
abbrev pub claim_of : Row → Claim
claim_of row = record { origin = row.origin; key = row.offered.key }

-- a state's inputs, claims, numbers, and the outputs of those records whose work has a bad result
abbrev pub facts_of : Rules → State → Facts
facts_of rules m =
    record {
      providers = m.providers;
      shelf = m.shelf;
      refs = keys m.holders;
      claim = λ r. option_map claim_of (holding m.rows m.holders r);
      number = λ r. number_at (get m.records r);
      last = λ r. option_and_then (λ w. bad_output (rules.result w) (output_of m.records r)) (work rules m r);
    }

-- what an origin offers for r: a provider's item, or an offer of a fresh output
abbrev pub fresh_offered : Rules → Facts → Origin → Ref → Option Offered
fresh_offered rules facts (Provider p) r = option_and_then (λ x. get x.items r) (get facts.providers p)
fresh_offered rules facts (Entity e) r = option_and_then (λ x. get x.offers r) (fresh_outputs rules facts e)

-- an origin offers r with the key that is claimed
pub record IsOffered (rules : Rules) (facts : Facts) (r : Ref) (claim : Claim) : Type 0 where
  pub offer : Offered
  pub given : fresh_offered rules facts claim.origin r ≡ Some offer
  pub key : offer.key ≡ claim.key

-- each claim is of an offer, and each reference that is offered is claimed
pub record Complete (rules : Rules) (facts : Facts) : Type 0 where
  pub claims_offered : (r : Ref) (claim : Claim) → facts.claim r ≡ Some claim → IsOffered rules facts r claim
  pub offers_claimed : (o : Origin) (r : Ref) (x : Offered) → fresh_offered rules facts o r ≡ Some x → is_some (facts.claim r) ≡ true

-- the documents of the claimed references, in order of reference
abbrev pub fresh_docs : Rules → Facts → Map Tree
fresh_docs rules facts = tabulate text_cmp facts.refs (λ r. fresh_doc rules facts r)

-- a document, unless its reference is an orphan
abbrev pub unless_orphan : Option Orphan → Tree → Option Tree
unless_orphan None document = Some document
unless_orphan (Some x) document = None

-- a state's documents of references that are no orphans
abbrev pub entity_docs : State → Map Tree
entity_docs m = over text_cmp m.documents (λ r document. unless_orphan (get m.orphans r) document)

-- the documents of entities are those computed afresh, those of orphans are of their parts, and the claims leave nothing out
pub record IsFresh (rules : Rules) (m : State) : Type 0 where
  pub entities : entity_docs m ≡ fresh_docs rules (facts_of rules m)
  pub orphans : (r : Ref) (x : Orphan) → get m.orphans r ≡ Some x → get m.documents r ≡ option_map rules.doc (parts rules m r)
  pub complete : Complete rules (facts_of rules m)
  -- of the kept outputs just those count whose fresh work has a bad result
  pub last : (r : Ref) → (facts_of rules m).last r ≡ option_and_then (λ w. bad_output (rules.result w) (output_of m.records r)) (fresh_work rules (facts_of rules m) (fresh_outputs rules (facts_of rules m)) r)
