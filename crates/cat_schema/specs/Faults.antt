-- The breaches of one rule at one or more places.
use Rattle.std.specs.Prelude.{ℕ, suc, List, [], ◌∷◌, ◌++◌, Bool, Option, Some, None, if◌then◌else◌}
use Rattle.std.specs.Fmt.{decimal}
use Rattle.cat_tree.specs.Data.{Data, null, flag, whole, words, list, dict, Items, no_items, item, Members, no_members, member}
use Rattle.cat_tree.specs.Ask.{child_of}
use Rattle.cat_types.specs.Names.{is_key}
use Rattle.cat_schema.specs.Forms.{has_form, is_as}
use Rattle.cat_schema.specs.declared.form.Form.{Form}
use Rattle.cat_schema.specs.declared.form.Form.TheVariants.{List as Listing}
use Rattle.cat_schema.specs.declared.form.Wanted.{Wanted}
use Rattle.cat_schema.specs.declared.form.Wanted.TheVariants.{Optional}
use Rattle.cat_schema.specs.declared.faults.SchemaFault.{SchemaFault}

-- a breach of a rule at a place
abbrev pub fault : ℕ → List ℕ → SchemaFault
fault rule place = record { rule = rule; place = place }

-- the dotted path of a key or a position at a place
abbrev pub below : List ℕ → List ℕ → List ℕ
below [] key = key
below (b ∷ bs) key = (b ∷ bs) ++ 46 ∷ key

-- a breach, unless the test holds
abbrev pub unless : Bool → ℕ → List ℕ → List SchemaFault
unless holds rule place = if holds then [] else fault rule place ∷ []

-- the field at a key is as wanted
unfoldable pub field : ℕ → Wanted → Data → List ℕ → List ℕ → List SchemaFault
field rule wanted parent place key = unless (is_as wanted (child_of key parent)) rule (below place key)

-- each of the fields at these keys is as wanted
abbrev pub fields : ℕ → Wanted → Data → List ℕ → List (List ℕ) → List SchemaFault
fields rule wanted parent place [] = []
fields rule wanted parent place (key ∷ keys) = field rule wanted parent place key ++ fields rule wanted parent place keys

-- what is asked of a tree, asked of each member of a list, whose positions go on from a number
abbrev pub over_items : (ℕ → Data → List SchemaFault) → ℕ → Items → List SchemaFault
over_items ask k no_items = []
over_items ask k (item d ds) = ask k d ++ over_items ask (suc k) ds

-- the same of each key and value of a map
abbrev pub over_members : (List ℕ → Data → List SchemaFault) → Members → List SchemaFault
over_members ask no_members = []
over_members ask (member k d ms) = ask k d ++ over_members ask ms

-- the member at a position has the form
abbrev pub member_fault : ℕ → Form → List ℕ → ℕ → Data → List SchemaFault
member_fault rule form place k d = unless (has_form form d) rule (below place (decimal k))

-- the value at a key has the form
abbrev pub value_fault : ℕ → Form → List ℕ → List ℕ → Data → List SchemaFault
value_fault rule form place key d = unless (has_form form d) rule (below place key)

-- a key has the form of a key
abbrev pub key_fault : ℕ → List ℕ → List ℕ → Data → List SchemaFault
key_fault rule place key d = unless (is_key key) rule (below place key)

-- where the part is a list
abbrev pub in_list : (Items → List SchemaFault) → Option Data → List SchemaFault
in_list ask None = []
in_list ask (Some null) = []
in_list ask (Some (flag b)) = []
in_list ask (Some (whole z)) = []
in_list ask (Some (words s)) = []
in_list ask (Some (list ds)) = ask ds
in_list ask (Some (dict ms)) = []

-- where the part is a map
abbrev pub in_map : (Members → List SchemaFault) → Option Data → List SchemaFault
in_map ask None = []
in_map ask (Some null) = []
in_map ask (Some (flag b)) = []
in_map ask (Some (whole z)) = []
in_map ask (Some (words s)) = []
in_map ask (Some (list ds)) = []
in_map ask (Some (dict ms)) = ask ms

-- each member of the list has the form
unfoldable pub members : ℕ → Form → Option Data → List ℕ → List SchemaFault
members rule form part place = in_list (over_items (member_fault rule form place) 0) part

-- each value of the map has the form
unfoldable pub values : ℕ → Form → Option Data → List ℕ → List SchemaFault
values rule form part place = in_map (over_members (value_fault rule form place)) part

-- each key of the map has the form of a key
unfoldable pub keys : ℕ → Option Data → List ℕ → List SchemaFault
keys rule part place = in_map (over_members (key_fault rule place)) part

-- the fields of the member at a position are as wanted
abbrev pub member_fields_at : ℕ → Wanted → List ℕ → List (List ℕ) → ℕ → Data → List SchemaFault
member_fields_at rule wanted place ks k d = fields rule wanted d (below place (decimal k)) ks

-- the fields of each member of the list are as wanted
unfoldable pub member_fields : ℕ → Wanted → Option Data → List ℕ → List (List ℕ) → List SchemaFault
member_fields rule wanted part place ks =
    in_list (over_items (member_fields_at rule wanted place ks) 0) part

-- the same of one map, where it is there
abbrev pub part_fields : ℕ → Wanted → Option Data → List ℕ → List (List ℕ) → List SchemaFault
part_fields rule wanted None place ks = []
part_fields rule wanted (Some d) place ks = fields rule wanted d place ks

-- each of the fields at these keys is absent or a list whose members have the form
abbrev pub lists : ℕ → Form → Data → List ℕ → List (List ℕ) → List SchemaFault
lists rule form parent place [] = []
lists rule form parent place (key ∷ ks) =
    (field rule (Optional Listing) parent place key ++ members rule form (child_of key parent) (below place key)) ++ lists rule form parent place ks
