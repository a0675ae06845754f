-- What a tree or a field may be asked to be.
use Rattle.std.specs.Prelude.{ℕ, List, Bool, true, false, Option, Some, None, ◌||◌, ◌==◌, not, length, is_some, bytes_eq, codes}
use Rattle.cat_tree.specs.Data.{Data, null, flag, whole, words, list, dict}
use Rattle.cat_tree.specs.Ask.{child_of}
use Rattle.cat_types.specs.Names.{is_name, is_namespace, is_tag, is_location_type}
use Rattle.cat_types.specs.Reference.{is_map}
use Rattle.cat_schema.specs.Kinds.{kind_named}
use Rattle.cat_schema.specs.declared.form.Form.{Form}
use Rattle.cat_schema.specs.declared.form.Form.TheVariants.{Map, List as Listing, Words, Filled, ApiVersion, KindName, Name, NameOrEmpty, Namespace, Tag, LocationType, Presence, Link}
use Rattle.cat_schema.specs.declared.form.Wanted.{Wanted}
use Rattle.cat_schema.specs.declared.form.Wanted.TheVariants.{Needed, Optional}

-- a text without a byte
abbrev pub is_empty : List ℕ → Bool
is_empty s = length s == 0

-- a text that passes
abbrev pub has_text : (List ℕ → Bool) → Data → Bool
has_text p null = false
has_text p (flag b) = false
has_text p (whole z) = false
has_text p (words s) = p s
has_text p (list ds) = false
has_text p (dict ms) = false

-- a list
abbrev pub is_list : Data → Bool
is_list null = false
is_list (flag b) = false
is_list (whole z) = false
is_list (words s) = false
is_list (list ds) = true
is_list (dict ms) = false

-- what each form asks of a text
abbrev pub has_text_form : Form → List ℕ → Bool
has_text_form Map s = false
has_text_form Listing s = false
has_text_form Link s = false
has_text_form Words s = true
has_text_form Filled s = not (is_empty s)
has_text_form ApiVersion s = bytes_eq s (codes "backstage.io/v1alpha1") || bytes_eq s (codes "backstage.io/v1beta1")
has_text_form KindName s = is_some (kind_named s)
has_text_form Name s = is_name s
has_text_form NameOrEmpty s = is_empty s || is_name s
has_text_form Namespace s = is_namespace s
has_text_form Tag s = is_tag s
has_text_form LocationType s = is_location_type s
has_text_form Presence s = bytes_eq s (codes "required") || bytes_eq s (codes "optional")

-- there is one, and it passes
abbrev pub is_there : (Data → Bool) → Option Data → Bool
is_there p None = false
is_there p (Some d) = p d

-- there is none, or it passes
abbrev pub may_be_there : (Data → Bool) → Option Data → Bool
may_be_there p None = true
may_be_there p (Some d) = p d

-- a map with a `url`, a text that isn't empty
abbrev pub is_link : Data → Bool
is_link d = is_there (has_text (has_text_form Filled)) (child_of (codes "url") d)

-- the form of any tree: all but a map, a list and a link are texts
abbrev pub has_form : Form → Data → Bool
has_form Map d = is_map d
has_form Listing d = is_list d
has_form Link d = is_link d
has_form Words d = has_text (has_text_form Words) d
has_form Filled d = has_text (has_text_form Filled) d
has_form ApiVersion d = has_text (has_text_form ApiVersion) d
has_form KindName d = has_text (has_text_form KindName) d
has_form Name d = has_text (has_text_form Name) d
has_form NameOrEmpty d = has_text (has_text_form NameOrEmpty) d
has_form Namespace d = has_text (has_text_form Namespace) d
has_form Tag d = has_text (has_text_form Tag) d
has_form LocationType d = has_text (has_text_form LocationType) d
has_form Presence d = has_text (has_text_form Presence) d

-- a field, if it is there, is as wanted
abbrev pub is_as : Wanted → Option Data → Bool
is_as (Needed form) part = is_there (has_form form) part
is_as (Optional form) part = may_be_there (has_form form) part
