-- Texts of changes that are appended part by part.
use Rattle.std.proofs.Common.{◌≡◌, ℕ, Bool, false, List, ◌∷◌, [], ◌++◌, refl, ap, ◌∙◌}
use Rattle.std.specs.Prelude.{codes, map}
use Rattle.json.specs.Print.{escape_byte}
use Rattle.cat_tree.specs.Data.{Data, words}
use Rattle.cat_tree.specs.Text.{text_of}
use Rattle.cat_query.proofs.Texts.{rest_text}
use Rattle.cat_feed.specs.declared.change.Changes.{Changes}
use Rattle.std.specs.declared.option.Option.TheVariants.{None, Some}
use Rattle.cat_feed.specs.Place.{since_text}
use Rattle.cat_feed.specs.Written.{change_data, changes_data, place_data, set_of}

pub gone_text : (r : Data) → codes "{\"entityRef\":" ++ (text_of r ++ codes "}") ≡ text_of (set_of r None)
unfolding escape_byte
gone_text r = refl

pub set_text : (r d : Data) → codes "{\"entityRef\":" ++ (text_of r ++ (codes ",\"set\":" ++ (text_of d ++ codes "}"))) ≡ text_of (set_of r (Some d))
unfolding escape_byte
set_text r d = refl

pub changes_text : (c : Changes)
    → codes "{\"changes\":[" ++ (rest_text false (map change_data c.list) ++ (codes ",\"from\":" ++ (text_of (place_data c.from) ++ (codes ",\"to\":" ++ (text_of (words (since_text c.to)) ++ codes "}"))))) ≡ text_of (changes_data c)
unfolding escape_byte
changes_text c = refl
