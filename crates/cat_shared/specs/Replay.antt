-- The state to which a journal leads.
use Rattle.std.specs.Prelude.{ℕ, Bool, true, false, cond, ◌&&◌, ◌||◌, nat_eq, List, [], ◌∷◌}
use Rattle.std.specs.Option.{option_and_then}
use Rattle.std.specs.declared.option.Option.{Option}
use Rattle.std.specs.declared.option.Option.TheVariants.{None, Some}
use Rattle.cat_desk.specs.Acts.{answered, done}
use Rattle.cat_desk.specs.Deed.{Deed}
use Rattle.cat_desk.specs.Deed.Deed.{Take, Finish, PutStitch, Settle}
use Rattle.cat_desk.specs.declared.command.Reply.{Reply}
use Rattle.cat_desk.specs.declared.command.Reply.TheVariants as replies
use Rattle.cat_model.specs.Catalogue.{Rules}
use Rattle.cat_model.specs.Settle.{mark_order, order, try_settle}
use Rattle.cat_model.specs.declared.types.Settings.{Settings}
use Rattle.cat_model.specs.declared.types.State.{State}
use Rattle.cat_shared.specs.Notes.{deed_in, is_noted, is_now}
use Rattle.cat_shared.specs.declared.entry.Entry.{Entry}
use Rattle.cat_shared.specs.declared.entry.Noted.{Noted}
use Rattle.cat_shared.specs.declared.entry.Noted.TheVariants as notes

-- Whether a reply says that a mutation acted.
abbrev pub is_mutated : Reply → Bool
is_mutated (replies.Mutated acted) = is_now acted
is_mutated _ = false

-- Whether a reply says that another input command acted.
abbrev pub is_changed : Reply → Bool
is_changed replies.Changed = true
is_changed _ = false

-- Whether two replies say alike that an input command acted.
abbrev pub are_alike : Reply → Reply → Bool
are_alike said reply = (is_mutated said && is_mutated reply) || (is_changed said && is_changed reply)

-- The state after a deed, where it is one that is noted.
abbrev pub led_by : Rules → Settings → ℕ → Option ℕ → Deed → State → Option State
led_by rules s now limit d m = cond (is_noted (answered rules s now limit d m)) (Some (done rules s now limit d m)) None

-- The state to which a note leads: an input command acts and has its reply; a take at its moment gives an order; the result of the order of
-- its reference's lease counts, whose token it has; the document of its reference's mark counts, whose ticket it has; a settle at its moment
-- goes as far as it goes; where it lacked memory just so many events of it stand, and just its first where what follows that wasn't kept; or what
-- wasn't kept changes nothing. There is none where nothing of the kind happens.
unfoldable pub led : Rules → Settings → Noted → State → Option State
led rules s (notes.Acted input reply) m = cond (are_alike reply (answered rules s 0 None (deed_in input) m)) (led_by rules s 0 None (deed_in input) m) None
led rules s (notes.Taken now) m = led_by rules s now None Take m
led rules s (notes.Finished reference token now) m = option_and_then (λ x. cond (nat_eq x.token token) (led_by rules s now None (Finish x) m) None) (order rules m reference)
led rules s (notes.Stitched reference ticket) m = option_and_then (λ x. cond (nat_eq x.ticket ticket) (led_by rules s 0 None (PutStitch x) m) None) (mark_order rules m reference)
led rules s (notes.Settled now) m = led_by rules s now None Settle m
led rules s notes.Unkept m = Some m
led rules s (notes.Cut now events) m = cond (nat_eq (try_settle rules s now (Some events) m).events events) (led_by rules s now (Some events) Settle m) None
led rules s (notes.CutUnkept now events) m = cond (nat_eq events 1 && nat_eq (try_settle rules s now (Some 1) m).events 1) (Some (done rules s now (Some 1) Settle m)) None

-- The state to which a journal leads from the opening state, each entry from the state of the entries before it; there is none where an entry
-- leads nowhere.
abbrev pub replay : Rules → Settings → State → List Entry → Option State
replay rules s m [] = Some m
replay rules s m (entry ∷ entries) = option_and_then (λ n. replay rules s n entries) (led rules s entry.noted m)
