-- Marks by reference, and their tickets in order.
use Rattle.std.specs.Prelude.{◌≡◌, ℕ, Bool, false, cond, nat_le, nat_lt, is_some, List, [], ◌∷◌}
use Rattle.std.specs.Ordering.{eq_by_cmp, nat_cmp}
use Rattle.std.specs.declared.cmp.Ordering.{Ordering}
use Rattle.std.specs.declared.option.Option.{Option}
use Rattle.std.specs.declared.option.Option.TheVariants.{None, Some}
use Rattle.cat_collections.specs.Pairs.{pair_cmp}
use Rattle.cat_collections.specs.Rows.{without}
use Rattle.cat_collections.specs.Table.{Text, find, get, put, text_cmp}

-- a reference, and the ticket of its mark
abbrev pub Mark : Type 0
Mark = Text × ℕ

-- ---- the mark with the least ticket above another

-- the one of two marks with the lesser ticket, the first of them where they are equal
abbrev pub lesser_ticket : Mark → Option Mark → Option Mark
lesser_ticket e None = Some e
lesser_ticket e (Some b) = cond (nat_le e.1 b.1) (Some e) (Some b)

-- of marks in any order, the one with the least ticket above
abbrev pub least_above : ℕ → List Mark → Option Mark
least_above after [] = None
least_above after (e ∷ es) = cond (nat_lt after e.1) (lesser_ticket e (least_above after es)) (least_above after es)

-- ---- marks by ticket

-- tickets with the references that are marked with them
abbrev pub Tickets : Type 0
Tickets = List ((ℕ × Text) × Unit {0})

-- they are ordered by ticket, and by reference where tickets tie
abbrev pub ticket_cmp : ℕ × Text → ℕ × Text → Ordering
ticket_cmp = pair_cmp nat_cmp text_cmp

-- whether a mark has this ticket
abbrev pub is_ticket : ℕ → Option ℕ → Bool
is_ticket t None = false
is_ticket t (Some u) = eq_by_cmp nat_cmp t u

-- a ticket stands with a reference exactly where the reference's mark has it
pub record IsIndexed (marks : List Mark) (tickets : Tickets) : Type 0 where
  pub same : (t : ℕ) (r : Text) → is_some (find ticket_cmp (t, r) tickets) ≡ is_ticket t (get marks r)

-- the tickets without that of a reference's mark, if it has one
abbrev pub tickets_without : Text → Option ℕ → Tickets → Tickets
tickets_without r None tickets = tickets
tickets_without r (Some t) tickets = without ticket_cmp (t, r) tickets

-- the tickets with one for a reference, in place of that of the mark that it had
abbrev pub tickets_with : ℕ → Text → Option ℕ → Tickets → Tickets
tickets_with t r old tickets = put ticket_cmp (t, r) tt (tickets_without r old tickets)
