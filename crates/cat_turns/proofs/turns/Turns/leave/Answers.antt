use Rattle.std.proofs.Common.{rules, ◌≡◌, ℕ, ◌+◌, ◌%◌, ◌^◌, ◌∷◌, ap, sym, ◌∙◌, subst, arith}
use Rattle.atomic_table.specs.Table.{rest}
use Rattle.cat_turns.specs.Law.{GrowsBy}
use Rattle.cat_turns.proofs.Steps.{at_front, first_or, tells_length, passes_on_told, left_with}
use Rattle.cat_turns.proofs.turns.Turns.leave.Goals as goal

wraps : (k t : ℕ) → k ≡ t % 2 ^ 64 → (k + 1) % 2 ^ 64 ≡ (t + 1) % 2 ^ 64
wraps k t e = omega (arith, e)

pub slot_mut-requires : goal.slot_mut-requires
slot_mut-requires g c = let o = c.requires.out in (search rules, (o.1, at_front g.V.Tells.list g.V.Tells.pass_of _ o.1 o.4.1))

pub store-requires : goal.store-requires
store-requires g c =
    let o = c.requires.out in
    let same = ap (first_or g.V.Tells.list g.V.Tells.pass_of o.1) (sym c.slot_mut.ensures.value ∙ o.4.1) in (
      search rules,
      search rules,
      tells_length g.V.Tells.list g.V.Tells.pass_of _ _ _ _ c.slot_mut.result.now o.0 o.2 _ o.4.0 o.5 (ap (λ l. (0, c.slot_mut.result.now) ∷ l) (ap rest o.4.1))
          (subst (λ h. GrowsBy g.V.Tells.pass_of o.2 c.args.seat.now.me.0.seen (g.V.Tells.list h.value)) (sym same) o.6) c.entries-length.ensures,
    )

pub store-requires-2 : goal.store-requires-2
store-requires-2 g c =
    let o = c.requires.out in
    let has = sym c.slot_mut.ensures.value ∙ o.4.1 in (
      search rules,
      search rules,
      passes_on_told g.V.Tells.list g.V.Tells.pass_of _ _ c.args.seat.now.me.0 _ _ o.1 o.0 _ (c.store.ensures.2 o.1 has) (o.4.0, has, o.4.2, o.4.3) (wraps c.args.ticket o.0 o.3),
    )

pub returns-clause-left : goal.returns-clause-left
returns-clause-left g c h has = left_with g.V.Tells.list g.V.Tells.pass_of c.args.seat.now.me.0 _ _ _ h 0 (c.store.ensures.2 h (sym c.slot_mut.ensures.value ∙ has)) c.store-2.ensures.2
