-- The struct is made of its mark alone, and its items are those that the clause names.
use Rattle.std.proofs.Common.{[], ◌∷◌, refl}
use mir.Syntax.{a_type}
use mir.MapTy.{inst_fn}
use base.Fml.{ftrue}
use contract.Running.{tables}
use types.Kit.{‵, raw, ◌⊛◌, ◌$◌, ◌∵◌, !, qed, move, keep, split, fjoin, suffices, done}
use types.Part.{agg}
use types.Run.{enter, returns, and_then, no_more}
use types.ByLocal.{alloc_all, pass_all, free_all, look_at, get, sets}
use denote.Param.{param, layouts}
use denote.Steps.{nothing}
use denote.Triple.Entry.{alive}
use denote.Triple.Walked.{says, ends_at}
use Rattle.std.proofs.raw_atomic.Walks.{proved}
use Rattle.cat_history.proofs.Made.{marked, marks}
use Rattle.cat_history.specs.contracts.ghost_list.GhostList as GhostList
use Rattle.cat_history.specs.contracts.ghost_list.GhostList.new as f
use Rattle.cat_history.proofs.ghost_list.GhostList.new.Statement.{statement}
use Rattle.cat_history.proofs.ghost_list.GhostList.new.Code as code

pub new_spec : {M : Type 1} → statement M
new_spec 𝓤 𝓛 𝓜 𝓡 wired E laws =
    let clauses = f.clauses E 𝓛 𝓜.mem 𝓡.returns in
    let types = layouts (a_type ∷ []) (E, tt) in
    proved 𝓛 (f.ended E) tt clauses 𝓜 𝓡 tt (f.Key.name types) (inst_fn types code.function) (code.unfolded 𝓤 𝓛.H 𝓜 𝓡 wired (E, tt))
    (λ κs. tt) (λ κs. tt) (λ κs qs bounds a picked are.
    let list : (GhostList.the_row (param 0 E)).Denot = record { entry = record {}; items = [] } in
    qed 𝓛 ((raw (alive 𝓛 (f.ended E).signature κs qs) ⊛ ‵ ftrue) ∷ raw ((clauses κs a).requires picked) ∷ []) ∵ split ! $ keep ! (0 ∷ []) $
    -- [the tokens]
    enter ! _ _ _ _ _ $ alloc_all ! (λ l. pass_all ! refl tt $
    sets ! (agg ! (no_more !)) refl (tt, tt) $
    sets ! (agg ! (and_then ! (get ! refl) (no_more !))) refl (tt, (tt, tt)) $
    returns ! (look_at ! 0 refl) $ free_all ! refl $
    suffices ! _ (ends_at 𝓛 (f.ended E) tt clauses ((κs, qs, bounds, a, tt), picked) marked list tt tt) $ says ! refl $
    -- [nothing of parameters; the list; the tokens]
    nothing ! $ marks ! (param 0 E) $ fjoin ! $ nothing ! $ move ! (2 ∷ 0 ∷ 1 ∷ []) $ done !))
