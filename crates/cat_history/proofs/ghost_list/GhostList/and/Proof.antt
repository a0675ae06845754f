-- The struct is made of its mark alone, and its items are those that the clause names.
use Rattle.std.proofs.Common.{[], ◌∷◌, ◌++◌, refl}
use mir.Syntax.{a_type}
use mir.MapTy.{inst_fn}
use base.Fml.{ftrue}
use contract.Running.{tables}
use types.Kit.{‵, raw, ◌⊛◌, ◌$◌, ◌∵◌, !, qed, move, keep, split, fjoin, suffices, done}
use types.Part.{agg}
use types.Run.{enter, returns, and_then, no_more}
use types.ByLocal.{alloc_all, pass_all, free_all, look_at, get, sets}
use denote.Exit.{yes}
use denote.Param.{param, layouts}
use denote.RattleType.{owns}
use denote.Ref.{shr_vals}
use denote.Builtin.{RefOf}
use denote.Signature.{Slot, plain, types_at}
use denote.Steps.{nothing}
use denote.Triple.Entry.{alive, Vals}
use denote.Triple.Walked.{Stays, says, stay_dropped, Goes-dropped, ends_at}
use Rattle.std.proofs.raw_atomic.Walks.{proved}
use Rattle.cat_history.proofs.Made.{marked, marks}
use Rattle.cat_history.specs.contracts.ghost_list.GhostList as GhostList
use Rattle.cat_history.specs.contracts.ghost_list.GhostList.and as f
use Rattle.cat_history.proofs.ghost_list.GhostList.and.Statement.{statement}
use Rattle.cat_history.proofs.ghost_list.GhostList.and.Code as code

pub and_spec : {M : Type 1} → statement M
and_spec 𝓤 𝓛 𝓜 𝓡 wired E laws =
    let clauses = f.clauses E 𝓛 𝓜.mem 𝓡.returns in
    let types = layouts (a_type ∷ []) (E, tt) in
    let S = (f.ended E).signature in
    let list_slot : Slot 3 = RefOf (0 ∷ []) tt (plain (λ _. GhostList.the_row (param 0 E))) (λ _. tt) in
    let entry_slot : Slot 3 = RefOf (1 ∷ []) tt (plain (λ _. param 0 E)) (λ _. tt) in
    let stayed : Stays S.params (f.ended E).kept = (stay_dropped list_slot yes, (stay_dropped entry_slot yes, tt)) in
    proved 𝓛 (f.ended E) stayed clauses 𝓜 𝓡 (Goes-dropped 𝓛 3 list_slot yes (λ κs x w. refl), (Goes-dropped 𝓛 3 entry_slot yes (λ κs x w. refl), tt))
    (f.Key.name types) (inst_fn types code.function) (code.unfolded 𝓤 𝓛.H 𝓜 𝓡 wired (E, tt))
    (λ κs. (shr_vals, (shr_vals, tt))) (λ κs. ((λ r vs s. s.0), ((λ r vs s. s.0), tt))) (λ κs qs bounds a picked are.
    let vals : Vals S κs = (shr_vals a.0, (shr_vals a.1.0, tt)) in
    let list : (GhostList.the_row (param 0 E)).Denot = record { entry = record {}; items = a.0.now.items ++ a.1.0.now ∷ [] } in
    qed 𝓛 ((raw (alive 𝓛 S κs qs) ⊛ ‵ (owns (types_at S.params κs) a vals)) ∷ raw ((clauses κs a).requires picked) ∷ []) ∵ split ! $ keep ! (0 ∷ []) $
    -- [the tokens]
    enter ! _ _ _ _ _ $ alloc_all ! (λ l. pass_all ! refl ((tt, tt), ((tt, tt), tt)) $
    sets ! (agg ! (no_more !)) refl (tt, tt) $
    sets ! (agg ! (and_then ! (get ! refl) (no_more !))) refl (tt, (tt, tt)) $
    returns ! (look_at ! 0 refl) $ free_all ! refl $
    suffices ! _ (ends_at 𝓛 (f.ended E) stayed clauses ((κs, qs, bounds, a, vals), picked) marked list (tt, (tt, tt)) (tt, (tt, tt))) $ says ! refl $
    -- [nothing of either reference; the list; the tokens]
    nothing ! $ marks ! (param 0 E) $ fjoin ! $ nothing ! $ nothing ! $ fjoin ! $ nothing ! $ fjoin ! $ move ! (2 ∷ 0 ∷ 1 ∷ []) $ done !))
