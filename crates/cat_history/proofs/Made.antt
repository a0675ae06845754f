-- A struct whose one field is a mark, as it is made.
use Rattle.std.proofs.Common.{◌≡◌, List, [], ◌∷◌, refl}
use seplogic.Ra.Ura.{Ura}
use mir.Val.{Val, vstruct, vcons, vnil}
use types.Logic.{Logic}
use types.Kit.{Goal, Step, step, Item, ‵, ◌$◌, move, fjoin, fpack, feq_i}
use denote.RattleType.{RattleType, Valss}
use denote.Laws.{Is}
use denote.Steps.{nothing, owned}
use denote.Struct.Laws.{makes}
use denote.Struct.Struct.{Struct, within}
use Rattle.std.specs.contracts.marker.PhantomData as Mark

-- the machine value of a mark
abbrev pub mark : Val
mark = vstruct vnil

-- and of a struct around it
abbrev pub marked : Val
marked = vstruct (vcons mark vnil)

-- the fields of such a struct
abbrev pub fields : RattleType → RattleType
fields E = Struct (record { name = []; args = []; types = []; fields = Mark.the_row E ∷ [] })

module _ {M : Type 1} {𝓤 : Ura M} {𝓛 : Logic 𝓤} {K : Type 0} {Γ : List (Item 𝓤)} {G : Goal 𝓤 𝓛.H} where
  -- it owns what its mark owns, which is nothing
  pub marks : K → (E : RattleType) → Step K 𝓛 (‵ ((fields E).own_val (record {}, tt) (marked ∷ [])) ∷ Γ) G Γ G
  marks t E = step (λ s.
      owned t (Mark.the_row E) (Is (Mark.the_row E)) (makes (Mark.the_type E) tt 𝓛) (record {}) (mark ∷ []) (tt, (refl, tt)) $
      nothing t $ move t (1 ∷ 0 ∷ []) $ fjoin t $ feq_i t (List Val) (marked ∷ []) (marked ∷ []) refl $ fjoin t $
      fpack t (Valss (Mark.the_row E ∷ [])) (within (record { name = []; args = []; types = []; fields = Mark.the_row E ∷ [] }) (record {}, tt) (marked ∷ [])) (mark ∷ [], tt) $ s)
