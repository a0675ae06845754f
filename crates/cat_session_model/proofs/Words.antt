-- What the reply to a line tells of its word.
use Rattle.std.proofs.Common.{◌≡◌, ◌≤◌, ℕ, Bool, true, false, nat_lt, if◌then◌else◌, List, [], ◌∷◌, ◌++◌, length, codes, refl, sym, ap, subst, ◌∙◌, arith}
use Rattle.std.specs.declared.option.Option.{Option}
use Rattle.std.specs.declared.option.Option.TheVariants.{None, Some}
use Rattle.std.specs.declared.result.Result.{Result}
use Rattle.std.specs.declared.result.Result.TheVariants.{Ok, Err}
use Rattle.std.specs.Ordering.{nat_cmp}
use Rattle.cat_collections.specs.Table.{Text, find}
use Rattle.cat_tree.specs.declared.read.TreeFault.{TreeFault}
use Rattle.cat_tree.specs.declared.read.TreeFault.TheVariants.{Syntax, Fraction}
use Rattle.cat_tree.specs.declared.read.TreeFault.TheVariants as tree
use Rattle.cat_types.specs.declared.input.Mutation.{Mutation}
use Rattle.cat_inputs.specs.declared.fault.InputFault.{InputFault}
use Rattle.cat_inputs.specs.declared.fault.InputFault.TheVariants as input
use Rattle.cat_query.specs.declared.fault.QueryFault.{QueryFault}
use Rattle.cat_query.specs.declared.fault.QueryFault.TheVariants as query
use Rattle.cat_session_lines.specs.Lines.{line_of}
use Rattle.cat_session_lines.specs.declared.fault.LineFault.{LineFault}
use Rattle.cat_session_lines.specs.declared.fault.LineFault.TheVariants.{LongLine, BadWord, BadArguments, Input, Reference, Query, NoMemory}
use Rattle.cat_session_lines.specs.declared.line.Line.{Line}
use Rattle.cat_session_lines.specs.declared.line.Line.TheVariants as asks
use Rattle.cat_io.specs.Lines.{longest_line}
use Rattle.cat_io.specs.Runs.{line_after, line_reply}
use Rattle.cat_io.specs.Word.{Word, plain, memory, cut, unkept, cut_unkept}
use Rattle.cat_model.specs.Catalogue.{Rules}
use Rattle.cat_model.specs.Given.{given}
use Rattle.cat_model.specs.Reply as model
use Rattle.cat_model.specs.Sound.{Quiet, Sound}
use Rattle.cat_model.specs.Step.{refusal}
use Rattle.cat_model.specs.Step.Event.{Mutate, ShelfPut, ShelfDrop, Refresh, Forget, Take, Finish, PutStitch}
use Rattle.cat_model.specs.declared.types.Acted.{Acted}
use Rattle.cat_model.specs.declared.types.Acted.TheVariants.{Now, Again}
use Rattle.cat_model.specs.declared.types.Counts.{Counts}
use Rattle.cat_model.specs.declared.types.Fault.{Fault}
use Rattle.cat_model.specs.declared.types.Fault.TheVariants.{OldSerial, NotFound, TooLarge, Spent}
use Rattle.cat_model.specs.declared.types.Finished.{Finished}
use Rattle.cat_model.specs.declared.types.Finished.TheVariants.{Good, Bad, Late as FinishedLate}
use Rattle.cat_model.specs.declared.types.Order.{Order}
use Rattle.cat_model.specs.declared.types.Placed.{Placed}
use Rattle.cat_model.specs.declared.types.Placed.TheVariants.{Counted, Late as PlacedLate}
use Rattle.cat_model.specs.declared.types.Progress.{Progress}
use Rattle.cat_model.specs.declared.types.Settings.{Settings}
use Rattle.cat_model.specs.declared.types.StitchOrder.{StitchOrder}
use Rattle.cat_model.specs.declared.types.Stop.{Stop}
use Rattle.cat_model.specs.declared.types.Stop.TheVariants.{Refused, Limit}
use Rattle.cat_laws.proofs.Tried.{unstopped_quiet}
use Rattle.cat_replies.specs.Events as say
use Rattle.cat_replies.specs.Faults as faults
use Rattle.cat_session_model.proofs.Told.{cut_told, first, other_first, whole_told}
use Rattle.cat_session_model.specs.Quiet.{IsAtRest}
use Rattle.cat_session_model.specs.Session.{after_reading, after_result, finish_reply, line_fault, order_numbered, or_refused, order_reply, place_reply, reply_to, reply_to_result, session_after, session_reply, settle_reply, settled, stop_reply, ticket_reply, with_state}
use Rattle.cat_session_model.specs.Words.{IsCounted, MayBeCut}
use Rattle.cat_session_model.specs.declared.state.SessionState.{SessionState}

-- the text isn't that of a line that lacks memory
abbrev IsSpoken : List ℕ → Type 0
IsSpoken text = text ≡ say.no_memory → ⊥

-- the text isn't that of a settle that is cut for want of memory
abbrev IsUncut : List ℕ → Type 0
IsUncut text = (n : ℕ) → text ≡ say.cut_by_memory n → ⊥

-- it has another first byte
begins : (text : List ℕ) (b : ℕ) → first text ≡ b → (b ≡ 110 → ⊥) → IsSpoken text
unfolding first
begins text b f other e = other_first text say.no_memory b 110 f refl other e

cut_first : (n : ℕ) → first (say.cut_by_memory n) ≡ 99
unfolding first
cut_first n = refl

uncut : (text : List ℕ) (b : ℕ) → first text ≡ b → (b ≡ 99 → ⊥) → IsUncut text
uncut text b f other n e = other_first text (say.cut_by_memory n) b 99 f (cut_first n) other e

-- it is neither
abbrev IsSaid : List ℕ → Type 0
IsSaid text = IsSpoken text × IsUncut text

says : (text : List ℕ) (b : ℕ) → first text ≡ b → (b ≡ 110 → ⊥) → (b ≡ 99 → ⊥) → IsSaid text
says text b f other another = (begins text b f other, uncut text b f another)

third : List ℕ → ℕ
third [] = 0
third (a ∷ []) = 0
third (a ∷ b ∷ []) = 0
third (a ∷ b ∷ c ∷ bs) = c

nothing_spoken : IsSpoken say.nothing
unfolding third
nothing_spoken e = let f : 110 ≡ 32 = ap third e in omega (arith, f)

nothing_said : IsSaid say.nothing
unfolding first
nothing_said = (nothing_spoken, uncut say.nothing 110 refl (λ h. omega (arith, h)))

refused_said : (fault : Fault) → IsSaid (say.refused fault)
unfolding first
refused_said (OldSerial last) = says (say.refused (OldSerial last)) 114 refl (λ h. omega (arith, h)) (λ h. omega (arith, h))
refused_said NotFound = says (say.refused NotFound) 114 refl (λ h. omega (arith, h)) (λ h. omega (arith, h))
refused_said (TooLarge sum) = says (say.refused (TooLarge sum)) 114 refl (λ h. omega (arith, h)) (λ h. omega (arith, h))
refused_said (Spent counter) = says (say.refused (Spent counter)) 114 refl (λ h. omega (arith, h)) (λ h. omega (arith, h))

or_refused_said : (o : Option Fault) (reply : List ℕ) → IsSaid reply → IsSaid (or_refused o reply)
or_refused_said None reply h = h
or_refused_said (Some fault) reply h = refused_said fault

changed_said : IsSaid say.changed
unfolding first
changed_said = says say.changed 111 refl (λ h. omega (arith, h)) (λ h. omega (arith, h))

unknown_said : IsSaid say.unknown
unfolding first
unknown_said = says say.unknown 114 refl (λ h. omega (arith, h)) (λ h. omega (arith, h))

acted_said : (x : Acted) → IsSaid (say.acted x)
unfolding first
acted_said Now = changed_said
acted_said Again = says (say.acted Again) 111 refl (λ h. omega (arith, h)) (λ h. omega (arith, h))

late_said : (o : Option ℕ) → IsSaid (say.late o)
unfolding first
late_said None = says (say.late None) 108 refl (λ h. omega (arith, h)) (λ h. omega (arith, h))
late_said (Some n) = says (say.late (Some n)) 108 refl (λ h. omega (arith, h)) (λ h. omega (arith, h))

finished_said : (x : Finished) → IsSaid (say.finished x)
unfolding first
finished_said Good = says (say.finished Good) 111 refl (λ h. omega (arith, h)) (λ h. omega (arith, h))
finished_said Bad = says (say.finished Bad) 111 refl (λ h. omega (arith, h)) (λ h. omega (arith, h))
finished_said (FinishedLate token) = late_said token

placed_said : (x : Placed) → IsSaid (say.placed x)
placed_said Counted = changed_said
placed_said (PlacedLate ticket) = late_said ticket

order_said : (o : Option Order) → IsSaid (order_reply o)
unfolding first
order_said None = nothing_said
order_said (Some x) = says (say.ordered x.token x.reference) 111 refl (λ h. omega (arith, h)) (λ h. omega (arith, h))

ticket_said : (o : Option StitchOrder) → IsSaid (ticket_reply o)
unfolding first
ticket_said None = nothing_said
ticket_said (Some x) = says (say.ticketed x.ticket x.reference) 116 refl (λ h. omega (arith, h)) (λ h. omega (arith, h))

-- the first byte of what a settle that was stopped is answered
stop_first : (p : Progress) (x : Stop) → first (stop_reply p (Some x)) ≡ 99
unfolding first
stop_first p (Refused (OldSerial last)) = refl
stop_first p (Refused NotFound) = refl
stop_first p (Refused (TooLarge sum)) = refl
stop_first p (Refused (Spent counter)) = refl
stop_first p Limit = refl

settled_first : (x : Counts) → first (say.settled x) ≡ 115
unfolding first
settled_first x = refl

stop_spoken : (p : Progress) (o : Option Stop) → IsSpoken (stop_reply p o)
stop_spoken p None = begins (say.settled (model.counts p)) 115 (settled_first (model.counts p)) (λ h. omega (arith, h))
stop_spoken p (Some x) = begins (stop_reply p (Some x)) 99 (stop_first p x) (λ h. omega (arith, h))

cut_spoken : (n : ℕ) → IsSpoken (say.cut_by_memory n)
cut_spoken n = begins (say.cut_by_memory n) 99 (cut_first n) (λ h. omega (arith, h))

settle_spoken : (w : Word) (p : Progress) → IsSpoken (settle_reply w p)
settle_spoken plain p = stop_spoken p p.stop
settle_spoken memory p = stop_spoken p p.stop
settle_spoken (cut n) p = cut_spoken p.events
settle_spoken unkept p = stop_spoken p p.stop
settle_spoken (cut_unkept i) p = stop_spoken p p.stop

-- a settle that isn't stopped has another reply than one that is
stop_settled : (p : Progress) (x : Counts) (o : Option Stop) → stop_reply p o ≡ say.settled x → o ≡ None
stop_settled p x None e = refl
stop_settled p x (Some y) e = absurd (other_first (stop_reply p (Some y)) (say.settled x) 99 115 (stop_first p y) (settled_first x) (λ h. omega (arith, h)) e)

cut_settled : (n : ℕ) (x : Counts) → say.cut_by_memory n ≡ say.settled x → ⊥
cut_settled n x e = other_first (say.cut_by_memory n) (say.settled x) 99 115 (cut_first n) (settled_first x) (λ h. omega (arith, h)) e

-- a line that is too long
abbrev long : List ℕ
long = codes "refused long" ++ 10 ∷ []

long_settled : (x : Counts) → long ≡ say.settled x → ⊥
unfolding first
long_settled x e = other_first long (say.settled x) 114 115 refl (settled_first x) (λ h. omega (arith, h)) e

memory_settled : (x : Counts) → say.no_memory ≡ say.settled x → ⊥
unfolding first
memory_settled x e = other_first say.no_memory (say.settled x) 110 115 refl (settled_first x) (λ h. omega (arith, h)) e

long_uncut : IsUncut long
unfolding first
long_uncut = uncut long 114 refl (λ h. omega (arith, h))

memory_uncut : IsUncut say.no_memory
unfolding first
memory_uncut = uncut say.no_memory 110 refl (λ h. omega (arith, h))

-- what is said of a line that says nothing
tree_uncut : (fault : TreeFault) → IsUncut (faults.no_tree fault)
unfolding first
tree_uncut Syntax = uncut (faults.no_tree Syntax) 114 refl (λ h. omega (arith, h))
tree_uncut Fraction = uncut (faults.no_tree Fraction) 114 refl (λ h. omega (arith, h))
tree_uncut tree.NoMemory = memory_uncut

input_uncut : (fault : InputFault) → IsUncut (faults.no_mutation fault)
unfolding first
input_uncut (input.Json fault) = tree_uncut fault
input_uncut (input.Shape place) = uncut (faults.no_mutation (input.Shape place)) 114 refl (λ h. omega (arith, h))
input_uncut input.TooMany = uncut (faults.no_mutation input.TooMany) 114 refl (λ h. omega (arith, h))
input_uncut (input.Deep i) = uncut (faults.no_mutation (input.Deep i)) 114 refl (λ h. omega (arith, h))
input_uncut (input.NoRef i fault) = uncut (faults.no_mutation (input.NoRef i fault)) 114 refl (λ h. omega (arith, h))
input_uncut (input.Duplicate i) = uncut (faults.no_mutation (input.Duplicate i)) 114 refl (λ h. omega (arith, h))
input_uncut input.NoMemory = memory_uncut

query_uncut : (fault : QueryFault) → IsUncut (faults.no_query fault)
unfolding first
query_uncut (query.Filter i j) = uncut (faults.no_query (query.Filter i j)) 114 refl (λ h. omega (arith, h))
query_uncut query.BadOrder = uncut (faults.no_query query.BadOrder) 114 refl (λ h. omega (arith, h))
query_uncut query.BadLimit = uncut (faults.no_query query.BadLimit) 114 refl (λ h. omega (arith, h))
query_uncut query.BadCursor = uncut (faults.no_query query.BadCursor) 114 refl (λ h. omega (arith, h))
query_uncut query.NoMemory = memory_uncut

fault_uncut : (fault : LineFault) → IsUncut (line_fault fault)
unfolding first
fault_uncut LongLine = uncut faults.long_line 114 refl (λ h. omega (arith, h))
fault_uncut BadWord = uncut faults.bad_word 114 refl (λ h. omega (arith, h))
fault_uncut BadArguments = uncut faults.bad_arguments 114 refl (λ h. omega (arith, h))
fault_uncut (Input fault) = input_uncut fault
fault_uncut (Reference place) = uncut (faults.no_reference place) 114 refl (λ h. omega (arith, h))
fault_uncut (Query fault) = query_uncut fault
fault_uncut NoMemory = memory_uncut

module _ (rules : Rules) (s : Settings) where
  finish_said : (o : Option Order) (m : SessionState) → IsSaid (finish_reply rules s o m)
  finish_said None m = unknown_said
  finish_said (Some x) m = or_refused_said (refusal rules s (Finish x m.now) m.state) (say.finished (model.finished rules x m.state)) (finished_said (model.finished rules x m.state))

  place_said : (o : Option StitchOrder) (m : SessionState) → IsSaid (place_reply rules s o m)
  place_said None m = unknown_said
  place_said (Some x) m = or_refused_said (refusal rules s (PutStitch x) m.state) (say.placed (model.placed rules x m.state)) (placed_said (model.placed rules x m.state))

  -- ---- commands that are no settles

  mutate_said : (w : Word) (p : Text) (x : Mutation) (m : SessionState) → IsSaid (reply_to rules s w (asks.Mutate p x) m)
  mutate_said w p x m = or_refused_said (refusal rules s (Mutate p (given p x)) m.state) (say.acted (model.acted p (given p x) m.state)) (acted_said (model.acted p (given p x) m.state))

  put_said : (w : Word) (name text : Text) (m : SessionState) → IsSaid (reply_to rules s w (asks.ShelfPut name text) m)
  put_said w name text m = or_refused_said (refusal rules s (ShelfPut name text) m.state) say.changed changed_said

  drop_said : (w : Word) (name : Text) (m : SessionState) → IsSaid (reply_to rules s w (asks.ShelfDrop name) m)
  drop_said w name m = or_refused_said (refusal rules s (ShelfDrop name) m.state) say.changed changed_said

  refresh_said : (w : Word) (r : Text) (m : SessionState) → IsSaid (reply_to rules s w (asks.Refresh r) m)
  refresh_said w r m = or_refused_said (refusal rules s (Refresh r) m.state) say.changed changed_said

  forget_said : (w : Word) (r : Text) (m : SessionState) → IsSaid (reply_to rules s w (asks.Forget r) m)
  forget_said w r m = or_refused_said (refusal rules s (Forget r) m.state) say.changed changed_said

  take_said : (w : Word) (m : SessionState) → IsSaid (reply_to rules s w asks.Take m)
  take_said w m = or_refused_said (refusal rules s (Take m.now) m.state) (order_reply (model.taken rules s m.now m.state)) (order_said (model.taken rules s m.now m.state))

  -- what is read and is answered `no memory` changes nothing: it can only be a question
  silent : (w : Word) (line : Line) (m : SessionState) → reply_to rules s w line m ≡ say.no_memory → after_reading rules s w line m ≡ m
  silent w (asks.Mutate p x) m e = absurd ((mutate_said w p x m).0 e)
  silent w (asks.ShelfPut name text) m e = absurd ((put_said w name text m).0 e)
  silent w (asks.ShelfDrop name) m e = absurd ((drop_said w name m).0 e)
  silent w (asks.Refresh r) m e = absurd ((refresh_said w r m).0 e)
  silent w (asks.Forget r) m e = absurd ((forget_said w r m).0 e)
  silent w (asks.Clock now) m e = absurd (changed_said.0 e)
  silent w asks.Take m e = absurd ((take_said w m).0 e)
  silent w (asks.Finish token) m e = absurd ((finish_said (order_numbered token m.orders) m).0 e)
  silent w (asks.Stitch after) m e = absurd ((ticket_said (model.next_stitch rules m.state after)).0 e)
  silent w (asks.Place ticket) m e = absurd ((place_said (find nat_cmp ticket m.stitches) m).0 e)
  silent w asks.Settle m e = absurd (settle_spoken w (settled rules s w m) e)
  silent w (asks.Ask ask) m e = refl

  -- what is read and is answered as a settle that is cut for want of memory is a settle, or else a question
  cuts : (w : Word) (line : Line) (m : SessionState) (n : ℕ) → reply_to rules s w line m ≡ say.cut_by_memory n → MayBeCut (Ok line)
  cuts w (asks.Mutate p x) m n e = (mutate_said w p x m).1 n e
  cuts w (asks.ShelfPut name text) m n e = (put_said w name text m).1 n e
  cuts w (asks.ShelfDrop name) m n e = (drop_said w name m).1 n e
  cuts w (asks.Refresh r) m n e = (refresh_said w r m).1 n e
  cuts w (asks.Forget r) m n e = (forget_said w r m).1 n e
  cuts w (asks.Clock now) m n e = changed_said.1 n e
  cuts w asks.Take m n e = (take_said w m).1 n e
  cuts w (asks.Finish token) m n e = (finish_said (order_numbered token m.orders) m).1 n e
  cuts w (asks.Stitch after) m n e = (ticket_said (model.next_stitch rules m.state after)).1 n e
  cuts w (asks.Place ticket) m n e = (place_said (find nat_cmp ticket m.stitches) m).1 n e
  cuts w asks.Settle m n e = tt
  cuts w (asks.Ask ask) m n e = tt

  cuts_result : (w : Word) (o : Result Line LineFault) (m : SessionState) (n : ℕ) → reply_to_result rules s w o m ≡ say.cut_by_memory n → MayBeCut o
  cuts_result w (Ok line) m n e = cuts w line m n e
  cuts_result w (Err fault) m n e = fault_uncut fault n e

  silent_result : (w : Word) (o : Result Line LineFault) (m : SessionState) → reply_to_result rules s w o m ≡ say.no_memory → after_result rules s w o m ≡ m
  silent_result w (Ok line) m e = silent w line m e
  silent_result w (Err fault) m e = refl

  -- ---- two words

  settle_told : (m : SessionState) (w v : Word) → IsCounted w → IsCounted v → settle_reply w (settled rules s w m) ≡ settle_reply v (settled rules s v m)
      → (settled rules s w m).state ≡ (settled rules s v m).state
  settle_told m plain plain a b e = refl
  settle_told m plain memory a b e = refl
  settle_told m plain (cut n) a b e = absurd (whole_told rules s m.now m.state _ e)
  settle_told m memory plain a b e = refl
  settle_told m memory memory a b e = refl
  settle_told m memory (cut n) a b e = absurd (whole_told rules s m.now m.state _ e)
  settle_told m (cut k) plain a b e = absurd (whole_told rules s m.now m.state _ (sym e))
  settle_told m (cut k) memory a b e = absurd (whole_told rules s m.now m.state _ (sym e))
  settle_told m (cut k) (cut n) a b e = cut_told rules s m.now m.state k n a b e
  settle_told m unkept plain a b e = refl
  settle_told m (cut_unkept i) plain a b e = refl
  settle_told m unkept memory a b e = refl
  settle_told m (cut_unkept i) memory a b e = refl
  settle_told m unkept (cut n) a b e = absurd (whole_told rules s m.now m.state _ e)
  settle_told m (cut_unkept i) (cut n) a b e = absurd (whole_told rules s m.now m.state _ e)
  settle_told m plain unkept a b e = refl
  settle_told m plain (cut_unkept i) a b e = refl
  settle_told m memory unkept a b e = refl
  settle_told m memory (cut_unkept i) a b e = refl
  settle_told m (cut k) unkept a b e = absurd (whole_told rules s m.now m.state _ (sym e))
  settle_told m (cut k) (cut_unkept i) a b e = absurd (whole_told rules s m.now m.state _ (sym e))
  settle_told m unkept unkept a b e = refl
  settle_told m unkept (cut_unkept i) a b e = refl
  settle_told m (cut_unkept i) unkept a b e = refl
  settle_told m (cut_unkept i) (cut_unkept j) a b e = refl

  read_told : (m : SessionState) (w v : Word) (line : Line) → IsCounted w → IsCounted v → reply_to rules s w line m ≡ reply_to rules s v line m → after_reading rules s w line m ≡ after_reading rules s v line m
  read_told m w v (asks.Mutate p x) a b e = refl
  read_told m w v (asks.ShelfPut name text) a b e = refl
  read_told m w v (asks.ShelfDrop name) a b e = refl
  read_told m w v (asks.Refresh r) a b e = refl
  read_told m w v (asks.Forget r) a b e = refl
  read_told m w v (asks.Clock now) a b e = refl
  read_told m w v asks.Take a b e = refl
  read_told m w v (asks.Finish token) a b e = refl
  read_told m w v (asks.Stitch after) a b e = refl
  read_told m w v (asks.Place ticket) a b e = refl
  read_told m w v asks.Settle a b e = ap (λ n. with_state n m) (settle_told m w v a b e)
  read_told m w v (asks.Ask ask) a b e = refl

  result_told : (m : SessionState) (w v : Word) (o : Result Line LineFault) → IsCounted w → IsCounted v → reply_to_result rules s w o m ≡ reply_to_result rules s v o m → after_result rules s w o m ≡ after_result rules s v o m
  result_told m w v (Ok line) a b e = read_told m w v line a b e
  result_told m w v (Err fault) a b e = refl

  acting_told : (m : SessionState) (w v : Word) (line : List ℕ) (is_long : Bool) → IsCounted w → IsCounted v
      → (if is_long then long else session_reply rules s m w line) ≡ (if is_long then long else session_reply rules s m v line)
      → (if is_long then m else session_after rules s m w line) ≡ (if is_long then m else session_after rules s m v line)
  unfolding session_reply session_after
  acting_told m w v line true a b e = refl
  acting_told m w v line false a b e = result_told m w v (line_of line) a b e

  memory_told : (m : SessionState) (w : Word) (line : List ℕ) (is_long : Bool)
      → (if is_long then long else session_reply rules s m w line) ≡ say.no_memory → (if is_long then m else session_after rules s m w line) ≡ m
  unfolding session_reply session_after
  memory_told m w line true e = refl
  memory_told m w line false e = silent_result w (line_of line) m e

  -- two words with one reply lead to one state
  pub told : (m : SessionState) (w v : Word) (line : List ℕ) → IsCounted w → IsCounted v
      → line_reply (session_reply rules s) m w line ≡ line_reply (session_reply rules s) m v line
      → line_after (session_after rules s) m w line ≡ line_after (session_after rules s) m v line
  unfolding line_reply line_after
  told m plain plain line a b e = refl
  told m plain memory line a b e = memory_told m plain line (nat_lt longest_line (length line)) e
  told m plain (cut n) line a b e = acting_told m plain (cut n) line (nat_lt longest_line (length line)) a b e
  told m memory plain line a b e = sym (memory_told m plain line (nat_lt longest_line (length line)) (sym e))
  told m memory memory line a b e = refl
  told m memory (cut n) line a b e = sym (memory_told m (cut n) line (nat_lt longest_line (length line)) (sym e))
  told m (cut k) plain line a b e = acting_told m (cut k) plain line (nat_lt longest_line (length line)) a b e
  told m (cut k) memory line a b e = memory_told m (cut k) line (nat_lt longest_line (length line)) e
  told m (cut k) (cut n) line a b e = acting_told m (cut k) (cut n) line (nat_lt longest_line (length line)) a b e
  told m unkept plain line a b e = acting_told m unkept plain line (nat_lt longest_line (length line)) a b e
  told m (cut_unkept i) plain line a b e = acting_told m (cut_unkept i) plain line (nat_lt longest_line (length line)) a b e
  told m unkept memory line a b e = memory_told m unkept line (nat_lt longest_line (length line)) e
  told m (cut_unkept i) memory line a b e = memory_told m (cut_unkept i) line (nat_lt longest_line (length line)) e
  told m unkept (cut n) line a b e = acting_told m unkept (cut n) line (nat_lt longest_line (length line)) a b e
  told m (cut_unkept i) (cut n) line a b e = acting_told m (cut_unkept i) (cut n) line (nat_lt longest_line (length line)) a b e
  told m plain unkept line a b e = acting_told m plain unkept line (nat_lt longest_line (length line)) a b e
  told m plain (cut_unkept i) line a b e = acting_told m plain (cut_unkept i) line (nat_lt longest_line (length line)) a b e
  told m memory unkept line a b e = sym (memory_told m unkept line (nat_lt longest_line (length line)) (sym e))
  told m memory (cut_unkept i) line a b e = sym (memory_told m (cut_unkept i) line (nat_lt longest_line (length line)) (sym e))
  told m (cut k) unkept line a b e = acting_told m (cut k) unkept line (nat_lt longest_line (length line)) a b e
  told m (cut k) (cut_unkept i) line a b e = acting_told m (cut k) (cut_unkept i) line (nat_lt longest_line (length line)) a b e
  told m unkept unkept line a b e = refl
  told m unkept (cut_unkept i) line a b e = acting_told m unkept (cut_unkept i) line (nat_lt longest_line (length line)) a b e
  told m (cut_unkept i) unkept line a b e = acting_told m (cut_unkept i) unkept line (nat_lt longest_line (length line)) a b e
  told m (cut_unkept i) (cut_unkept j) line a b e = acting_told m (cut_unkept i) (cut_unkept j) line (nat_lt longest_line (length line)) a b e

  -- a line that is answered so changes nothing
  pub unspoken : (m : SessionState) (w : Word) (line : List ℕ) → line_reply (session_reply rules s) m w line ≡ say.no_memory → line_after (session_after rules s) m w line ≡ m
  unfolding line_reply line_after
  unspoken m plain line e = memory_told m plain line (nat_lt longest_line (length line)) e
  unspoken m memory line e = refl
  unspoken m (cut n) line e = memory_told m (cut n) line (nat_lt longest_line (length line)) e
  unspoken m unkept line e = memory_told m unkept line (nat_lt longest_line (length line)) e
  unspoken m (cut_unkept i) line e = memory_told m (cut_unkept i) line (nat_lt longest_line (length line)) e

  acting_cuts : (m : SessionState) (w : Word) (line : List ℕ) (is_long : Bool) (n : ℕ)
      → (if is_long then long else session_reply rules s m w line) ≡ say.cut_by_memory n → MayBeCut (line_of line)
  unfolding session_reply
  acting_cuts m w line true n e = absurd (long_uncut n e)
  acting_cuts m w line false n e = cuts_result w (line_of line) m n e

  -- only a settle is answered as one that is cut for want of memory, questions left aside
  pub only_settles : (m : SessionState) (w : Word) (line : List ℕ) (n : ℕ) → line_reply (session_reply rules s) m w line ≡ say.cut_by_memory n → MayBeCut (line_of line)
  unfolding line_reply
  only_settles m plain line n e = acting_cuts m plain line (nat_lt longest_line (length line)) n e
  only_settles m memory line n e = absurd (memory_uncut n e)
  only_settles m (cut k) line n e = acting_cuts m (cut k) line (nat_lt longest_line (length line)) n e
  only_settles m unkept line n e = acting_cuts m unkept line (nat_lt longest_line (length line)) n e
  only_settles m (cut_unkept i) line n e = acting_cuts m (cut_unkept i) line (nat_lt longest_line (length line)) n e

  -- ---- a settle that is answered `settled`

  settle_quiet : (m : SessionState) (w : Word) (counts : Counts) → 1 ≤ s.interval → Sound rules m.state → settle_reply w (settled rules s w m) ≡ say.settled counts → Quiet (settled rules s w m).state m.now
  settle_quiet m plain counts later sound e = unstopped_quiet rules s None m.now later m.state sound (stop_settled (settled rules s plain m) counts (settled rules s plain m).stop e)
  settle_quiet m memory counts later sound e = unstopped_quiet rules s None m.now later m.state sound (stop_settled (settled rules s memory m) counts (settled rules s memory m).stop e)
  settle_quiet m (cut n) counts later sound e = absurd (cut_settled (settled rules s (cut n) m).events counts e)
  settle_quiet m unkept counts later sound e = unstopped_quiet rules s None m.now later m.state sound (stop_settled (settled rules s unkept m) counts (settled rules s unkept m).stop e)
  settle_quiet m (cut_unkept i) counts later sound e = unstopped_quiet rules s None m.now later m.state sound (stop_settled (settled rules s (cut_unkept i) m) counts (settled rules s (cut_unkept i) m).stop e)

  acting_quiet : (m : SessionState) (w : Word) (line : List ℕ) (counts : Counts) (is_long : Bool) → 1 ≤ s.interval → Sound rules m.state → line_of line ≡ Ok asks.Settle
      → (if is_long then long else session_reply rules s m w line) ≡ say.settled counts → IsAtRest (if is_long then m else session_after rules s m w line)
  unfolding session_reply session_after
  acting_quiet m w line counts true later sound reads e = absurd (long_settled counts e)
  acting_quiet m w line counts false later sound reads e =
      subst (λ o. IsAtRest (after_result rules s w o m)) (sym reads) (settle_quiet m w counts later sound (sym (ap (λ o. reply_to_result rules s w o m) reads) ∙ e))

  pub settled_quiet : (m : SessionState) (w : Word) (line : List ℕ) (counts : Counts) → 1 ≤ s.interval → Sound rules m.state → line_of line ≡ Ok asks.Settle
      → line_reply (session_reply rules s) m w line ≡ say.settled counts → IsAtRest (line_after (session_after rules s) m w line)
  unfolding line_reply line_after
  settled_quiet m plain line counts later sound reads e = acting_quiet m plain line counts (nat_lt longest_line (length line)) later sound reads e
  settled_quiet m memory line counts later sound reads e = absurd (memory_settled counts e)
  settled_quiet m (cut n) line counts later sound reads e = acting_quiet m (cut n) line counts (nat_lt longest_line (length line)) later sound reads e
  settled_quiet m unkept line counts later sound reads e = acting_quiet m unkept line counts (nat_lt longest_line (length line)) later sound reads e
  settled_quiet m (cut_unkept i) line counts later sound reads e = acting_quiet m (cut_unkept i) line counts (nat_lt longest_line (length line)) later sound reads e
