-- Every command that a line is is ready.
use Rattle.std.proofs.Common.{◌≡◌, ℕ, ◌^◌, Bool, true, false, List, [], Option, None, Some, Result, Ok, Err, IfOk, if◌then◌else◌, nat_lt, length, refl, subst}
use Rattle.std.proofs.lemmas.Bool.{ltb-true}
use Rattle.std.specs.Option.{ok_or}
use Rattle.cat_types.specs.Names.{is_name, is_shelf_name}
use Rattle.cat_collections.specs.Table.{Text}
use Rattle.cat_types.specs.declared.input.Mutation.{Mutation}
use Rattle.cat_inputs.specs.Inputs.{mutation_of}
use Rattle.cat_inputs.specs.declared.fault.InputFault.{InputFault}
use Rattle.cat_inputs.specs.declared.form.Form.{Form}
use Rattle.cat_inputs.specs.declared.form.Form.TheVariants as form
use Rattle.cat_query.specs.declared.ask.Ask.TheVariants as ask
use Rattle.cat_session_lines.specs.Arguments.{parted, two, utf8_in, number, as_moment}
use Rattle.cat_session_lines.specs.Keywords.{keyword_named}
use Rattle.cat_session_lines.specs.Lines.{on, query, question, longest_line, reference, number_in, mutated, mutate_by, put_by, drop_by, alone, with_text, with_utf8, with_rest, by_keyword, line_of}
use Rattle.cat_session_lines.specs.Ready.{IsReady}
use Rattle.cat_session_lines.specs.declared.fault.LineFault.{LineFault}
use Rattle.cat_session_lines.specs.declared.fault.LineFault.TheVariants.{BadArguments, LongLine}
use Rattle.cat_session_lines.specs.declared.keyword.Keyword.{Keyword}
use Rattle.cat_session_lines.specs.declared.keyword.Keyword.TheVariants as keyword
use Rattle.cat_session_lines.specs.declared.line.Line.{Line}
use Rattle.cat_session_lines.specs.declared.line.Line.TheVariants as line
use Rattle.cat_form_laws.specs.Ready.{HasProperTrees}
use Rattle.cat_form_laws.proofs.Bodies.{IsReadMutation, mutation_is_read}

-- the keys of the maps in the trees of a mutation rise
abbrev pub HasProperLine : Line → Type 0
HasProperLine (line.Mutate p m) = HasProperTrees m
HasProperLine _ = Unit {0}

pub record IsReadLine (l : Line) : Type 0 where
  pub ready : IsReady l
  pub proper : HasProperLine l

-- ---- the commands with an argument

on_any : {A : Type 0} (command : A → Line) (r : Result A LineFault) → ((a : A) → IsReadLine (command a)) → IfOk (on command r) IsReadLine
on_any command (Ok a) h = h a
on_any command (Err fault) h = tt

mutated_ready : (p : Text) (r : Result Mutation InputFault) → is_name p ≡ true → IfOk r IsReadMutation → IfOk (mutated p r) IsReadLine
mutated_ready p (Ok m) e h = record { ready = (e, h.formed); proper = h.proper }
mutated_ready p (Err fault) e h = tt

mutate_ready : (f : Form) (o : Option (Text × Text)) → IfOk (mutate_by f o) IsReadLine
mutate_ready f None = tt
mutate_ready f (Some (p, body)) = pick (is_name p) refl
  where
    pick : (b : Bool) → is_name p ≡ b → IfOk (if b then mutated p (mutation_of f body) else Err BadArguments) IsReadLine
    pick true e = mutated_ready p (mutation_of f body) e (mutation_is_read f body)
    pick false e = tt

put_ready : (o : Option (Text × Text)) → IfOk (put_by o) IsReadLine
put_ready None = tt
put_ready (Some (name, text)) = pick (is_shelf_name name) refl
  where
    pick : (b : Bool) → is_shelf_name name ≡ b → IfOk (if b then Ok (line.ShelfPut name text) else Err BadArguments) IsReadLine
    pick true e = record { ready = e; proper = tt }
    pick false e = tt

drop_ready : (name : Text) → IfOk (drop_by name) IsReadLine
drop_ready name = pick (is_shelf_name name) refl
  where
    pick : (b : Bool) → is_shelf_name name ≡ b → IfOk (if b then Ok (line.ShelfDrop name) else Err BadArguments) IsReadLine
    pick true e = record { ready = e; proper = tt }
    pick false e = tt

as_moment_ready : (o : Option ℕ) → IfOk (on line.Clock (ok_or (as_moment o) BadArguments)) IsReadLine
as_moment_ready None = tt
as_moment_ready (Some n) = pick (nat_lt n (2 ^ 53)) refl
  where
    pick : (b : Bool) → nat_lt n (2 ^ 53) ≡ b → IfOk (on line.Clock (ok_or (if b then Some n else None) BadArguments)) IsReadLine
    pick true e = record { ready = ltb-true n (2 ^ 53) e; proper = tt }
    pick false e = tt

-- ---- the keywords

alone_ready : (w : Keyword) → IfOk (alone w) IsReadLine
alone_ready keyword.Full = tt
alone_ready keyword.Delta = tt
alone_ready keyword.Put = tt
alone_ready keyword.Drop = tt
alone_ready keyword.Refresh = tt
alone_ready keyword.Forget = tt
alone_ready keyword.Clock = tt
alone_ready keyword.Take = record { ready = tt; proper = tt }
alone_ready keyword.Finish = tt
alone_ready keyword.Stitch = tt
alone_ready keyword.Place = tt
alone_ready keyword.Settle = record { ready = tt; proper = tt }
alone_ready keyword.Quiet = record { ready = tt; proper = tt }
alone_ready keyword.State = record { ready = tt; proper = tt }
alone_ready keyword.Get = tt
alone_ready keyword.List = on_any (λ q. line.Ask (ask.List q)) (query []) (λ q. record { ready = tt; proper = tt })
alone_ready keyword.Page = on_any (λ q. line.Ask (ask.Page q)) (query []) (λ q. record { ready = tt; proper = tt })
alone_ready keyword.Facets = tt
alone_ready keyword.Many = tt
alone_ready keyword.Conflicts = record { ready = tt; proper = tt }
alone_ready keyword.Failed = record { ready = tt; proper = tt }
alone_ready keyword.Orphans = record { ready = tt; proper = tt }

text_ready : (w : Keyword) (text : Text) → IfOk (with_text w text) IsReadLine
text_ready keyword.Full text = mutate_ready form.Full (two text)
text_ready keyword.Delta text = mutate_ready form.Delta (two text)
text_ready keyword.Put text = put_ready (two text)
text_ready keyword.Drop text = drop_ready text
text_ready keyword.Refresh text = on_any line.Refresh (reference text) (λ r. record { ready = tt; proper = tt })
text_ready keyword.Forget text = on_any line.Forget (reference text) (λ r. record { ready = tt; proper = tt })
text_ready keyword.Clock text = as_moment_ready (number text)
text_ready keyword.Take text = tt
text_ready keyword.Finish text = on_any line.Finish (number_in text) (λ n. record { ready = tt; proper = tt })
text_ready keyword.Stitch text = on_any line.Stitch (number_in text) (λ n. record { ready = tt; proper = tt })
text_ready keyword.Place text = on_any line.Place (number_in text) (λ n. record { ready = tt; proper = tt })
text_ready keyword.Settle text = tt
text_ready keyword.Quiet text = tt
text_ready keyword.State text = tt
text_ready keyword.Get text = on_any line.Ask (question keyword.Get text) (λ a. record { ready = tt; proper = tt })
text_ready keyword.List text = on_any line.Ask (question keyword.List text) (λ a. record { ready = tt; proper = tt })
text_ready keyword.Page text = on_any line.Ask (question keyword.Page text) (λ a. record { ready = tt; proper = tt })
text_ready keyword.Facets text = on_any line.Ask (question keyword.Facets text) (λ a. record { ready = tt; proper = tt })
text_ready keyword.Many text = on_any line.Ask (question keyword.Many text) (λ a. record { ready = tt; proper = tt })
text_ready keyword.Conflicts text = tt
text_ready keyword.Failed text = tt
text_ready keyword.Orphans text = tt

utf8_ready : (w : Keyword) (o : Option Text) → IfOk (with_utf8 w o) IsReadLine
utf8_ready w None = tt
utf8_ready w (Some text) = text_ready w text

rest_ready : (w : Keyword) (rest : Option (List ℕ)) → IfOk (with_rest w rest) IsReadLine
rest_ready w None = alone_ready w
rest_ready w (Some rest) = utf8_ready w (utf8_in rest)

word_ready : (w : Option Keyword) (rest : Option (List ℕ)) → IfOk (by_keyword w rest) IsReadLine
word_ready None rest = tt
word_ready (Some w) rest = rest_ready w rest

either_ready : (b : Bool) (r : Result Line LineFault) → IfOk r IsReadLine → IfOk (if b then Err LongLine else r) IsReadLine
either_ready true r h = tt
either_ready false r h = h

line_is_read : (bytes : List ℕ) → IfOk (line_of bytes) IsReadLine
unfolding line_of
line_is_read bytes = either_ready (nat_lt longest_line (length bytes)) (by_keyword (keyword_named (parted bytes).0) (parted bytes).1) (word_ready (keyword_named (parted bytes).0) (parted bytes).1)

pub line_ready : (bytes : List ℕ) (l : Line) → line_of bytes ≡ Ok l → IsReadLine l
line_ready bytes l e = subst (λ r. IfOk r IsReadLine) e (line_is_read bytes)
