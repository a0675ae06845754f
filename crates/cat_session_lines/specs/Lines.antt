-- What a session line says, or why it says nothing.
use Rattle.std.specs.Prelude.{ℕ, List, Option, None, Some, Result, Ok, Err, nat_lt, [], length, if◌then◌else◌, codes}
use Rattle.std.specs.Option.{ok_or}
use Rattle.cat_types.specs.Names.{is_name, is_shelf_name}
use Rattle.cat_types.specs.Reference.{parsed}
use Rattle.cat_types.specs.declared.fault.RefFault.{RefFault}
use Rattle.cat_collections.specs.Table.{Text}
use Rattle.cat_types.specs.declared.input.Mutation.{Mutation}
use Rattle.cat_inputs.specs.Inputs.{mutation_of}
use Rattle.cat_inputs.specs.declared.fault.InputFault.{InputFault}
use Rattle.cat_inputs.specs.declared.form.Form.{Form}
use Rattle.cat_inputs.specs.declared.form.Form.TheVariants as form
use Rattle.cat_query.specs.declared.ask.Ask.{Ask}
use Rattle.cat_query.specs.declared.ask.Ask.TheVariants as ask
use Rattle.cat_query.specs.declared.fault.QueryFault.{QueryFault}
use Rattle.cat_pages.specs.declared.query.Query.{Query}
use Rattle.cat_session_lines.specs.declared.fault.LineFault.{LineFault}
use Rattle.cat_session_lines.specs.declared.fault.LineFault.TheVariants.{LongLine, BadWord, BadArguments}
use Rattle.cat_session_lines.specs.declared.keyword.Keyword.{Keyword}
use Rattle.cat_session_lines.specs.declared.keyword.Keyword.TheVariants as keyword
use Rattle.cat_session_lines.specs.declared.line.Line.{Line}
use Rattle.cat_session_lines.specs.declared.line.Line.TheVariants as line
use Rattle.cat_session_lines.specs.Arguments.{parted, two, utf8_in, number, moment}
use Rattle.cat_session_lines.specs.Faults.{input_fault, query_fault}
use Rattle.cat_session_lines.specs.Keywords.{keyword_named}
use Rattle.cat_session_lines.specs.Queries.{query_of}
use Rattle.cat_session_lines.specs.References.{references_of}

-- ---- arguments

-- what is said of an argument, unless it is malformed
abbrev pub on : {A B : Type 0} → (A → B) → Result A LineFault → Result B LineFault
on say (Ok x) = Ok (say x)
on say (Err fault) = Err fault

-- a text that names no entity is a malformed argument
abbrev pub as_argument : Result Text RefFault → Result Text LineFault
as_argument (Ok r) = Ok r
as_argument (Err fault) = Err BadArguments

-- the reference that an argument names, with no default kind and the namespace `default`
abbrev pub reference : Text → Result Text LineFault
reference text = as_argument (parsed text None (codes "default"))

-- the number that an argument is
abbrev pub number_in : Text → Result ℕ LineFault
number_in text = ok_or (number text) BadArguments

-- the moment that an argument is
abbrev pub moment_in : Text → Result ℕ LineFault
moment_in text = ok_or (moment text) BadArguments

-- the refusal of a query is that of its line
abbrev pub as_query : Result Query QueryFault → Result Query LineFault
as_query (Ok q) = Ok q
as_query (Err fault) = Err (query_fault fault)

-- the query that an argument is
abbrev pub query : Text → Result Query LineFault
query text = as_query (query_of text)

-- ---- commands

-- a mutation of this provider, or why the body is none
abbrev pub mutated : Text → Result Mutation InputFault → Result Line LineFault
mutated provider (Ok m) = Ok (line.Mutate provider m)
mutated provider (Err fault) = Err (input_fault fault)

-- a provider's name, and then the body of its mutation
abbrev pub mutate_by : Form → Option (Text × Text) → Result Line LineFault
mutate_by form None = Err BadArguments
mutate_by form (Some (provider, body)) =
    if is_name provider then mutated provider (mutation_of form body) else Err BadArguments

-- a shelf name, and then the text, which may be empty
abbrev pub put_by : Option (Text × Text) → Result Line LineFault
put_by None = Err BadArguments
put_by (Some (name, text)) = if is_shelf_name name then Ok (line.ShelfPut name text) else Err BadArguments

-- a shelf name whose text is to go
abbrev pub drop_by : Text → Result Line LineFault
drop_by name = if is_shelf_name name then Ok (line.ShelfDrop name) else Err BadArguments

-- what a keyword that stands alone says; a list and a page have the query of the empty text
abbrev pub alone : Keyword → Result Line LineFault
alone keyword.Take = Ok line.Take
alone keyword.Settle = Ok line.Settle
alone keyword.Quiet = Ok (line.Ask ask.Quiet)
alone keyword.State = Ok (line.Ask ask.State)
alone keyword.List = on (λ q. line.Ask (ask.List q)) (query [])
alone keyword.Page = on (λ q. line.Ask (ask.Page q)) (query [])
alone keyword.Conflicts = Ok (line.Ask ask.Conflicts)
alone keyword.Failed = Ok (line.Ask ask.Failed)
alone keyword.Orphans = Ok (line.Ask ask.Orphans)
alone _ = Err BadArguments

-- what a keyword and the text after its space ask
abbrev pub question : Keyword → Text → Result Ask LineFault
question keyword.Get text = on ask.Get (reference text)
question keyword.List text = on ask.List (query text)
question keyword.Page text = on ask.Page (query text)
question keyword.Facets text = on ask.Facets (query text)
question keyword.Many text = on (λ rs. ask.Many rs []) (references_of text)
question _ text = Err BadArguments

-- what a keyword and the text after its space say
abbrev pub with_text : Keyword → Text → Result Line LineFault
with_text keyword.Full text = mutate_by form.Full (two text)
with_text keyword.Delta text = mutate_by form.Delta (two text)
with_text keyword.Put text = put_by (two text)
with_text keyword.Drop text = drop_by text
with_text keyword.Refresh text = on line.Refresh (reference text)
with_text keyword.Forget text = on line.Forget (reference text)
with_text keyword.Clock text = on line.Clock (moment_in text)
with_text keyword.Finish text = on line.Finish (number_in text)
with_text keyword.Stitch text = on line.Stitch (number_in text)
with_text keyword.Place text = on line.Place (number_in text)
with_text w text = on line.Ask (question w text)

-- what a keyword says with a text, where that is UTF-8
abbrev pub with_utf8 : Keyword → Option Text → Result Line LineFault
with_utf8 w None = Err BadArguments
with_utf8 w (Some text) = with_text w text

-- what a keyword and the bytes after its space, if there is one, say
abbrev pub with_rest : Keyword → Option (List ℕ) → Result Line LineFault
with_rest w None = alone w
with_rest w (Some rest) = with_utf8 w (utf8_in rest)

-- what the rest of a line says after its keyword, where there is one
abbrev pub by_keyword : Option Keyword → Option (List ℕ) → Result Line LineFault
by_keyword None rest = Err BadWord
by_keyword (Some w) rest = with_rest w rest

-- the most bytes that a line may have
abbrev pub longest_line : ℕ
longest_line = 8388608

-- what a line says, or the first refusal that holds
unfoldable pub line_of : List ℕ → Result Line LineFault
line_of bytes =
    if nat_lt longest_line (length bytes) then Err LongLine else by_keyword (keyword_named (parted bytes).0) (parted bytes).1
