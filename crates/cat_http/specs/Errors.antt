-- The replies that say what is wrong.
use Rattle.std.specs.Prelude.{ℕ, Bool, true, false, List, [], ◌++◌, codes, decimal}
use Rattle.cat_http.specs.declared.content.Content.TheVariants.{Json}
use Rattle.cat_http.specs.declared.message.Rule.{Rule}
use Rattle.cat_http.specs.declared.message.Rule.TheVariants.{HeadSize, Head, Host, TransferCoding, Length, Body}
use Rattle.cat_http.specs.declared.reply.HttpReply.{HttpReply}
use Rattle.cat_http.specs.declared.status.Status.{Status}
use Rattle.cat_http.specs.declared.status.Status.TheVariants.{InsufficientStorage}
use Rattle.cat_http.specs.Message.{rule_status}
use Rattle.cat_http.specs.Status.{code}

-- the words of a rule for messages
abbrev pub rule_text : Rule → List ℕ
rule_text HeadSize = codes "head_size"
rule_text Head = codes "head"
rule_text Host = codes "host"
rule_text TransferCoding = codes "transfer_coding"
rule_text Length = codes "length"
rule_text Body = codes "body"

-- the body of an error: the words of what is wrong, which need no escapes, and the status
abbrev pub error_body : Status → List ℕ → List ℕ
error_body status words =
    codes "{\"error\":{\"message\":\"" ++ (words ++ (codes "\"},\"response\":{\"statusCode\":" ++ (decimal (code status) ++ codes "}}")))

-- a refused message is answered by its rule, and ends the connection
abbrev pub refusal : Rule → HttpReply
refusal rule = record {
  status = rule_status rule;
  content = Json;
  body = error_body (rule_status rule) (rule_text rule);
  allow = [];
  close = true;
  bare = false;
  browser = false;
}

-- a message that lacks memory is answered so; whether the connection ends, and whether it is a HEAD, is the message's
abbrev pub no_memory : Bool → Bool → HttpReply
no_memory close bare = record { status = InsufficientStorage; content = Json; body = error_body InsufficientStorage (codes "memory"); allow = []; close = close; bare = bare; browser = false }
