use Rattle.std.proofs.Common.{◌≡◌, true, refl, rules, is_ok, codes}
use Rattle.cat_http.proofs.ReplyLemmas.{adds-next}
use Rattle.cat_http.proofs.reply.put_type_line.Goals as goal

pub returns : goal.returns
returns c =
    let went : is_ok c.put.result ≡ true = search rules in
    adds-next _ _ _ (codes "Content-Type: ") _ _ _ _ _ _ _ _ went refl refl c.put.ensures c.put_type.ensures
