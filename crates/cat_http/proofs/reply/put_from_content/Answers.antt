use Rattle.std.proofs.Common.{◌≡◌, true, refl, ap, rules, is_ok}
use Rattle.cat_http.specs.Reply.{content_lines}
use Rattle.cat_http.proofs.ReplyLemmas.{adds-next}
use Rattle.cat_http.proofs.reply.put_from_content.Goals as goal

pub returns : goal.returns
returns c =
    let went : is_ok c.put_content.result ≡ true = search rules in
    adds-next _ _ _ (content_lines c.args.reply.now.status c.args.reply.now.content c.args.reply.now.body) _ _ _ _ _ _ _ _ went
    (ap (λ b. content_lines c.args.reply.now.status c.args.reply.now.content b) c.as_slice.ensures) refl c.put_content.ensures c.put_from_rules.ensures
