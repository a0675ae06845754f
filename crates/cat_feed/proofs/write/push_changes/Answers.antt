use Rattle.std.proofs.Common.{◌++◌, ap, ◌∙◌, false, map}
use Rattle.cat_query.proofs.Texts.{after_ok, three_texts, kept_on, kept_more, rest_text}
use Rattle.cat_feed.specs.Written.{change_data}
use Rattle.cat_feed.proofs.Texts.{changes_text}
use Rattle.cat_feed.proofs.write.push_changes.Goals as goal

pub returns-clause-ok : goal.returns-clause-ok
returns-clause-ok c =
    after_ok c.push_places.result _ _
    (λ e. three_texts c.args.out.now.items c.extend_from_slice.new.self.items c.push_list.new.out.items c.push_places.new.out.items _ _ _ c.in_ok-extend_from_slice.ensures.items
    (c.in_ok-push_list.ensures.ok ∙ ap (λ l. c.extend_from_slice.new.self.items ++ rest_text false (map change_data l)) c.as_slice.ensures) e
    ∙ ap (λ l. c.args.out.now.items ++ l) (changes_text c.args.changes.now))
    c.push_places.ensures.ok

pub returns-clause-kept : goal.returns-clause-kept
returns-clause-kept c =
    kept_on c.args.out.now.items c.extend_from_slice.new.self.items c.push_places.new.out.items (kept_more _ _ _ c.in_ok-extend_from_slice.ensures.items)
    (kept_on c.extend_from_slice.new.self.items c.push_list.new.out.items c.push_places.new.out.items c.push_list.ensures.kept c.push_places.ensures.kept)
