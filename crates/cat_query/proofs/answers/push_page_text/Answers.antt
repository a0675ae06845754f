use Rattle.std.proofs.Common.{◌++◌, ap, ◌∙◌, false, map}
use Rattle.cat_query.specs.Answers.{shown}
use Rattle.cat_pages.specs.Seen.{pair_of}
use Rattle.cat_pages.specs.SeenPage.{items_seen}
use Rattle.cat_query.proofs.Texts.{after_ok, three_texts, page_text, kept_on, kept_more, rest_text}
use Rattle.cat_query.proofs.answers.push_page_text.Goals as goal

pub returns-clause-ok : goal.returns-clause-ok
returns-clause-ok c =
    after_ok c.push_page_end.result _ _
    (λ e. three_texts c.args.out.now.items c.extend_from_slice.new.self.items c.push_items.new.out.items c.push_page_end.new.out.items _ _ _ c.in_ok-extend_from_slice.ensures.items
    (c.in_ok-push_items.ensures.ok ∙ ap (λ l. c.extend_from_slice.new.self.items ++ rest_text false (shown c.args.fields.now (map pair_of l))) c.as_slice.ensures.value) e
    ∙ ap (λ l. c.args.out.now.items ++ l) (page_text c.args.fields.now (items_seen c.args.page.now) c.args.page.now.next c.args.page.now.total))
    c.push_page_end.ensures.ok

pub returns-clause-kept : goal.returns-clause-kept
returns-clause-kept c =
    kept_on c.args.out.now.items c.extend_from_slice.new.self.items c.push_page_end.new.out.items (kept_more _ _ _ c.in_ok-extend_from_slice.ensures.items)
    (kept_on c.extend_from_slice.new.self.items c.push_items.new.out.items c.push_page_end.new.out.items c.push_items.ensures.kept c.push_page_end.ensures.kept)
