use Rattle.std.proofs.Common.{◌≡◌, ◌+◌, ◌∙◌, sym, subst, arith, true, length}
use Rattle.std.specs.FinMap.Entries.{is_sorted}
use Rattle.std.proofs.lemmas.Result.{MatchResult-weaker}
use Rattle.cat_collections.specs.Rows.{IsAt, IsBetween}
use Rattle.cat_collections.proofs.Searched.{at_fork, at_left, at_here, at_right, between_left, between_right, sorted_left, sorted_right}
use Rattle.cat_collections.proofs.tree.Tree+tuple2+K+X.+search.Goals as goal

pub search-requires : goal.search-requires
search-requires g t c =
    let f = at_fork c.self.view_is c.in-Fork.is c.deref-fork.ensures c.deref-entry.ensures c.requires in
    let s : is_sorted g.K.Key.order c.deref-fork.result.now.left ≡ true = sorted_left g.met.K.Key.total g.met.K.Key.apart _ _ _ f.sorted in
    λ κs w. (omega arith, (w.0, (w.1.0, (w.1.1, s))))

pub search-requires-in-Greater : goal.search-requires-in-Greater
search-requires-in-Greater g t c =
    let f = at_fork c.self.view_is c.in-Fork.is c.deref-fork.ensures c.deref-entry.ensures c.requires in
    let s : is_sorted g.K.Key.order c.deref-fork.result.now.right ≡ true = sorted_right g.met.K.Key.total g.met.K.Key.apart _ _ _ f.sorted in
    λ κs w. (omega arith, (w.0, (w.1.0, (w.1.1, s))))

pub returns-in-Less : goal.returns-in-Less
returns-in-Less g t c =
    let f = at_fork c.self.view_is c.in-Fork.is c.deref-fork.ensures c.deref-entry.ensures c.requires in
    let k = g.S.Seek.sought c.args.key.now in
    let d = c.deref-fork.result.now in
    let e = c.deref-entry.result.now in
    let o = g.met.K.Key.total in
    let s = g.met.K.Key.apart in
    let p = sym c.compare_with.ensures ∙ c.in-Less.is in
    MatchResult-weaker c.search.result c.search.ensures
    (λ i a. subst (λ l. IsAt g.K.Key.order k l i) (sym f.is) (at_left o s k d.left e d.right i a))
    (λ i b. subst (λ l. IsBetween g.K.Key.order k l i) (sym f.is) (between_left o s k d.left e d.right i f.sorted p b))

pub returns-in-Equal : goal.returns-in-Equal
returns-in-Equal g t c =
    let f = at_fork c.self.view_is c.in-Fork.is c.deref-fork.ensures c.deref-entry.ensures c.requires in
    let k = g.S.Seek.sought c.args.key.now in
    let d = c.deref-fork.result.now in
    let e = c.deref-entry.result.now in
    let p = sym c.compare_with.ensures ∙ c.in-Equal.is in
    rw c.len.ensures.items (subst (λ l. IsAt g.K.Key.order k l (length d.left)) (sym f.is) (at_here g.met.K.Key.total g.met.K.Key.apart k d.left e d.right f.sorted p))

pub returns-in-Ok : goal.returns-in-Ok
returns-in-Ok g t c =
    let f = at_fork c.self.view_is c.in-Fork.is c.deref-fork.ensures c.deref-entry.ensures c.requires in
    let k = g.S.Seek.sought c.args.key.now in
    let d = c.deref-fork.result.now in
    let e = c.deref-entry.result.now in
    let p = sym c.compare_with.ensures ∙ c.in-Greater.is in
    let i = c.in-Ok.place in
    rw c.len-before.ensures.items
    (subst (λ l. IsAt g.K.Key.order k l (length d.left + 1 + i)) (sym f.is) (at_right g.met.K.Key.total g.met.K.Key.apart k d.left e d.right i f.sorted p c.in-Ok.ensures))

pub returns-in-Err : goal.returns-in-Err
returns-in-Err g t c =
    let f = at_fork c.self.view_is c.in-Fork.is c.deref-fork.ensures c.deref-entry.ensures c.requires in
    let k = g.S.Seek.sought c.args.key.now in
    let d = c.deref-fork.result.now in
    let e = c.deref-entry.result.now in
    let p = sym c.compare_with.ensures ∙ c.in-Greater.is in
    let i = c.in-Err.place in
    rw c.len-before.ensures.items
    (subst (λ l. IsBetween g.K.Key.order k l (length d.left + 1 + i)) (sym f.is) (between_right g.met.K.Key.total g.met.K.Key.apart k d.left e d.right i f.sorted p c.in-Err.ensures))
