use Rattle.std.proofs.lemmas.Result.{on_ok_weaker}
use Rattle.cat_mirror.proofs.Followed.{cut_documents, if_err_weaker, told_whole}
use Rattle.cat_mirror.proofs.lines.Following.finish.Goals as goal

pub returns-clause-ok : goal.returns-clause-ok
returns-clause-ok g c =
    on_ok_weaker c.tell_documents.result (λ told start taken h. told_whole start (g.O.Sink.written c.end_line.new.sink) (g.O.Sink.written c.tell_documents.new.sink) taken c.end_line.new.self.mirror told (c.in_ok-end_line.ensures.ok start taken h)) c.tell_documents.ensures.ok

pub returns-clause-err : goal.returns-clause-err
returns-clause-err g c =
    if_err_weaker c.tell_documents.result _ _
    (λ stop broken start taken h. cut_documents stop start (g.O.Sink.written c.end_line.new.sink) (g.O.Sink.written c.tell_documents.new.sink) taken c.end_line.new.self.mirror broken (c.in_ok-end_line.ensures.ok start taken h)) c.tell_documents.ensures.err
