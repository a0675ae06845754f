use Rattle.std.proofs.Common.{arith, ◌≡◌, true, false, length}
use Rattle.std.proofs.lemmas.Grind.{common_steps}
use Rattle.cat_replies.proofs.Pieces.{room_for, room_for_end, short_for, short_step}
use Rattle.cat_replies.proofs.line.push_pieces.Goals as goal

pub returns-in_err-push_piece-clause-room : goal.returns-in_err-push_piece-clause-room
returns-in_err-push_piece-clause-room c h =
    let no : false ≡ true = c.in_err-push_piece.ensures.room (room_for c.args.end.now (length c.args.end.now) _ _ _ _ _ c.loop-piece.invariant c.loop-piece-test.true h) in
    cc

pub returns-in_err-push_piece-clause-short : goal.returns-in_err-push_piece-clause-short
returns-in_err-push_piece-clause-short c h =
    let no : false ≡ true = c.in_err-push_piece.ensures.short (short_for c.args.end.now (length c.args.end.now) _ _ _ _ _ c.loop-piece.invariant c.loop-piece-test.true h) in
    cc

pub loop-piece-preserved : goal.loop-piece-preserved
loop-piece-preserved c = record {
  all = grind (arith, common_steps);
  kept = grind (arith, common_steps);
  longer = grind (arith, common_steps);
  roomy = grind (arith, common_steps);
  short = short_step c.args.end.now (length c.args.end.now) c.args.out.now c.loop-piece.out c.push_piece.new.out _ _ _ _ c.loop-piece.invariant c.loop-piece-test.true (omega arith) c.in_ok-push_piece.ensures.most;
}

pub returns-in_err-extend_from_slice-clause-room : goal.returns-in_err-extend_from_slice-clause-room
returns-in_err-extend_from_slice-clause-room c h =
    let room = room_for_end c.args.end.now (length c.args.end.now) _ _ _ _ c.loop-piece.invariant (omega (arith, c.loop-piece-test.false)) h in
    let no : false ≡ true = c.in_err-extend_from_slice.ensures.succeeds (omega (arith, room, c.as_bytes.ensures.len)) in
    cc
