use Rattle.std.proofs.Common.{rules, Some, None, arith, sym}
use Rattle.std.proofs.lemmas.Str.Pattern.{split_parts}
use Rattle.bz_text.proofs.Said.{says_all, says_more, says_plain}
use Rattle.bz_text.proofs.text.Text.say.Goals as goal
use Rattle.bz_text.proofs.text.Text.say.Goals.{else-loop-piece-test, then-loop-piece-test+in_default}

pub loop-piece-preserved : goal.loop-piece-preserved
loop-piece-preserved g c =
    let cut = split_parts 37 c.loop-piece.rest.now (Some (c.in-Some.words, c.in-Some.behind)) c.in-Some.ensures.cases (omega arith) in (
      search rules,
      λ told. says_more g.P.Put.is_told _ _ _ c.loop-piece.piece-index c.piece-item.result _ _ _ _ _ _ _ (omega arith) (sym c.piece-item.is) cut told (c.loop-piece.invariant.1 told) c.put.ensures c.put-in-loop-piece.ensures,
    )

pub returns : goal.returns
returns g c = λ told.
    elim c.loop-piece-test.branch [
      | else-loop-piece-test w ↦ says_all _ _ _ c.loop-piece.piece-index _ _ _ _ (omega arith) (c.loop-piece.invariant.1 told) c.put-2.ensures
      | then-loop-piece-test+in_default w ↦
          let bare = split_parts 37 c.loop-piece.rest.now None (rw w.in_default.is at w.split_once.ensures.cases) (omega arith) in
          says_plain _ _ _ c.loop-piece.piece-index _ _ _ _ bare (c.loop-piece.invariant.1 told) c.put-2.ensures
    ]
