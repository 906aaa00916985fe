use Rattle.std.proofs.Common.{◌∙◌, sym, arith}
use Rattle.bz_cli_core.proofs.Pieces.{word_halts, word_more, word_stops, words_all}
use Rattle.bz_cli_core.proofs.playing.play_out.Goals as goal

pub returns-in-Err-clause-plays : goal.returns-in-Err-clause-plays
returns-in-Err-clause-plays g c =
    let l = c.loop-place in let o = c.word_out in
    word_stops c.args.play.now l.play o.new.play (g.W.Write.contents c.args.out.now) (g.W.Write.contents l.out) (g.W.Write.contents o.new.out) c.args.pending.now l.pending o.new.pending c.args.strict c.args.cmds.now l.place c.index-cmds-place.result c.loop-place-test.true c.index-cmds-place.is l.invariant.words c.in-Err.error c.in-Err.ensures.err

pub returns-in-Some-clause-plays : goal.returns-in-Some-clause-plays
returns-in-Some-clause-plays g c =
    let l = c.loop-place in let o = c.word_out in
    word_halts c.args.play.now l.play o.new.play (g.W.Write.contents c.args.out.now) (g.W.Write.contents l.out) (g.W.Write.contents o.new.out) c.args.pending.now l.pending o.new.pending c.args.strict c.args.cmds.now l.place c.index-cmds-place.result c.loop-place-test.true c.index-cmds-place.is l.invariant.words c.in-Ok.refusal c.in-Ok.ensures.ok
    c.in-Some.reply (sym c.halting.ensures ∙ c.in-Some.is)

pub loop-place-preserved : goal.loop-place-preserved
loop-place-preserved g c =
    let l = c.loop-place in let o = c.word_out in
    record {
      words = word_more c.args.play.now l.play o.new.play (g.W.Write.contents c.args.out.now) (g.W.Write.contents l.out) (g.W.Write.contents o.new.out) c.args.pending.now l.pending o.new.pending c.args.strict c.args.cmds.now l.place c.index-cmds-place.result c.loop-place-test.true c.index-cmds-place.is l.invariant.words c.in-Ok.refusal c.in-Ok.ensures.ok
          (sym c.halting.ensures ∙ c.in_default.is);
      room = let had = l.invariant.room in let more = c.in-Ok.ensures.room in omega (arith, had, more);
    }

pub returns-clause-plays : goal.returns-clause-plays
returns-clause-plays g c =
    let l = c.loop-place in
    words_all c.args.play.now l.play (g.W.Write.contents c.args.out.now) (g.W.Write.contents l.out) c.args.pending.now l.pending c.args.strict c.args.cmds.now l.place (omega (arith, c.loop-place-test.false)) l.invariant.words
