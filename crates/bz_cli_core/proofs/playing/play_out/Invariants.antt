use Rattle.std.proofs.Common.{◌<◌, take, vec_capacity}
use Rattle.bz_cli_core.proofs.Pieces.{WordsOut}
use Rattle.bz_cli_core.proofs.playing.play_out.Given as goal

-- the words so far were played to their end
abbrev pub invariant-loop-place : goal.invariant-loop-place
invariant-loop-place g l = record {
  words : WordsOut l.fn.play l.play (g.W.Write.contents l.fn.out) l.fn.pending (g.W.Write.contents l.out) l.pending l.fn.strict (take l.place l.cmds);
  room : 0 < vec_capacity l.pending.entries;
}
