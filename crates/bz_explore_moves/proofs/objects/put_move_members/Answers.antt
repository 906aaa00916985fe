use Rattle.std.proofs.Common.{◌∙◌}
use Rattle.bz_explore_moves.proofs.Members.{move_grows}
use Rattle.bz_explore_moves.proofs.objects.put_move_members.Goals as goal

pub returns : goal.returns
returns c = move_grows c.args.net.now.wiring.sites c.args.offer _ _ _ _ _ c.put_pieces.ensures c.put_value_member.ensures c.kind_of.ensures (c.as_bytes.ensures.value ∙ c.word.ensures)
